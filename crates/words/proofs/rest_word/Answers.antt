use Prim.Native.Nat.{◌-◌}
use native.Mathlib.Omega.{arith}
use borrow.Author.Rules.{rules}
use lib.ListN.{length}
use Rattle.track.proofs.Parts.{part_at}
use Rattle.words.proofs.Load.{gathered_none, gathered_more, gathered_one}
use Rattle.words.proofs.rest_word.Goals as goal

pub loop-k-init : goal.loop-k-init
loop-k-init c = gathered_none _ _

pub loop-k-preserved : goal.loop-k-preserved
loop-k-preserved c =
    let s = c.args.stretch.now in
    let l = c.loop-k in
    rw (part_at s c.args.at (length s - c.args.at) l.k (search rules)) (gathered_more _ _ _ _ 1 _ l.invariant (gathered_one _ _ (c.requires.bits.bit _)) (omega arith))
