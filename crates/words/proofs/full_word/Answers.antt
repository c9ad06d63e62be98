use mathlib.Core.Path.{◌≡◌}
use native.Mathlib.Omega.{arith}
use borrow.Author.Rules.{rules}
use Rattle.words.proofs.Load.{rows_none, rows_more, rows_all, spaced}
use Rattle.words.proofs.full_word.Goals as goal

pub loop-k-init : goal.loop-k-init
loop-k-init c = rows_none _ _

pub loop-k-preserved : goal.loop-k-preserved
loop-k-preserved c = rows_more _ _ _ _ _ c.loop-k.invariant (spaced _ _ _ c.requires.bits c.eight_at.ensures) (search rules)

pub returns : goal.returns
returns c =
    let e : c.loop-k.k ≡ 8 = omega arith in
    rows_all _ _ _ _ (rw e at c.loop-k.invariant) c.transpose.ensures
