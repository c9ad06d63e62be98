use native.Mathlib.Omega.{arith}
use lib.Arith.{digits_lt}
use Rattle.codec.proofs.Gathered.{column_more}
use Rattle.codec.proofs.read_track.Goals as goal

pub loop-b-preserved : goal.loop-b-preserved
loop-b-preserved c =
    let h = c.requires.column in
    column_more _ _ _ _ _ _ _ h.column c.loop-b.invariant
    (omega (arith, digits_lt {m = c.args.blocks} {c = c.args.step} c.loop-b-test.true h.column, h.bytes)) c.pack.ensures
