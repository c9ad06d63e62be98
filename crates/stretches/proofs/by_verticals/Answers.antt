use native.Mathlib.Omega.{arith}
use Rattle.code.specs.Sizes.{shape}
use Rattle.code.proofs.Closings.{is_closed, closed_end}
use Rattle.solver.proofs.Advancing.{ahead_more}
use Rattle.stretches.proofs.by_verticals.Goals as goal

pub loop-p-preserved : goal.loop-p-preserved
loop-p-preserved c =
    let z = c.args.part.z in
    ahead_more (omega (arith, closed_end (shape z) (is_closed z c.args.part.closed))) c.loop-p.invariant c.by_vertical.ensures
