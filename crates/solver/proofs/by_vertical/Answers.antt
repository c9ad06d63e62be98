-- The sum that is added is the vertical of the set.
use native.Mathlib.Omega.{arith}
use Rattle.solver.proofs.Settling.{settled_added, settled_sum}
use Rattle.solver.proofs.by_vertical.Goals as goal

pub returns-then-t-tracks : goal.returns-then-t-tracks
returns-then-t-tracks c =
    let h = c.requires in
    let e = rw (c.row.ensures, c.track_length.ensures) at c.add_any.ensures in
    rw c.in-Some.is (settled_sum _ (h.kept.holds.verticals c.args.s c.args.p h.p_bound)
    (settled_added _ (h.kept.holds.bits _) h.kept (record { track_small = omega arith; position_small = h.p_bound }) e))
