-- The sum that is added is that of the track in the tail.
use native.Mathlib.Omega.{arith}
use Rattle.solver.proofs.Settling.{settled_added, settled_sum}
use Rattle.solver.proofs.by_tail.Goals as goal

pub returns-then-t-tracks : goal.returns-then-t-tracks
returns-then-t-tracks c =
    let h = c.requires in
    let b = c.tail_bit-bit.ensures in
    rw c.in-Some.is (settled_sum _ b.sum (settled_added _ b.bit h.kept (record { track_small = omega arith; position_small = h.p_bound }) c.add_any.ensures))
