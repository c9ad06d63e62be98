-- The way's syndrome is a bit, and is added to the cell.
use native.Mathlib.Omega.{arith}
use Rattle.solver.proofs.Settling.{settled_added, way_in}
use Rattle.solver.proofs.settle.Goals as goal

pub overflow_add-bit : goal.overflow_add-bit
overflow_add-bit c =
    let w = rw c.in-Some.is at c.requires.way_of in
    let r = way_in c.requires.kept w.0 c.args.p w.1 c.requires.p_lt_positions in
    omega (arith, r, c.requires.kept.holds.size)

pub bounds-syn-w : goal.bounds-syn-w
bounds-syn-w c = let w = rw c.in-Some.is at c.requires.way_of in way_in c.requires.kept w.0 c.args.p w.1 c.requires.p_lt_positions

pub returns-in-Some : goal.returns-in-Some
returns-in-Some c =
    let h = c.requires in
    let w = rw c.in-Some.is at h.way_of in
    rw c.in-Some.is (settled_added _ (h.kept.holds.bits _) h.kept (record { track_small = w.1.track; position_small = omega arith }) c.add_cell.ensures)
