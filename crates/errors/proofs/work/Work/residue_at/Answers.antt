-- `residue_at`: with none, one or two tracks below the pivots.
use native.Mathlib.Omega.{arith}
use mathlib.Core.Path.{ap}
use Rattle.code.specs.Sizes.{shape}
use Rattle.plans.specs.Plans.{below_count}
use Rattle.errors.specs.Rows.{cell, diagonals, verticals}
use Rattle.errors.proofs.Numbers.{one_track, two_tracks}
use Rattle.errors.proofs.Pivoting.{residue_none, residue_one, residue_two}
use Rattle.errors.proofs.work.Work.residue_at.Goals as goal

pub returns-in-None : goal.returns-in-None
returns-in-None c =
    let a = c.args in
    let w = a.self.now in
    residue_none (shape w.z) w.end w.form (diagonals w.rows.now) (verticals w.rows.now) (cell a.found.now 0) (cell a.found.now 1) a.d a.at _ c.left_at-whole.ensures
    (ap below_count c.in-None.is)

pub returns-in-One : goal.returns-in-One
returns-in-One c =
    let a = c.args in
    let w = a.self.now in
    let one = one_track w.form c.in-One.v c.in-One.is in
    residue_one (shape w.z) w.end w.form (diagonals w.rows.now) (verticals w.rows.now) (cell a.found.now 0) (cell a.found.now 1) a.d a.at _ c.left_at-whole.ensures
    _ (rw one.1 at c.met_at.ensures) one.0

pub returns-in-Two : goal.returns-in-Two
returns-in-Two c =
    let a = c.args in
    let w = a.self.now in
    let two = two_tracks w.form c.in-Two.v c.in-Two.u c.in-Two.is in
    residue_two (shape w.z) w.end w.form (diagonals w.rows.now) (verticals w.rows.now) (cell a.found.now 0) (cell a.found.now 1) a.d a.at _ c.left_at-whole.ensures
    _ (rw two.1 at c.met_at-in-Two.ensures) (omega (arith, two.0)) _ (rw two.2 at c.met_at-in-Two-2.ensures)
