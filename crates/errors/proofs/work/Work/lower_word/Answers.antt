-- `lower_word`: what is left of v's diagonal, with u taken off, is the row of the quotient, and the word before is in v's row.
use Prim.Native.Nat.{◌+◌, ◌*◌}
use native.Mathlib.Omega.{arith}
use Rattle.code.specs.Record.{track_length}
use Rattle.code.specs.Sizes.{shape}
use Rattle.code.proofs.Cell.{lag_sets}
use Rattle.plans.specs.Plans.{v_of}
use Rattle.errors.specs.Rows.{Shown}
use Rattle.forms.proofs.Lows.{form_order}
use Rattle.errors.proofs.Numbers.{two_tracks, not_two, v_seven}
use Rattle.errors.proofs.Lows.{lower_left, lower_one, lower_two, lower_next}
use Rattle.errors.proofs.work.Work.lower_word.Goals as goal
use Rattle.errors.proofs.work.Work.lower_word.Goals.{in-Two, in_default}

pub overflow_add-at-2 : goal.overflow_add-at-2
overflow_add-at-2 c = let w = c.args.self.now in omega (arith, v_seven w.z w.form w.sized c.requires.le_below c.args.v c.requires.v_is)

pub left_at-whole-requires-clause-at_bound : goal.left_at-whole-requires-clause-at_bound
left_at-whole-requires-clause-at_bound c = let w = c.args.self.now in omega (arith, v_seven w.z w.form w.sized c.requires.le_below c.args.v c.requires.v_is)

pub returns : goal.returns
returns c =
    let a = c.args in
    let w = a.self.now in
    let v = ((form_order (shape w.z) w.form w.sized).v_below c.requires.le_below).on_diagonals in
    let whole = rw c.requires.v_is at c.left_at-whole.ensures in
    let row_here : Shown (track_length (shape w.z)) (lower_left w.z w.end w.form w.rows.now a.found.now) (64 * a.i + 64 + (v_of w.form).t) c.match-self.r =
    elim c.match-self.branch [
      | in-Two b ↦
          let two = two_tracks w.form b.in-Two.v b.in-Two.u b.in-Two.is in
          rw b.r-is (lower_two w.z w.end w.form w.rows.now a.found.now _ _ _ (omega (arith, two.0)) whole (rw (c.requires.v_is, two.2) at b.met_at.ensures))
      | in_default b ↦ rw b.r-is (lower_one w.z w.end w.form w.rows.now a.found.now _ _ (not_two w.form b.in_default.not-Two) whole)
    ] in
    lower_next w.z w.end w.form w.rows.now a.found.now c.requires.errors a.i _ _ _ _
    (omega arith) row_here (omega (arith, v, lag_sets (shape w.z) (v_of w.form).s))
    (rw (c.word_before.ensures, c.rest.ensures) at c.first_cells-prior.ensures)
    (rw c.requires.v_is at c.gap_of.ensures) (rw c.rest-2.ensures at c.quotient_word.ensures)
