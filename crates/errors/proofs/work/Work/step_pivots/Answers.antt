-- `step_pivots`: nothing is put before the tests, and the diagonals are what is left of them.
use mathlib.Core.Path.{sym, ◌∙◌}
use mathlib.Core.Bool.{true≢false}
use native.Mathlib.Omega.{arith}
use Rattle.code.specs.declared.sizes.TrackSet.TheVariants.{A, B}
use Rattle.errors.proofs.Lows.{extended_none}
use Rattle.errors.proofs.Pivoting.{left_diagonal}
use Rattle.errors.proofs.Stepping.{step_diagonal, step_pivot, step_all}
use Rattle.errors.proofs.work.Work.step_pivots.Goals as goal
use Rattle.errors.proofs.work.Work.step_pivots.Goals.{then-left_zero, else-left_zero, then-left_zero-2, else-left_zero-2}

pub returns-then-put_pivot : goal.returns-then-put_pivot
returns-then-put_pivot c =
    let a = c.args in
    let w = a.self.now in
    let s = c.requires in
    elim c.if-left_zero-2.branch [
      | then-left_zero-2 q ↦ elim c.if-left_zero.branch [
        | then-left_zero p ↦ step_all _ _ _ _ _ _ _ _ _ _ _ _ _
            p.if-left_zero.true (sym p.value-is ∙ q.if-left_zero-2.true) (sym q.value-is ∙ c.if-put_pivot.true)
            (extended_none _ _ _ _ _ _ s.errors (omega (arith, s.below_value)))
            (left_diagonal w.z w.end w.form w.rows.now a.found.now A a.i _ s.below_value c.left_zero.ensures)
            (left_diagonal w.z w.end w.form w.rows.now a.found.now B a.i _ s.below_value p.left_zero-then-left_zero.ensures)
            q.put_pivot.ensures (rw q.found-is at c.put_pivot-then-put_pivot.ensures)
            s.tested_in s.pivots_in
        | else-left_zero p ↦ absurd (true≢false (sym q.if-left_zero-2.true ∙ p.value-is ∙ p.if-left_zero.false))
      ]
      | else-left_zero-2 q ↦ absurd (true≢false (sym c.if-put_pivot.true ∙ q.value-is ∙ q.if-left_zero-2.false))
    ]

pub returns-else-put_pivot : goal.returns-else-put_pivot
returns-else-put_pivot c =
    let a = c.args in
    let w = a.self.now in
    let s = c.requires in
    let none = extended_none w.z w.end w.form w.rows.now a.found.now a.i s.errors (omega (arith, s.below_value)) in
    elim c.if-left_zero-2.branch [
      | then-left_zero-2 q ↦ rw (c.if-put_pivot.false, q.found-is) (step_pivot _ _ _ _ _ _ _ _ _ _ (sym q.value-is ∙ c.if-put_pivot.false) none q.put_pivot.ensures)
      | else-left_zero-2 q ↦ elim c.if-left_zero.branch [
        | then-left_zero p ↦ rw (c.if-put_pivot.false, q.found-is) (step_diagonal _ _ _ _ _ _ _ B _ (sym p.value-is ∙ q.if-left_zero-2.false) none
            (left_diagonal w.z w.end w.form w.rows.now a.found.now B a.i _ s.below_value p.left_zero-then-left_zero.ensures))
        | else-left_zero p ↦ rw (c.if-put_pivot.false, q.found-is) (step_diagonal _ _ _ _ _ _ _ A _ p.if-left_zero.false none
            (left_diagonal w.z w.end w.form w.rows.now a.found.now A a.i _ s.below_value c.left_zero.ensures))
      ]
    ]
