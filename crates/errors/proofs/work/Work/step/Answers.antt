-- `step`: the errors below the pivots first, then the tests, each on the rows as they are then.
use mathlib.Core.Path.{sym, ◌∙◌}
use mathlib.Core.Bool.{true≢false}
use Rattle.errors.proofs.Stepping.{step_all}
use Rattle.errors.proofs.work.Work.step.Goals as goal
use Rattle.errors.proofs.work.Work.step.Goals.{then-diagonal_zero, else-diagonal_zero, then-diagonal_zero-2, else-diagonal_zero-2}

pub returns-then-put_pivot : goal.returns-then-put_pivot
returns-then-put_pivot c = elim c.if-diagonal_zero-2.branch [
  | then-diagonal_zero-2 q ↦ elim c.if-diagonal_zero.branch [
    | then-diagonal_zero p ↦ step_all _ _ _ _ _ _ _ _ _ _ _ _ _
        p.if-diagonal_zero.true (sym p.value-is ∙ q.if-diagonal_zero-2.true) (sym q.value-is ∙ c.if-put_pivot.true)
        c.extend.ensures c.diagonal_zero.ensures p.diagonal_zero-then-diagonal_zero.ensures
        q.put_pivot.ensures (rw q.found-is at c.put_pivot-then-put_pivot.ensures)
        c.requires.tested_in c.requires.pivots_in
    | else-diagonal_zero p ↦ absurd (true≢false (sym q.if-diagonal_zero-2.true ∙ p.value-is ∙ p.if-diagonal_zero.false))
  ]
  | else-diagonal_zero-2 q ↦ absurd (true≢false (sym c.if-put_pivot.true ∙ q.value-is ∙ q.if-diagonal_zero-2.false))
]
