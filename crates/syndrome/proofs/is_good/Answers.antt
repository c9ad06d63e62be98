-- All sums are 0, and the tails of both sets.
use mathlib.Core.Path.{sym, ◌∙◌}
use mathlib.Core.Bool.{true≢false}
use Rattle.code.specs.declared.sizes.TrackSet.TheVariants.{A, B}
use Rattle.syndrome.proofs.Testing.{not_good, sums_zero, sums_not, good_tail, makes_good}
use Rattle.syndrome.proofs.is_good.Goals as goal
use Rattle.syndrome.proofs.is_good.Goals.{then-all_zero, else-all_zero}

pub returns-then-tail_zero : goal.returns-then-tail_zero
returns-then-tail_zero c =
    let h = c.requires in
    let b = c.tail_zero-then-tail_zero.ensures in
    elim c.if-all_zero.branch [
      | then-all_zero w ↦ record {
        yes_good = λ e. makes_good _ _ _ h.kept h.closed_value
            (sums_zero _ _ _ h.kept h.closed_value (rw c.track_length-l.ensures at c.all_zero.ensures) w.if-all_zero.true)
            (w.tail_zero.ensures.all (sym w.value-is ∙ c.if-tail_zero.true))
            (b.all e);
        not_good = λ e g. b.not_all e (good_tail _ _ _ h.kept h.closed_value g B);
      }
      | else-all_zero w ↦ absurd (true≢false (sym c.if-tail_zero.true ∙ w.value-is ∙ w.if-all_zero.false))
    ]

pub returns-else-tail_zero : goal.returns-else-tail_zero
returns-else-tail_zero c =
    let h = c.requires in
    rw c.if-tail_zero.false (elim c.if-all_zero.branch [
      | then-all_zero w ↦ not_good _ _ (λ g. w.tail_zero.ensures.not_all (sym w.value-is ∙ c.if-tail_zero.false) (good_tail _ _ _ h.kept h.closed_value g A))
      | else-all_zero w ↦ not_good _ _ (sums_not _ _ _ h.kept h.closed_value (rw c.track_length-l.ensures at c.all_zero.ensures) w.if-all_zero.false)
    ])
