-- `try_choice`: the form is that of the flagged tracks and the extras.
use mathlib.Core.Path.{sym, ◌∙◌}
use mathlib.Core.Bool.{true≢false}
use native.Mathlib.Omega.{arith}
use Rattle.code.specs.declared.sizes.TrackSet.TheVariants.{A, B}
use Rattle.code.specs.Sizes.{shape}
use Rattle.code.proofs.Cell.{vertical_data, vertical_within}
use Rattle.trace.proofs.Trying.{three_a, three_b, choice_form, choice_passed, choice_unexplained, choice_failed, choice_fits}
use Rattle.trace.proofs.try_choice.Goals as goal
use Rattle.trace.proofs.try_choice.Goals.{then-not-explained_by-via-then-not-explained_by, then-not-explained_by-via-else-not-explained_by+then-not-explained_by-2}

pub returns-then-not-allows : goal.returns-then-not-allows
returns-then-not-allows c = let s = c.requires in choice_passed _ _ s.traceable _ s.choice _ s.fresh (c.allows.ensures.not_allowed c.if-not-allows.true)

pub returns-then-not-explained_by : goal.returns-then-not-explained_by
returns-then-not-explained_by c =
    let s = c.requires in
    elim c.then-not-explained_by.branch [
      | then-not-explained_by-via-then-not-explained_by w ↦
          choice_unexplained _ _ s.traceable _ s.choice _ s.fresh A (λ h. true≢false (sym (c.explained_by.ensures.1 h) ∙ w.if-not-explained_by.true))
      | then-not-explained_by-via-else-not-explained_by+then-not-explained_by-2 w ↦
          choice_unexplained _ _ s.traceable _ s.choice _ s.fresh B (λ h. true≢false (sym (w.explained_by-else-not-explained_by.ensures.1 h) ∙ w.if-not-explained_by-2.true))
    ]

pub form_of-p-requires-clause-sorted : goal.form_of-p-requires-clause-sorted
form_of-p-requires-clause-sorted c =
    let s = c.requires in
    (three_a _ _ s.traceable _ s.choice (c.allows.ensures.yes_allowed c.if-not-allows.false) _ c.insert-x.ensures).sorted

pub form_of-p-requires-clause-sorted_2 : goal.form_of-p-requires-clause-sorted_2
form_of-p-requires-clause-sorted_2 c =
    let s = c.requires in
    (three_b _ _ s.traceable _ s.choice (c.allows.ensures.yes_allowed c.if-not-allows.false) _ c.insert-y.ensures).sorted

pub find-requires-clause-given : goal.find-requires-clause-given
find-requires-clause-given c =
    let e = c.vertical_end.ensures in
    let s = c.requires in
    let p = choice_form _ _ s.traceable _ s.choice (c.allows.ensures.yes_allowed c.if-not-allows.false) _ _ c.insert-x.ensures c.insert-y.ensures _ c.form_of-p.ensures in
    record { end_data = omega (arith, e, vertical_data (shape c.args.tracer.z)); end_small = omega (arith, e, vertical_within (shape c.args.tracer.z)); sized = p.sized; sums = s.traceable.sums; errors = s.fresh.rows }

pub returns-then-not-find : goal.returns-then-not-find
returns-then-not-find c =
    let s = c.requires in
    let w = c.if-not-find.ensures in
    choice_failed _ _ s.traceable _ s.choice _ w.fresh _
    (choice_form _ _ s.traceable _ s.choice (c.allows.ensures.yes_allowed c.if-not-allows.false) _ _ c.insert-x.ensures c.insert-y.ensures _ c.form_of-p.ensures)
    (rw c.vertical_end.ensures at w.found)

pub returns : goal.returns
returns c =
    let s = c.requires in
    let w = c.if-not-find.ensures in
    let allowed = c.allows.ensures.yes_allowed c.if-not-allows.false in
    choice_fits _ _ s.traceable _ s.choice _ w.fresh _
    (choice_form _ _ s.traceable _ s.choice allowed _ _ c.insert-x.ensures c.insert-y.ensures _ c.form_of-p.ensures) allowed
    (elim [ A ↦ c.explained_by.ensures.0 c.if-not-explained_by.false | B ↦ c.explained_by-else-not-explained_by.ensures.0 c.if-not-explained_by-2.false ])
    (rw c.vertical_end.ensures at w.found)
