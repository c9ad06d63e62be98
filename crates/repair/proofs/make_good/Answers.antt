-- `make_good`: the errors that pass all tests are added.
use mathlib.Core.Path.{sym, ◌∙◌}
use mathlib.Core.Bool.{true≢false}
use native.Mathlib.Omega.{arith}
use Rattle.code.specs.declared.sizes.TrackSet.TheVariants.{A, B}
use Rattle.code.specs.Sizes.{shape}
use Rattle.code.proofs.Cell.{vertical_data, vertical_within}
use Rattle.repair.proofs.Blank.{blank_rows, blank_fresh}
use Rattle.repair.proofs.Working.{pivot_right}
use Rattle.repair.proofs.Making.{made_needed, made_failed, made_all}
use Rattle.repair.proofs.make_good.Goals as goal
use Rattle.repair.proofs.make_good.Goals.{then-not-explained_by-via-then-not-explained_by, then-not-explained_by-via-else-not-explained_by+then-not-explained_by-2}

pub returns-then-not-explained_by : goal.returns-then-not-explained_by
returns-then-not-explained_by c = elim c.then-not-explained_by.branch [
  | then-not-explained_by-via-then-not-explained_by w ↦ made_needed _ _ _ _ _ A (λ h. true≢false (sym (c.explained_by.ensures.1 h) ∙ w.if-not-explained_by.true))
  | then-not-explained_by-via-else-not-explained_by+then-not-explained_by-2 w ↦ made_needed _ _ _ _ _ B (λ h. true≢false (sym (w.explained_by-else-not-explained_by.ensures.1 h) ∙ w.if-not-explained_by-2.true))
]

pub find-requires-clause-given : goal.find-requires-clause-given
find-requires-clause-given c =
    let e = c.vertical_end.ensures in
    let s = c.requires in
    record { end_data = omega (arith, e, vertical_data (shape c.args.z)); end_small = omega (arith, e, vertical_within (shape c.args.z)); sized = s.sized; sums = s.rows; errors = blank_rows 5 }

pub find-requires-clause-fresh_2 : goal.find-requires-clause-fresh_2
find-requires-clause-fresh_2 c = blank_fresh _

pub returns-then-not-find : goal.returns-then-not-find
returns-then-not-find c = made_failed _ _ _ _ _ _ (rw c.vertical_end.ensures at c.if-not-find.ensures.found)

pub add_errors-requires-clause-m_value : goal.add_errors-requires-clause-m_value
add_errors-requires-clause-m_value c = pivot_right _ _ _ _ (rw c.vertical_end.ensures at c.if-not-find.ensures.found)

pub returns : goal.returns
returns c =
    made_all _ _ _ _ _ (elim [ A ↦ c.explained_by.ensures.0 c.if-not-explained_by.false | B ↦ c.explained_by-else-not-explained_by.ensures.0 c.if-not-explained_by-2.false ])
    _ _ (rw c.vertical_end.ensures at c.if-not-find.ensures.found) (c.add_errors.ensures.image.size ∙ sym c.requires.image.size) c.add_errors.ensures
