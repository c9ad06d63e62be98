-- `form_of`: by how many flagged tracks the sets have.
use mathlib.Core.Path.{ap}
use Rattle.plans.specs.Plans.{place}
use Rattle.plans.proofs.Forming.{form_one_a, form_two_a, form_two_b}
use Rattle.plans.proofs.form_of.Goals as goal

pub returns-in-Some-None : goal.returns-in-Some-None
returns-in-Some-None c =
    form_one_a _ _ _ _ _ c.pivot_of-a.ensures c.pivot_of-b.ensures _ _ c.second_of.ensures c.second_of-2.ensures
    _ c.in-Some-None.is-0 (ap place c.in_default.is) c.in-Some-None.is-1

pub returns-then-z : goal.returns-then-z
returns-then-z c =
    form_two_b _ _ _ _ _ c.pivot_of-a.ensures c.pivot_of-b.ensures _ _ c.second_of.ensures c.second_of-2.ensures
    _ _ c.in-Some-Some.is-0 c.in-Some-Some.is-1 (ap place c.in_default.is) (ap place c.in_default-low.is) c.if-z.true

pub returns-else-z : goal.returns-else-z
returns-else-z c =
    form_two_a _ _ _ _ _ c.pivot_of-a.ensures c.pivot_of-b.ensures _ _ c.second_of.ensures c.second_of-2.ensures
    _ _ c.in-Some-Some.is-0 c.in-Some-Some.is-1 (ap place c.in_default.is) (ap place c.in_default-low.is) c.if-z.false
