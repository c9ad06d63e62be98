-- The plan for the window's marks, and what the position's flags keep of it.
use Rattle.solver.specs.Solver.{is_last}
use Rattle.stretches.proofs.Planning.{plan_none, plan_kept}
use Rattle.stretches.proofs.plan_at.Goals as goal

pub returns-then-at_most_one : goal.returns-then-at_most_one
returns-then-at_most_one c = plan_none _ _ _ _ (c.at_most_one.ensures.most c.if-at_most_one.true)

pub if_flagged-last-requires : goal.if_flagged-last-requires
if_flagged-last-requires c t e = c.make_plan-wide.ensures.planned.exist t (is_last e)

pub returns : goal.returns
returns c =
    let w = c.make_plan-wide.ensures in
    plan_kept _ _ _ _ _ _ _ _ w.planned w.fills c.requires.below c.if_flagged-low.ensures c.if_flagged-high.ensures c.if_flagged-last.ensures
