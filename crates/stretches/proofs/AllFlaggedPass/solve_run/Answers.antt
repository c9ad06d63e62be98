-- Plans for both sets, by the word and the marks of the window.
use Prim.Native.Nat.{◌≤◌}
use native.Mathlib.Omega.{arith}
use Rattle.code.specs.Flags.{word_flags, flag_count}
use Rattle.code.specs.Sizes.{shape}
use Rattle.code.specs.declared.sizes.TrackSet.TheVariants.{A, B}
use Rattle.code.proofs.Patterns.{in_each}
use Rattle.stretches.proofs.Planning.{three_near, marks_below}
use Rattle.stretches.proofs.Advancing.{second_none, second_run}
use Rattle.stretches.proofs.AllFlaggedPass.solve_run.Goals as goal

pub returns-then-at_most_one-2 : goal.returns-then-at_most_one-2
returns-then-at_most_one-2 c =
    let sh = shape c.args.run.z in
    second_none c.requires.kept c.args.run.inside (in_each (λ s. flag_count sh (word_flags sh c.args.word) s ≤ 1)
    (c.at_most_one.ensures.most c.if-at_most_one.true) (c.at_most_one-then-at_most_one.ensures.most c.if-at_most_one-2.true))

pub plan_at-a-requires : goal.plan_at-a-requires
plan_at-a-requires c =
    let r = c.args.run in
    let w = c.requires.in_window in
    let n = c.marks_of-near.ensures in
    record { z_in_bounds = omega arith; few = three_near r.z r.closed _ _ w A _ n; below = marks_below r.z r.closed _ _ w A _ n }

pub plan_at-b-requires : goal.plan_at-b-requires
plan_at-b-requires c =
    let r = c.args.run in
    let w = c.requires.in_window in
    let n = c.marks_of-near.ensures in
    record { z_in_bounds = omega arith; few = three_near r.z r.closed _ _ w B _ n; below = marks_below r.z r.closed _ _ w B _ n }

pub returns-then-in_data : goal.returns-then-in_data
returns-then-in_data c =
    let r = c.args.run in second_run r.closed r.inside c.marks_of-near.ensures c.plan_at-a.ensures c.plan_at-b.ensures c.data_run.ensures

pub returns-else-in_data : goal.returns-else-in_data
returns-else-in_data c =
    let r = c.args.run in second_run r.closed r.inside c.marks_of-near.ensures c.plan_at-a.ensures c.plan_at-b.ensures c.tail_run.ensures
