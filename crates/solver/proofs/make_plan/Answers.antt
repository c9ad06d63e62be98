-- The newest three marks of all tracks, and the plan of each case.
use mathlib.Core.Path.{sym, ◌∙◌}
use native.Mathlib.Omega.{arith}
use Rattle.code.specs.Sizes.{shape}
use Rattle.solver.proofs.Sets.{number_within, same_by_test, other_by_test}
use Rattle.solver.proofs.Marks.{mark_read}
use Rattle.solver.proofs.Plans.{three_at_most, newest_of, newest_none, newest_same, newest_next, plan_two, plan_vertical, plan_three, fills_two, fills_three}
use Rattle.solver.proofs.make_plan.Goals as goal
use Rattle.solver.proofs.make_plan.Goals.{else-is_set, then-is_set}

pub loop-t-init : goal.loop-t-init
loop-t-init g c = newest_none _

pub loop-t-preserved : goal.loop-t-preserved
loop-t-preserved g c =
    let n = c.loop-t.invariant in
    let few = three_at_most g.M.Mark.counts g.M.Mark.none (shape c.args.z) c.args.marks.now c.args.s _ c.track_number-first.ensures.is c.requires.few c.loop-t.t (omega arith) in
    let l = number_within (shape c.args.z) c.args.s _ c.loop-t.t _ c.track_number-first.ensures.is (omega arith) c.requires.z_in_bounds in
    let read = mark_read g.M.Mark.counts g.M.Mark.none c.args.marks.now _ _ _ c.index-marks-first.is l c.is_set.ensures in
    elim c.if-is_set.branch [
      | then-is_set w ↦ rw (w.i-is, w.j-is, w.k-is) (newest_next n (read ∙ w.if-is_set.true) few)
      | else-is_set w ↦ rw (w.i-is, w.j-is, w.k-is) (newest_same n (read ∙ w.if-is_set.false))
    ]

pub returns-in-None : goal.returns-in-None
returns-in-None g c =
    let n = newest_of g.M.Mark.counts g.M.Mark.none (shape c.args.z) c.args.marks.now c.args.s _ c.track_number-first.ensures.is (omega arith) c.loop-t.invariant in
    record { planned = plan_two _ _ _ _ _ _ n c.in-None.is; fills = fills_two _ _ _ _ _ _ n }

pub returns-in-Some : goal.returns-in-Some
returns-in-Some g c =
    let n = newest_of g.M.Mark.counts g.M.Mark.none (shape c.args.z) c.args.marks.now c.args.s _ c.track_number-first.ensures.is (omega arith) c.loop-t.invariant in
    record {
      planned = plan_vertical _ _ _ _ _ _ n _ c.in-Some.is (same_by_test (omega arith) (sym c.eq.ensures ∙ c.if-eq.true));
      fills = fills_three _ _ _ _ _ _ n _ c.in-Some.is _;
    }

pub returns-in-Some-2 : goal.returns-in-Some-2
returns-in-Some-2 g c =
    let n = newest_of g.M.Mark.counts g.M.Mark.none (shape c.args.z) c.args.marks.now c.args.s _ c.track_number-first.ensures.is (omega arith) c.loop-t.invariant in
    record {
      planned = plan_three _ _ _ _ _ _ n _ c.in-Some-2.is (other_by_test (omega arith) (sym c.eq.ensures ∙ c.if-eq.false));
      fills = fills_three _ _ _ _ _ _ n _ c.in-Some-2.is _;
    }
