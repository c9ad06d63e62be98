use mathlib.Core.Path.{◌∙◌}
use native.Mathlib.Omega.{arith}
use Rattle.code.specs.Sizes.{shape}
use Rattle.solver.proofs.Sets.{number_within}
use Rattle.solver.proofs.Marks.{mark_read}
use Rattle.plans.proofs.Finding.{find_none, find_same, find_more, find_all}
use Rattle.plans.proofs.find_three.Goals as goal
use Rattle.plans.proofs.find_three.Goals.{else-is_set, then-is_set}

pub loop-t-init : goal.loop-t-init
loop-t-init g c = find_none _ _ _

pub loop-t-preserved : goal.loop-t-preserved
loop-t-preserved g c =
    let a = c.args in
    let l = c.loop-t in
    let k = number_within (shape a.z) a.s _ l.t _ c.track_number-first.ensures.is (omega arith) c.requires.z_in_bounds in
    let read = mark_read g.M.Mark.counts g.M.Mark.none a.marks.now _ _ _ c.index-marks-first.is k c.is_set.ensures in
    elim c.if-is_set.branch [
      | then-is_set w ↦
          rw w.x-is (find_more g.M.Mark.counts g.M.Mark.none (shape a.z) a.marks.now a.s _ l.t _ (omega arith) l.invariant _ (read ∙ w.if-is_set.true) (omega arith) c.requires.s_bound_2 w.insert-x.ensures)
      | else-is_set w ↦ rw w.x-is (find_same g.M.Mark.counts g.M.Mark.none (shape a.z) a.marks.now a.s _ l.t _ (omega arith) l.invariant (read ∙ w.if-is_set.false))
    ]

pub returns : goal.returns
returns g c = find_all _ _ _ c.loop-t.t _ (omega arith) c.loop-t.invariant
