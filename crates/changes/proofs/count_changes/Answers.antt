use Rattle.std.proofs.Common.{◌∙◌, arith}
use Rattle.solver.proofs.Marks.{mark_read}
use Rattle.changes.proofs.Tracks.{has_track, counting_none, counting_more, counting_same, counting_all, few_changed}
use Rattle.changes.proofs.count_changes.Goals as goal
use Rattle.changes.proofs.count_changes.Goals.{then-is_set, else-is_set}

pub loop-g-init : goal.loop-g-init
loop-g-init g c = counting_none _ _ _

pub count_track-changed-requires : goal.count_track-changed-requires
count_track-changed-requires g c = rw c.track_length-l.ensures (has_track _ _ _ _ _ _ c.requires _ (omega arith))

pub overflow_cast-cells : goal.overflow_cast-cells
overflow_cast-cells g c = omega (arith, few_changed _ _ _ _ _ _ c.requires _ c.track_length-l.ensures c.loop-g.g (omega arith) _ c.count_track-changed.ensures)

pub overflow_add-cells : goal.overflow_add-cells
overflow_add-cells g c =
    omega (arith, c.loop-g.invariant.count_small, few_changed _ _ _ _ _ _ c.requires _ c.track_length-l.ensures c.loop-g.g (omega arith) _ c.count_track-changed.ensures)

pub loop-g-preserved : goal.loop-g-preserved
loop-g-preserved g c =
    let read = mark_read g.M.Mark.counts g.M.Mark.none c.args.marks.now _ _ _ c.index-marks-g.is (omega (arith, c.requires.marks_size)) c.is_set.ensures in
    elim c.if-is_set.branch [
      | then-is_set w ↦ rw (w.mask-is, w.cells-is) (counting_more _ _ _ _ _ _ c.requires _ c.track_length-l.ensures c.loop-g.g (omega arith) _ _ _ _ c.loop-g.invariant w.count_track-changed.ensures w.mask_bit-mask.ensures)
      | else-is_set w ↦ rw (w.mask-is, w.cells-is) (counting_same _ _ _ _ _ _ c.requires _ c.track_length-l.ensures c.loop-g.g (omega arith) _ _ (read ∙ w.if-is_set.false) c.loop-g.invariant)
    ]

pub returns : goal.returns
returns g c = counting_all c.args.z _ _ _ _ _ _ c.track_length-l.ensures (omega arith) c.loop-g.invariant
