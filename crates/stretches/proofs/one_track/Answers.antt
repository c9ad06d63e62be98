-- One track more, or a second flagged one.
use mathlib.Core.Path.{sym, ◌∙◌}
use native.Mathlib.Omega.{arith}
use Rattle.stretches.proofs.Planning.{only_same, only_next, one_flagged, two_flagged}
use Rattle.stretches.proofs.one_track.Goals as goal
use Rattle.stretches.proofs.one_track.Goals.{then-is_flagged+else-is_some, else-is_flagged}

pub returns-then-is_some : goal.returns-then-is_some
returns-then-is_some c =
    two_flagged _ _ _ (omega arith) c.loop-t.invariant (sym c.is_some.ensures ∙ c.if-is_some.true) (sym c.is_flagged.ensures ∙ c.if-is_flagged.true)

pub loop-t-preserved : goal.loop-t-preserved
loop-t-preserved c = elim c.if-is_flagged.branch [
  | then-is_flagged+else-is_some w ↦ rw w.track-is (only_next c.loop-t.invariant (sym w.is_some.ensures ∙ w.if-is_some.false) (sym c.is_flagged.ensures ∙ w.if-is_flagged.true))
  | else-is_flagged w ↦ rw w.track-is (only_same c.loop-t.invariant (sym c.is_flagged.ensures ∙ w.if-is_flagged.false))
]

pub returns : goal.returns
returns c = one_flagged _ _ _ (omega arith) c.loop-t.invariant
