use native.Mathlib.Omega.{arith}
use Rattle.codec.proofs.Checks.{added_none, added_more}
use Rattle.codec.proofs.add_data.Goals as goal

pub loop-c-init : goal.loop-c-init
loop-c-init c = added_none _ _ _ _ c.requires.bits

pub loop-c-preserved : goal.loop-c-preserved
loop-c-preserved c =
    let h = c.requires in
    added_more _ _ _ _ _ _ _ _ h.sums_len c.track_number.ensures.is (omega arith) h.tail_zero c.loop-c.invariant
    (rw c.track_length.ensures at c.add_track.ensures)
