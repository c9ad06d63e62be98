use native.Mathlib.Omega.{arith}
use Rattle.codec.proofs.Gathered.{reading_more}
use Rattle.codec.proofs.read_data.Goals as goal

pub loop-p-preserved : goal.loop-p-preserved
loop-p-preserved c =
    let h = c.requires.sized in
    reading_more _ _ _ _ _ _ _ (omega arith) h.whole (omega (arith, h.positions)) c.loop-p.invariant
    (rw (c.data_start-start.ensures.is, c.track_length.ensures) at c.read_track.ensures)
