use native.Mathlib.Omega.{arith}
use Rattle.codec.proofs.Filled.{next_blank, filling_more}
use Rattle.codec.proofs.write_data.Goals as goal

pub write_track-requires-clause-by_index : goal.write_track-requires-clause-by_index
write_track-requires-clause-by_index c =
    rw (c.data_start-start.ensures.is, c.track_length.ensures) (next_blank _ _ _ _ _ (omega arith) c.loop-p.invariant)

pub loop-p-preserved : goal.loop-p-preserved
loop-p-preserved c =
    let w = c.write_track in
    let s = c.data_start-start.ensures.is in
    let l = c.track_length.ensures in
    rw (s, l) (filling_more _ _ _ _ _ (omega arith) c.loop-p.invariant w.new.stretch (rw (s, l) at w.auto.stretch) (omega (arith, c.requires.positions)) (rw (s, l) at w.ensures))
