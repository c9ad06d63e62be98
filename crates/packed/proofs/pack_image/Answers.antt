use Rattle.packed.proofs.Tracks.{packed_more}
use Rattle.packed.proofs.pack_image.Goals as goal

pub loop-p-preserved : goal.loop-p-preserved
loop-p-preserved c =
    let t = c.loop-p.invariant in
    packed_more _ _ _ _ t.sized c.loop-p-test.true _ _ c.track_at-from.ensures c.bytes_at-to.ensures _ t c.pack_track.ensures
