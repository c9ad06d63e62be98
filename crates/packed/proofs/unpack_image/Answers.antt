use Rattle.packed.proofs.Tracks.{unpacked_more}
use Rattle.packed.proofs.unpack_image.Goals as goal

pub loop-p-preserved : goal.loop-p-preserved
loop-p-preserved c =
    let t = c.loop-p.invariant in
    unpacked_more _ _ _ _ t.sized c.loop-p-test.true _ _ c.bytes_at-from.ensures c.track_at-to.ensures _ t c.unpack_track.ensures
