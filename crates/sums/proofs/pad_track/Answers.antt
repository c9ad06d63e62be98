-- The track's stretch of the image, and the part of the padded track behind its zeros, are lent to `copy_first`.
use Rattle.sums.proofs.Padding.{padded_more}
use Rattle.sums.proofs.pad_track.Goals as goal

pub returns : goal.returns
returns c =
    let p = c.requires in
    rw c.lag-lag.ensures (padded_more _ _ _ _ p.image p.g_bound p.padded _ (rw (c.lag-lag.ensures, c.track_length-l.ensures) at c.copy_first.ensures))
