-- The bit is added to each row that the cell stands in.
use native.Mathlib.Omega.{arith}
use Rattle.syndrome.proofs.Law.{crossed, uncrossed}
use Rattle.syndrome.proofs.add_sums.Goals as goal

pub returns-then-t-data_tracks : goal.returns-then-t-data_tracks
returns-then-t-data_tracks c =
    let l = c.track_length-l.ensures in
    crossed _ _ _ _ _ _ c.requires.track (rw (l, c.row.ensures) at c.add_sum.ensures) _ _ (omega (arith, c.data_tracks.ensures.is))
    (rw (l, c.row-then-t-data_tracks.ensures) at c.add_sum-then-t-data_tracks.ensures)
    (rw (l, c.row-then-t-data_tracks-2.ensures, c.other.ensures, c.lag-lag.ensures) at c.add_sum-then-t-data_tracks-2.ensures)

pub returns-else-t-data_tracks : goal.returns-else-t-data_tracks
returns-else-t-data_tracks c =
    uncrossed _ _ _ _ _ _ c.requires.track (rw (c.track_length-l.ensures, c.row.ensures) at c.add_sum.ensures) (omega (arith, c.data_tracks.ensures.is))
