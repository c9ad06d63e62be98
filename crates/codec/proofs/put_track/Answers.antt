-- The track is lent to `copy_into` and put back.
use Rattle.codec.proofs.Rows.{track_put}
use Rattle.codec.proofs.put_track.Goals as goal

pub returns : goal.returns
returns c = track_put _ _ _ _ c.requires c.copy_into.ensures
