-- `count_track`: a track is its stretch.
use Rattle.std.proofs.Common.{◌∙◌}
use Rattle.changes.proofs.Tracks.{part_changed}
use Rattle.changes.proofs.count_track.Goals as goal

pub returns : goal.returns
returns c = c.count_differing.ensures ∙ part_changed _ _ _ _ c.requires
