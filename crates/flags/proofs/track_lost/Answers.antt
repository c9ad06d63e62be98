-- `track_lost`: a track is its stretch, and the highest byte tells of it.
use Rattle.std.proofs.Common.{◌∙◌}
use Rattle.flags.proofs.Lost.{stretch_reading, stretch_lost}
use Rattle.flags.proofs.track_lost.Goals as goal

pub is_lost-requires : goal.is_lost-requires
is_lost-requires c = let p = c.requires in stretch_reading _ _ _ p.l_in_bounds p.readings _ c.highest.ensures

pub returns : goal.returns
returns c = let p = c.requires in c.is_lost.ensures ∙ stretch_lost _ _ _ p.l_in_bounds p.readings _ c.highest.ensures
