-- `flag_if_lost`: a track whose highest byte is not lost stays as it is.
use Rattle.std.proofs.Common.{sym, ◌∙◌}
use Rattle.track.proofs.Lost.{most_reading}
use Rattle.windows.proofs.LostCells.{none_in_track}
use Rattle.windows.proofs.flag_if_lost.Goals as goal

pub is_lost-requires : goal.is_lost-requires
is_lost-requires c = most_reading _ _ c.highest.ensures c.requires.readings

pub returns-else-is_lost : goal.returns-else-is_lost
returns-else-is_lost c =
    none_in_track _ _ _ _ c.requires.readings c.highest.ensures (sym c.is_lost.ensures ∙ c.if-is_lost.false)
