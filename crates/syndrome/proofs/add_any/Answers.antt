-- The bit is added to the cell, on its track's stretch, and to its sums.
use Rattle.syndrome.proofs.OneCell.{cell_added}
use Rattle.syndrome.proofs.add_any.Goals as goal

pub returns : goal.returns
returns c =
    let h = c.requires in
    cell_added _ _ _ _ _ _ _ h.kept h.cell h.w_bound _ _
    (rw (c.track_number.ensures.is, c.track_length-l.ensures) at c.add_on_track.ensures) c.add_sums.ensures
