-- The bit is added to the cell, on its track's stretch, and, one after the other, to its sums.
use native.Mathlib.Omega.{arith}
use Rattle.syndrome.proofs.Adding.{track_in, crossed_added, vertical_added}
use Rattle.syndrome.proofs.add_cell.Goals as goal

pub add_on_track-requires-clause-l_in_bounds : goal.add_on_track-requires-clause-l_in_bounds
add_on_track-requires-clause-l_in_bounds c =
    let h = c.requires in omega (arith, c.track_length-l.ensures, track_in _ h.kept h.track h.line_of h.p_lt_positions)

pub returns-then-t-data_tracks : goal.returns-then-t-data_tracks
returns-then-t-data_tracks c =
    let h = c.requires in
    crossed_added _ h.kept h.track h.line_of h.p_lt_positions _ _ _ _ _ h.w_bound (omega (arith, c.data_tracks.ensures.is))
    c.add_on_track.ensures c.add_bit.ensures c.add_bit-then-t-data_tracks.ensures c.add_bit-then-t-data_tracks-2.ensures

pub returns-else-t-data_tracks : goal.returns-else-t-data_tracks
returns-else-t-data_tracks c =
    let h = c.requires in
    vertical_added _ h.kept h.track h.line_of h.p_lt_positions _ _ _ h.w_bound (omega (arith, c.data_tracks.ensures.is))
    c.add_on_track.ensures c.add_bit.ensures
