-- `add_row`: the row's words become bytes, of which the first l are added to the track.
use mathlib.Core.Path.{sym, ◌∙◌}
use native.Mathlib.Omega.{arith}
use Rattle.track.proofs.Rows.{part_length, part_bits}
use Rattle.mend.proofs.Additions.{front_length, front_bits, row_added}
use Rattle.mend.proofs.add_row.Goals as goal

pub slice_bounds-add_track-end-3 : goal.slice_bounds-add_track-end-3
slice_bounds-add_track-end-3 c =
    let p = c.requires in
    sym (front_length _ _ _ p.l_bound _ _ p.cells_len c.unload.ensures)

pub add_track-requires : goal.add_track-requires
add_track-requires c =
    let p = c.requires in
    let u = c.unload.ensures in
    record {
      track_len = front_length _ _ _ p.l_bound _ _ p.cells_len u ∙ sym (part_length _ _ _ p.l_in_bounds);
      off_in_bounds = omega arith;
      bits = part_bits _ _ _ p.l_in_bounds p.bits;
      bits_2 = front_bits _ _ _ p.l_bound _ _ p.cells_len u;
    }

pub returns : goal.returns
returns c =
    let p = c.requires in
    row_added _ _ _ p.l_bound _ _ p.cells_len c.unload.ensures _ _ _ p.bits p.l_in_bounds c.add_track.ensures
