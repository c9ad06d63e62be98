use Rattle.std.proofs.Common.{arith}
use Rattle.code.specs.Record.{track_length}
use Rattle.code.specs.Image.{all_tracks}
use Rattle.code.specs.Sizes.{shape}
use Rattle.code.proofs.Places.{row_end}
use Rattle.windows.proofs.flag_lost.Goals as goal

pub flag_lost_track-requires-clause-l_in_bounds : goal.flag_lost_track-requires-clause-l_in_bounds
flag_lost_track-requires-clause-l_in_bounds c =
    let sh = shape c.args.z in
    rw c.track_length-l.ensures (omega (arith, row_end (track_length sh) c.loop-g.g (all_tracks sh) (omega arith), c.requires.read_image.size))
