use Rattle.std.proofs.Common.{arith}
use Rattle.code.specs.Record.{track_length}
use Rattle.code.specs.Image.{all_tracks}
use Rattle.code.specs.Sizes.{shape}
use Rattle.code.proofs.Places.{row_end}
use Rattle.flags.proofs.Lost.{none_marked, call_marked}
use Rattle.flags.proofs.call_marks.Goals as goal

pub returns-then-not-lost : goal.returns-then-not-lost
returns-then-not-lost c = let a = c.args in none_marked a.z a.flags _ _ c.marks_of-marks.ensures (c.requires.lost_told.bits c.if-not-lost.true)

pub track_lost-requires-clause-l_in_bounds : goal.track_lost-requires-clause-l_in_bounds
track_lost-requires-clause-l_in_bounds c =
    let sh = shape c.args.z in
    rw c.track_length-l.ensures (omega (arith, row_end (track_length sh) c.loop-g.g (all_tracks sh) (omega arith), c.requires.read_image.size))

pub returns : goal.returns
returns c =
    let a = c.args in
    call_marked a.z a.flags _ _ c.marks_of-marks.ensures c.loop-g.g (omega arith) _ (rw c.track_length-l.ensures at c.loop-g.invariant)
