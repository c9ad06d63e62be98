-- Each of the three is the sum for its track.
use native.Mathlib.Omega.{arith}
use Rattle.solver.proofs.Settling.{bit_check, bit_zero, bit_top}
use Rattle.solver.proofs.tail_bit.Goals as goal

pub returns-then-t-eq0 : goal.returns-then-t-eq0
returns-then-t-eq0 c = rw (c.row.ensures, c.track_length-l.ensures) (bit_check c.requires.kept c.if-t-eq0.true c.requires.p_bound)

pub returns-then-t-data_tracks : goal.returns-then-t-data_tracks
returns-then-t-data_tracks c =
    rw (c.cell_on_track.ensures, c.track_number.ensures.is, c.track_length-l.ensures) (bit_zero c.requires.kept c.if-t-eq0.false (omega arith))

pub returns : goal.returns
returns c = rw (c.row-2.ensures, c.track_length-l.ensures) (bit_top c.requires.kept (omega arith) c.requires.p_bound)
