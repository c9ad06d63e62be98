-- `flag_stretch`: a run of positions of one track.
use Rattle.std.proofs.Common.{◌-◌, ◌/◌, ◌%◌, arith}
use native.Mathlib.Nat.{div-add-mod'}
use Rattle.windows.proofs.Bits.{one_shifted}
use Rattle.windows.proofs.Stretches.{track_of, run_flagged}
use Rattle.windows.proofs.flag_stretch.Goals as goal

pub returns : goal.returns
returns c =
    let a = c.args in
    let e = c.requires in
    run_flagged a.l (a.from / a.l) (a.from % a.l) (a.to - a.from) e.stretch_end.in_track _ e.words_len _ (one_shifted (a.from / a.l) (omega (arith, track_of a.l a.from e.l_nonzero e.from_bound))) _ c.flag_run.ensures a.from a.to (div-add-mod' a.from a.l) (omega (arith, e.stretch_end.later))
