use mathlib.Core.Path.{◌≡◌}
use native.Mathlib.Omega.{arith}
use Rattle.sums.proofs.Short.{copied_more, short_holds}
use Rattle.sums.proofs.sum_short.Goals as goal

pub loop-r-preserved : goal.loop-r-preserved
loop-r-preserved c =
    rw c.copy_from_slice.ensures.after
    (copied_more _ _ _ _ c.loop-r.invariant (omega arith) (omega (arith, c.track_length-l.ensures, c.requires.short)) c.sum_rows.ensures.size)

pub returns : goal.returns
returns c =
    let all : c.loop-r.r ≡ 4 = omega arith in
    short_holds c.args.source.z _ _ _ (rw (all, c.track_length-l.ensures) at c.loop-r.invariant) c.sum_rows.ensures c.requires.short
