use native.Mathlib.Omega.{arith}
use Rattle.code.specs.Sizes.{shape}
use Rattle.sums.proofs.Padding.{padded_none}
use Rattle.sums.proofs.Rows.{done_more, done_holds}
use Rattle.sums.proofs.syndromes.Goals as goal

pub pad-source-requires-clause-room : goal.pad-source-requires-clause-room
pad-source-requires-clause-room c = rw c.lag-lag.ensures (padded_none c.args.z c.args.image.now)

pub loop-i-preserved : goal.loop-i-preserved
loop-i-preserved c =
    let s = c.pad-source.ensures in
    let l = c.track_length-l.ensures in
    done_more (shape c.args.z) _ _ _ _ _ _ (omega arith) (omega (arith, l)) c.loop-i.invariant (rw l at c.run_start-p.ensures)
    (rw (s.of_image, s.of_sizes, l) at c.put_sums.ensures)

pub returns : goal.returns
returns c = done_holds _ _ _ _ c.loop-i.invariant (omega (arith, c.track_length-l.ensures, c.div_ceil-i-end.ensures))
