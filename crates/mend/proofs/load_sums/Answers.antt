use Prim.Native.Nat.{◌+◌, ◌*◌, ◌<◌}
use native.Mathlib.Omega.{arith}
use Rattle.sums.proofs.Padding.{padded_none}
use Rattle.mend.proofs.WordRows.{sums_more}
use Rattle.mend.proofs.load_sums.Goals as goal

pub pad-source-requires-clause-room : goal.pad-source-requires-clause-room
pad-source-requires-clause-room c = rw c.lag-lag.ensures (padded_none c.args.z c.args.image.now)

pub load_run-requires-clause-k_bound : goal.load_run-requires-clause-k_bound
load_run-requires-clause-k_bound c =
    let near : 64 * c.loop-i.i < c.run_start-p.result + 64 = c.run_start-p.ensures.reaches _ (omega arith) (omega arith) in omega arith

pub loop-i-preserved : goal.loop-i-preserved
loop-i-preserved c =
    let e = c.track_length-l.ensures in
    let of = c.pad-source.ensures in
    sums_more _ _ _ _ _ _ _ c.loop-i.invariant (rw e at c.run_start-p.ensures) (rw (of.of_sizes, of.of_image) at c.sum_rows.ensures) (rw e at c.load_run.ensures)
