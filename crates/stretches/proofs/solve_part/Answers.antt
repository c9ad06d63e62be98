-- One run more.
use native.Mathlib.Omega.{arith}
use Rattle.stretches.proofs.Planning.{in_window_at}
use Rattle.stretches.proofs.Advancing.{advanced_none, pass_more}
use Rattle.stretches.proofs.solve_part.Goals as goal

pub loop-m-init : goal.loop-m-init
loop-m-init g c = (omega arith, c.args.part.order, advanced_none c.requires.kept)

pub solve_run-requires-clause-in_window : goal.solve_run-requires-clause-in_window
solve_run-requires-clause-in_window g c =
    let p = c.args.part in in_window_at p.z c.args.words.now c.args.near.now c.requires.windows c.loop-m.m (omega (arith, p.inside))

pub loop-m-preserved : goal.loop-m-preserved
loop-m-preserved g c =
    let k = c.run_end-to.ensures in
    let v = c.loop-m.invariant in
    (omega (arith, v.0, k.more), k.within, pass_more c.requires.windows k v.2 c.solve_run.ensures)
