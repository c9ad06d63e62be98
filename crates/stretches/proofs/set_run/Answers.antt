use mathlib.Core.Path.{◌≡◌}
use native.Mathlib.Omega.{arith}
use Rattle.stretches.proofs.Advancing.{set_run_none, set_run_more}
use Rattle.stretches.proofs.set_run.Goals as goal

pub loop-m-init : goal.loop-m-init
loop-m-init c = set_run_none c.requires.kept

pub step-requires-clause-kept : goal.step-requires-clause-kept
step-requires-clause-kept c = c.loop-m.invariant.kept

pub loop-m-preserved : goal.loop-m-preserved
loop-m-preserved c = set_run_more (omega arith) (omega arith) c.loop-m.invariant (rw (c.ways-ways.ensures.tracks c.requires.exist) at c.step.ensures)

pub returns : goal.returns
returns c = let e : c.loop-m.m ≡ c.args.part.to = omega arith in rw e at c.loop-m.invariant
