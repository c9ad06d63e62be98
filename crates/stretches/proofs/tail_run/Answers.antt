use mathlib.Core.Path.{◌≡◌}
use native.Mathlib.Omega.{arith}
use Rattle.stretches.proofs.Advancing.{all_run_none, all_run_more}
use Rattle.stretches.proofs.tail_run.Goals as goal

pub loop-m-init : goal.loop-m-init
loop-m-init c = all_run_none c.requires.kept

pub loop-m-preserved : goal.loop-m-preserved
loop-m-preserved c = all_run_more (omega arith) (omega arith) c.loop-m.invariant c.tail_step.ensures c.tail_step-in-loop-m.ensures

pub returns : goal.returns
returns c = let e : c.loop-m.m ≡ c.args.part.to = omega arith in rw e at c.loop-m.invariant
