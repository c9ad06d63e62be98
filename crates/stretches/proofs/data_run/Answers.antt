-- Beside a set that is right already the other is solved alone, and otherwise both are at each position.
use mathlib.Core.Path.{◌≡◌}
use native.Mathlib.Omega.{arith}
use Rattle.stretches.proofs.Advancing.{all_run_none, all_run_more, all_of_a, all_of_b}
use Rattle.stretches.proofs.data_run.Goals as goal

pub returns-then-is_single : goal.returns-then-is_single
returns-then-is_single c = all_of_b (c.is_single.ensures.0 c.if-is_single.true) c.set_run.ensures

pub returns-then-is_single-2 : goal.returns-then-is_single-2
returns-then-is_single-2 c = all_of_a (c.is_single-2.ensures.0 c.if-is_single-2.true) c.set_run-then-is_single-2.ensures

pub loop-m-init : goal.loop-m-init
loop-m-init c = all_run_none c.requires.kept

pub step-requires-clause-kept : goal.step-requires-clause-kept
step-requires-clause-kept c = c.loop-m.invariant.kept

pub loop-m-preserved : goal.loop-m-preserved
loop-m-preserved c =
    let a = rw (c.ways-ways_a.ensures.tracks c.requires.exist_a) at c.step.ensures in
    let b = rw (c.ways-ways_b.ensures.tracks c.requires.exist_b) at c.step-in-loop-m.ensures in
    all_run_more (omega arith) (omega arith) c.loop-m.invariant a b

pub returns : goal.returns
returns c = let e : c.loop-m.m ≡ c.args.part.to = omega arith in rw e at c.loop-m.invariant
