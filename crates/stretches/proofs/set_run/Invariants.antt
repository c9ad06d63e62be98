-- The invariant: the set is right from the part's beginning up to m, and so are both.
use Rattle.stretches.specs.Steps.{SetRun}
use Rattle.stretches.proofs.set_run.Given as goal

abbrev pub invariant-loop-m : goal.invariant-loop-m
invariant-loop-m l = SetRun l.part.z l.s l.fn.plan l.part.from l.m l.initial.out l.out l.syn
