-- The invariant: all is right from the part's beginning up to m.
use Rattle.stretches.specs.Steps.{AllRun}
use Rattle.stretches.proofs.data_run.Given as goal

abbrev pub invariant-loop-m : goal.invariant-loop-m
invariant-loop-m l = AllRun l.part.z l.fn.a l.fn.b l.part.from l.m l.initial.out l.out l.syn
