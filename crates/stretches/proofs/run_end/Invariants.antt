-- The invariant: the words do not change before m.
use Rattle.stretches.specs.Steps.{Alike}
use Rattle.stretches.proofs.run_end.Given as goal

abbrev pub invariant-loop-m : goal.invariant-loop-m
invariant-loop-m l = Alike l.words l.near l.word l.wide l.from l.m
