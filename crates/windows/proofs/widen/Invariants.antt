-- `widen`: the loop's invariant is that the first m words have those of d positions later, and the rest stay.
use Rattle.windows.proofs.Widening.{Widening}
use Rattle.windows.proofs.widen.Given as goal

abbrev pub invariant-loop-m : goal.invariant-loop-m
invariant-loop-m l = Widening l.initial.near l.d l.m l.near
