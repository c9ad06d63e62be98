-- In the tail the invariant is that the track is right from the part's beginning up to p.
use Rattle.solver.specs.Steps.{Ahead}
use Rattle.stretches.proofs.by_verticals.Given as goal

abbrev pub invariant-loop-p : goal.invariant-loop-p
invariant-loop-p l = Ahead l.part.z l.s l.track l.part.from l.p l.initial.out l.out l.syn
