-- The invariant: the track is right from `from` up to p.
use Rattle.solver.specs.Steps.{Ahead}
use Rattle.solver.proofs.verticals.Given as goal

abbrev pub invariant-loop-p : goal.invariant-loop-p
invariant-loop-p l = Ahead l.z l.s l.fn.track l.from l.p l.initial.out l.out l.syn
