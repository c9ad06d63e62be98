-- The first c data tracks are added.
use Rattle.code.specs.Sizes.{shape}
use Rattle.codec.specs.Steps.{DataAdded}
use Rattle.codec.proofs.add_data.Given as goal

abbrev pub invariant-loop-c : goal.invariant-loop-c
invariant-loop-c l = DataAdded (shape l.z) l.s l.c l.image l.initial.sums l.sums
