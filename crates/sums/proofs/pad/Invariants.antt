-- The first g tracks are padded.
use Rattle.sums.specs.Edge.{Padded}
use Rattle.sums.proofs.pad.Given as goal

abbrev pub invariant-loop-g : goal.invariant-loop-g
invariant-loop-g l = Padded l.z l.g l.image l.room
