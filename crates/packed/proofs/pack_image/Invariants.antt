-- `pack_image`: the loop's invariant is that the tracks at the first p places are packed.
use Rattle.packed.specs.Steps.{TracksPacked}
use Rattle.packed.proofs.pack_image.Given as goal

abbrev pub invariant-loop-p : goal.invariant-loop-p
invariant-loop-p l = TracksPacked l.n l.p l.image l.out
