-- `unpack_image`: the loop's invariant is that the tracks at the first p places are unpacked.
use Rattle.packed.specs.Steps.{TracksUnpacked}
use Rattle.packed.proofs.unpack_image.Given as goal

abbrev pub invariant-loop-p : goal.invariant-loop-p
invariant-loop-p l = TracksUnpacked l.n l.p l.packed l.out
