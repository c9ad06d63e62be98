-- The first p columns are read, and the bytes behind the payload stay.
use Rattle.code.specs.Sizes.{shape}
use Rattle.codec.specs.Steps.{Reading}
use Rattle.codec.proofs.read_data.Given as goal

abbrev pub invariant-loop-p : goal.invariant-loop-p
invariant-loop-p l = Reading (shape l.z) l.blocks l.p l.image l.initial.out l.out
