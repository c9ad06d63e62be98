-- The first p columns are written, and all other tracks are 0.
use Rattle.code.specs.Sizes.{shape}
use Rattle.codec.specs.Steps.{Filling}
use Rattle.codec.proofs.write_data.Given as goal

abbrev pub invariant-loop-p : goal.invariant-loop-p
invariant-loop-p l = Filling (shape l.z) l.blocks l.p l.payload l.out
