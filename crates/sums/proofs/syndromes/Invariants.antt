-- The rows hold the sums of the first i runs.
use Rattle.std.proofs.Common.{◌*◌}
use Rattle.code.specs.Image.{cells}
use Rattle.code.specs.Sizes.{shape}
use Rattle.sums.specs.Run.{Done}
use Rattle.sums.proofs.syndromes.Given as goal

abbrev pub invariant-loop-i : goal.invariant-loop-i
invariant-loop-i l = Done (shape l.fn.z) (cells (shape l.fn.z) l.fn.image) (64 * l.i) l.syn
