-- The sums are the running sums when t tracks of each set have arrived.
use Rattle.code.specs.Heads.{running}
use Rattle.code.specs.Image.{cells}
use Rattle.code.specs.Sizes.{shape}
use Rattle.sums.specs.Run.{SumsOf}
use Rattle.sums.proofs.diagonal_run.Given as goal

abbrev pub invariant-loop-t : goal.invariant-loop-t
invariant-loop-t l = SumsOf (running (shape l.z) (cells (shape l.z) l.image) l.d l.t) l.m l.run.sums
