-- The sums are those of the first t tracks of the set.
use Rattle.code.specs.Sizes.{shape}
use Rattle.sums.specs.Run.{SumsOf}
use Rattle.sums.proofs.Adding.{some_tracks}
use Rattle.sums.proofs.vertical_run.Given as goal

abbrev pub invariant-loop-t : goal.invariant-loop-t
invariant-loop-t l = SumsOf (some_tracks (shape l.z) l.image l.s l.t) l.m l.run.sums
