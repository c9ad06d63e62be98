-- `flag_lost`: the loop's invariant is that the lost cells of the first g tracks are flagged.
use Rattle.windows.proofs.LostCells.{LostFlagging}
use Rattle.windows.proofs.flag_lost.Given as goal

abbrev pub invariant-loop-g : goal.invariant-loop-g
invariant-loop-g l = LostFlagging l.l l.image l.initial.words l.g l.words
