-- `call_marks`: the loop's invariant is that the first g marks have those of the lost cells, and the rest stay.
use Rattle.flags.proofs.Lost.{Marking}
use Rattle.flags.proofs.call_marks.Given as goal

abbrev pub invariant-loop-g : goal.invariant-loop-g
invariant-loop-g l = Marking l.l l.image l.initial.marks l.g l.marks
