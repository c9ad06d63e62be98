-- `highest_two`: a and b are the highest of the first i bytes of each stretch.
use Rattle.track.proofs.Cells.{Top}
use Rattle.track.proofs.highest_two.Given as goal

abbrev pub invariant-loop-i : goal.invariant-loop-i
invariant-loop-i l = Top l.s l.i l.a × Top l.t l.i l.b
