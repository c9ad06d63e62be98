-- `find_start`: the first i words of all rows are 0.
use Rattle.mend.proofs.WordRows.{Clear}
use Rattle.mend.proofs.find_start.Given as goal

abbrev pub invariant-loop-i : goal.invariant-loop-i
invariant-loop-i l = Clear l.i l.rows
