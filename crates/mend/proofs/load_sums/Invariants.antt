-- `load_sums`: the rows have the sums of the positions before the i-th word.
use Prim.Native.Nat.{◌*◌}
use Rattle.mend.proofs.WordRows.{SumsTo}
use Rattle.mend.proofs.load_sums.Given as goal

abbrev pub invariant-loop-i : goal.invariant-loop-i
invariant-loop-i l = SumsTo l.fn.z l.image (64 * l.i) l.rows
