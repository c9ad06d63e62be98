-- `marks_of`: the loop's invariant is that the marks before the loop's are the lowest bits of the word.
use Rattle.std.proofs.Common.{◌≡◌, ℕ, ◌<◌, false, get_or}
use Rattle.flags.specs.Words.{bit_at}
use Rattle.flags.proofs.marks_of.Given as goal

abbrev pub invariant-loop-g : goal.invariant-loop-g
invariant-loop-g l = (k : ℕ) → k < l.g → get_or l.mark-items k false ≡ bit_at l.flags k
