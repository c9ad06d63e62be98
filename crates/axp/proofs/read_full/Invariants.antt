-- The loop stays within the buffer, and each read but the last fills some of it.
use Rattle.std.proofs.Common.{◌-◌, ◌≤◌, length}
use Rattle.axp.proofs.read_full.Given as goal

abbrev pub invariant-loop-n : goal.invariant-loop-n
invariant-loop-n g l = l.n ≤ length l.buffer

abbrev pub decreases-loop-n : goal.decreases-loop-n
decreases-loop-n g l = length l.buffer - l.n
