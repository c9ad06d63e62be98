-- The first k sums have their cells added, and the rest stay.
use Rattle.std.proofs.Common.{◌≡◌, ℕ, ◌<◌, ◌≤◌, length, get_or, bit_xor}
use Rattle.sums.proofs.add_run.Given as goal

abbrev pub invariant-loop-k : goal.invariant-loop-k
invariant-loop-k l = record {
  size : length l.sum-items ≡ 64;
  done : (i : ℕ) → i < l.k → get_or l.sum-items i 0 ≡ bit_xor (get_or l.fn.run.sums i 0) (get_or l.stretch i 0);
  rest : (i : ℕ) → l.k ≤ i → get_or l.sum-items i 0 ≡ get_or l.fn.run.sums i 0;
}
