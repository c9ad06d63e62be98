-- `padding_set`: the loop's invariant is that `found` says whether a padding bit of the first p places is 1.
use mathlib.Core.Path.{◌≡◌}
use mathlib.Core.Logic.{◌≢◌}
use mathlib.Core.Bool.{true, false}
use Prim.Native.Nat.{ℕ, ◌+◌, ◌*◌, ◌%◌, ◌<◌}
use lib.ListN.{get_or}
use Rattle.code.specs.Packed.{PaddingSet}
use Rattle.packed.proofs.padding_set.Given as goal

abbrev pub invariant-loop-p : goal.invariant-loop-p
invariant-loop-p l = (l.found ≡ true → PaddingSet l.n l.packed) × (l.found ≡ false → (q : ℕ) → q < l.p → get_or l.packed (q * l.w + (l.n + 1)) 0 % 2 ≢ 1)
