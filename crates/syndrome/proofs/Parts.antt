-- A part of a list of bits that is lent.
use mathlib.Core.Path.{◌∙◌}
use mathlib.Core.Logic.{by_cases}
use mathlib.Core.List.{List}
use Prim.Native.Nat.{ℕ, ◌+◌, ◌-◌, ◌<◌, ◌≤◌}
use native.Mathlib.Decide.{dec_lt}
use native.Mathlib.Omega.{arith}
use borrow.Rule.Slice.PartMut.{mid_len}
use lib.ListN.{length, get_or, take, drop, get_or-eq_default}
use Rattle.track.proofs.Parts.{part_at}
use Rattle.syndrome.specs.Steps.{Stretch}

-- It has its cells, which are bits.
pub part_stretch : (xs : List ℕ) (a l : ℕ) → a + l ≤ length xs → ((i : ℕ) → get_or xs i 0 < 2) → Stretch l (take (a + l - a) (drop a xs))
part_stretch xs a l h bits = record { size = mid_len a (a + l) xs h ∙ omega arith; bits = λ m. by_cases (dec_lt m (a + l - a)) (early m) (late m) }
  where
    early : (m : ℕ) → m < a + l - a → get_or (take (a + l - a) (drop a xs)) m 0 < 2
    early m b = rw (part_at xs a (a + l - a) m b) (bits (a + m))

    late : (m : ℕ) → ¬ (m < a + l - a) → get_or (take (a + l - a) (drop a xs)) m 0 < 2
    late m n = rw (get_or-eq_default (take (a + l - a) (drop a xs)) 0 {n = m} (omega (arith, mid_len a (a + l) xs h))) (omega arith)
