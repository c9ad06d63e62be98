-- Flags that say the same of a record's tracks.
use mathlib.Core.Path.{◌≡◌, ap, ap₂}
use Prim.Native.Nat.{ℕ, ◌<◌}
use Rattle.code.specs.Record.{TrackSet, A, B, Shape, tracks}
use Rattle.code.specs.Flags.{TrackFlags, bit, flag_count}
use Rattle.code.specs.Reach.{reach_code, flags_code}
use Rattle.code.proofs.Sums.{sum_same}

abbrev pub SameFlags : Shape → TrackFlags → TrackFlags → Type 0
SameFlags sh f g = (s : TrackSet) (t : ℕ) → t < tracks sh s → f s t ≡ g s t

module _ (sh : Shape) (f g : TrackFlags) (same : SameFlags sh f g) where
  -- They have the same counts.
  pub count_same : (s : TrackSet) → flag_count sh f s ≡ flag_count sh g s
  unfolding flag_count
  count_same s = sum_same (tracks sh s) _ _ (λ t l. ap bit (same s t l))

  -- The same code.
  pub code_same : flags_code sh f ≡ flags_code sh g
  unfolding flags_code
  code_same = ap₂ reach_code (count_same A) (count_same B)
