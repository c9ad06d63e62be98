-- The bytes of one track.
use mathlib.Core.Path.{◌≡◌, refl, ◌∙◌}
use mathlib.Core.Logic.{by_cases}
use mathlib.Core.List.{List, ◌++◌}
use Prim.Native.Nat.{ℕ, suc, ◌+◌, ◌*◌, ◌-◌, ◌/◌, ◌%◌, ◌^◌, ◌<◌}
use native.Mathlib.Decide.{dec_lt}
use native.Mathlib.Omega.{arith}
use lib.ListN.{length, get_or, drop, replicate, length-replicate, get_or-replicate, get_or-append, get_or-eq_default}
use lib.Seq.{get_or-drop, get_or-append-add}
use Rattle.code.specs.Payload.{digits}
use Rattle.track.proofs.Cells.{every}

-- A cell of the last few, with 0 behind them.
module _ (cells : List ℕ) where
  abbrev zeros : List ℕ
  zeros = replicate 8 0

  zero_at : (i : ℕ) → get_or zeros i 0 ≡ 0
  zero_at = every (λ (v : ℕ). v ≡ 0) zeros refl (λ i h. get_or-replicate 8 i 0 0 (omega (arith, length-replicate {A = ℕ} 8 0)))

  behind : (m : ℕ) → get_or (cells ++ drop (length cells) zeros) (length cells + m) 0 ≡ 0
  behind m = get_or-append-add cells (drop (length cells) zeros) m 0 ∙ get_or-drop (length cells) zeros m 0 ∙ zero_at _

  pub few_at : (k : ℕ) → get_or (cells ++ drop (length cells) zeros) k 0 ≡ get_or cells k 0
  few_at k = by_cases (dec_lt k (length cells))
      (λ h. get_or-append cells (drop (length cells) zeros) 0 k h)
      (λ h.
      let e : length cells + (k - length cells) ≡ k = omega arith in
      rw (get_or-eq_default cells 0 {n = k} (omega arith)) (rw e at (behind (k - length cells))))

-- The first j bytes are packed.
pub record Packing (stretch before : List ℕ) (j : ℕ) (now : List ℕ) : Type 0 where
  pub size : length now ≡ length before
  pub byte : (i : ℕ) → i < j → get_or now i 0 ≡ digits 8 (λ k. get_or stretch (8 * i + k) 0)

-- The first j bytes are unpacked.
pub record Unpacking (bytes before : List ℕ) (j : ℕ) (now : List ℕ) : Type 0 where
  pub size : length now ≡ length before
  pub byte : (i : ℕ) → i < j → get_or bytes i 0 < 256
  pub cell : (i k : ℕ) → i < j → k < 8 → get_or now (8 * i + k) 0 ≡ get_or bytes i 0 / 2 ^ (8 - suc k) % 2
