-- Words that are shifted: the first cells of one, and 64 cells of two.
use mathlib.Core.Path.{◌≡◌, refl, ◌∙◌}
use mathlib.Core.List.{List}
use Prim.Native.Nat.{ℕ, ◌+◌, ◌*◌, ◌-◌, ◌/◌, ◌%◌, ◌^◌, ◌<◌, ◌≤◌}
use native.Mathlib.Decide.{dec_lt}
use native.Mathlib.Omega.{arith}
use lib.ListN.{get_or}
use lib.Bits.{bit_xor}
use Rattle.code.specs.Record.{back}
use Rattle.code.proofs.Sums.{back_at, back_early, back_same, back_back}
use Rattle.words.specs.Words.{bit, bit_at, Window, First}
use Rattle.words.proofs.Bit.{bit_lt, bit_zero, bit_high, bit_of_xor, bit_shr, bit_shl, cell_in}

-- ## The first cells

-- Where n is a word or more, all cells are among the first n.
pub first_all : (w n : ℕ) → w < 2 ^ 64 → 64 ≤ n → First w n w
first_all w n fits h = record { cells = λ k l. refl; none = λ k l. bit_high 64 w k fits (omega arith) }

pub first_none : (w n : ℕ) → n ≡ 0 → First w n 0
first_none w n e = record { cells = λ k l. absurd (omega arith); none = λ k l. bit_zero k }

-- A shift to the top and back drops all but the first n.
pub first_some : (w n : ℕ) → n < 64 → First w n (w * 2 ^ (64 - n) % 2 ^ 64 / 2 ^ (64 - n))
first_some w n h = record {
  cells = λ k l.
      bit_shr (w * 2 ^ (64 - n) % 2 ^ 64) (64 - n) k
      ∙ bit_shl w (64 - n) (64 - n + k) (omega arith) ∙ back_at (bit w) k (64 - n) (64 - n + k) (omega arith);
  none = λ k l. bit_shr (w * 2 ^ (64 - n) % 2 ^ 64) (64 - n) k ∙ bit_high 64 (w * 2 ^ (64 - n) % 2 ^ 64) (64 - n + k) (omega arith) (omega arith);
}

-- ## A window

-- A left shift by s + 1, which may be 64.
bit_shl_more : (w s k : ℕ) → k < 64 → bit (w * 2 % 2 ^ 64 * 2 ^ s % 2 ^ 64) k ≡ back (bit w) k (1 + s)
bit_shl_more w s k h =
    bit_shl (w * 2 ^ 1 % 2 ^ 64) s k h
    ∙ back_same (bit (w * 2 ^ 1 % 2 ^ 64)) (λ p. back (bit w) p 1) k s (λ p e. bit_shl w 1 p (omega arith)) ∙ back_back (bit w) k 1 s

module _ (ws : List ℕ) (at : ℕ) (words : (i : ℕ) → get_or ws i 0 < 2 ^ 64) where
  abbrev low : ℕ
  low = get_or ws (at / 64) 0

  abbrev high : ℕ
  high = get_or ws (at / 64 + 1) 0

  abbrev both : ℕ
  both = bit_xor (low / 2 ^ (at % 64)) (high * 2 % 2 ^ 64 * 2 ^ (63 - at % 64) % 2 ^ 64)

  -- The two shifted words are added.
  sum : (k : ℕ) → k < 64 → bit both k ≡ (bit low (at % 64 + k) + back (bit high) k (1 + (63 - at % 64))) % 2
  sum k h =
      let s = bit_shl_more high (63 - at % 64) k h in
      omega (
        arith,
        bit_of_xor (low / 2 ^ (at % 64)) (high * 2 % 2 ^ 64 * 2 ^ (63 - at % 64) % 2 ^ 64) k,
        bit_shr low (at % 64) k,
      )

  -- A cell of the window is the first word's, or the second's where it lies past the first.
  pub window_cells : Window ws at both
  window_cells = record { cells = λ k m h e. go k m h e (dec_lt (at % 64 + k) 64) }
    where
      go : (k m : ℕ) → k < 64 → at + k ≡ m → Dec (at % 64 + k < 64) → bit both k ≡ bit_at ws m
      go k m h e (yes l) =
          omega (
            arith,
            sum k h,
            back_early (bit high) k (1 + (63 - at % 64)) (omega arith),
            cell_in ws (at / 64) (at % 64 + k) m l (omega arith),
            bit_lt low (at % 64 + k),
          )
      go k m h e (no l) =
          omega (
            arith,
            sum k h,
            bit_high 64 low (at % 64 + k) (words (at / 64)) (omega arith),
            back_at (bit high) (at % 64 + k - 64) (1 + (63 - at % 64)) k (omega arith),
            cell_in ws (at / 64 + 1) (at % 64 + k - 64) m (omega arith) (omega arith),
            bit_lt high (at % 64 + k - 64),
          )
