-- Cells of rows as bits of words.
use mathlib.Core.Path.{◌≡◌, refl, sym, ap, ◌∙◌, fun_ext}
use mathlib.Core.Logic.{◌≢◌, by_cases}
use mathlib.Core.List.{List}
use Prim.Native.Nat.{ℕ, zero, suc, ◌+◌, ◌*◌, ◌/◌, ◌%◌, ◌^◌, ◌<◌, ◌≤◌}
use native.Mathlib.Numerals.{one-add}
use native.Mathlib.Decide.{dec_lt}
use native.Mathlib.Omega.{arith}
use lib.ListN.{get_or, set, length-set}
use lib.Seq.{get_or-set_same, get_or-set_other}
use Rattle.words.specs.Words.{bit, bit_at}
use Rattle.words.proofs.Bit.{bit_zero, bit_shr, cell_in, cell_same}
use Rattle.forms.proofs.Shifts.{cut_in, cut_out}
use Rattle.errors.specs.Rows.{cell, Rows, Put}

-- ## Cells

-- Cell m of row r, by its place in the list.
pub cell_at : (ws : List ℕ) (r m n : ℕ) → m < 2112 → 2176 * r + (64 + m) ≡ n → cell ws r m ≡ bit_at ws n
unfolding cell
cell_at ws r m n h e = cut_in 2112 (λ m. bit_at ws (2176 * r + (64 + m))) m h ∙ ap (bit_at ws) e

-- Past the row there is nothing.
cell_out : (ws : List ℕ) (r m : ℕ) → 2112 ≤ m → cell ws r m ≡ 0
unfolding cell
cell_out ws r m h = cut_out 2112 (λ m. bit_at ws (2176 * r + (64 + m))) m h

-- Cell 64 i + k of row r is bit k of its word i, which is word n of the list.
pub cell_index : (ws : List ℕ) (r i k m n : ℕ) → i < 33 → k < 64 → 64 * i + k ≡ m → 34 * r + 1 + i ≡ n → cell ws r m ≡ bit (get_or ws n 0) k
cell_index ws r i k m n h l e d = cell_at ws r m (2176 * r + (64 + m)) (omega arith) refl ∙ cell_in ws n k (2176 * r + (64 + m)) l (omega arith)

-- The word before a row's cells is 0.
pub lead_bit : (ws : List ℕ) (r k m : ℕ) → get_or ws (34 * r) 0 ≡ 0 → k < 64 → 2176 * r + k ≡ m → bit_at ws m ≡ 0
lead_bit ws r k m z l e = cell_in ws (34 * r) k m l (omega arith) ∙ ap (λ w. bit w k) z ∙ bit_zero k

-- ## A word put

-- A cell whose word is not the one that is set.
cell_other : (ws : List ℕ) (j w r m : ℕ) → (m < 2112 → 34 * r + 1 + m / 64 ≢ j) → cell (set ws j w) r m ≡ cell ws r m
cell_other ws j w r m d = by_cases (dec_lt m 2112)
    (λ h.
    let n = d h in
    cell_at _ r m _ h refl ∙ cell_same (set ws j w) ws (2176 * r + (64 + m)) (get_or-set_other ws j _ w 0 (omega arith)) ∙ sym (cell_at ws r m _ h refl))
    (λ h. cell_out (set ws j w) r m (omega arith) ∙ sym (cell_out ws r m (omega arith)))

-- Word i of row `row` is set.
pub put_set : (n : ℕ) (ws : List ℕ) (row i w : ℕ) → Rows n ws → row < n → i < 33 → Put n ws row i w (set ws (34 * row + 1 + i) w)
put_set n ws row i w p l h = record {
  rows = record {
    size = length-set ws _ w ∙ p.size;
    lead = λ r g. get_or-set_other ws (34 * row + 1 + i) (34 * r) w 0 (omega arith) ∙ p.lead r g;
  };
  here = λ k g. cell_index _ row i k (64 * i + k) (34 * row + 1 + i) h g refl refl ∙ ap (λ v. bit v k) (get_or-set_same ws (34 * row + 1 + i) w 0 (omega (arith, p.size)));
  early = λ m g. cell_other ws (34 * row + 1 + i) w row m (λ b. omega arith);
  there = λ r g d. fun_ext (λ m. cell_other ws (34 * row + 1 + i) w r m (λ b. omega arith));
}

-- ## Equal words

first_bit : (w : ℕ) → bit w 0 ≡ w % 2
unfolding bit
first_bit w = omega arith

bit_next : (w k : ℕ) → bit (w / 2) k ≡ bit w (suc k)
bit_next w k = bit_shr w 1 k ∙ ap (bit w) (one-add k)

-- Words with the same bits are the same.
pub same_bits : (n a b : ℕ) → a < 2 ^ n → b < 2 ^ n → ((k : ℕ) → k < n → bit a k ≡ bit b k) → a ≡ b
same_bits zero a b p q h = omega arith
same_bits (suc n) a b p q h = omega (
  arith,
  same_bits n (a / 2) (b / 2) (omega arith) (omega arith) (λ k l. bit_next a k ∙ h (suc k) (omega arith) ∙ sym (bit_next b k)),
  first_bit a,
  first_bit b,
  h 0 (omega arith),
)
