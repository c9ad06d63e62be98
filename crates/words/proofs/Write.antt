-- Cells that are written, eight at a time and a word at a time.
use mathlib.Core.Path.{◌≡◌, ap, sym, ◌∙◌}
use mathlib.Core.List.{List}
use Prim.Native.Nat.{ℕ, ◌+◌, ◌*◌, ◌-◌, ◌/◌, ◌%◌, ◌^◌, ◌<◌, ◌≤◌}
use native.Mathlib.Decide.{dec_lt}
use native.Mathlib.Omega.{arith}
use lib.ListN.{length, get_or}
use lib.Bits.{bit_and}
use Rattle.track.proofs.Cells.{Written}
use Rattle.track.proofs.Words.{ones}
use Rattle.words.specs.Words.{bit, bit_at, Unloaded, Spread}
use Rattle.words.proofs.Bit.{bit_shr, byte_first, cell_in}

-- After the first n cells, the next `more` are written.
written_on : (before now after : List ℕ) (f : ℕ → ℕ) (at n from more all : ℕ) → Written before f at n now → n + at ≡ from → n + more ≡ all →
    length after ≡ length now →
    ((k : ℕ) → k < more → get_or after (from + k) 0 ≡ f (n + k)) →
    ((i : ℕ) → i < from → get_or after i 0 ≡ get_or now i 0) →
    ((i : ℕ) → from + more ≤ i → get_or after i 0 ≡ get_or now i 0) →
    Written before f at all after
written_on before now after f at n from more all w e a size cells early later = record {
  size = size ∙ w.size;
  done = λ k m l d. go k m l d (dec_lt k n);
  early = λ m l. early m (omega arith) ∙ w.early m l;
  later = λ m l. later m (omega arith) ∙ w.later m (omega arith);
}
  where
    go : (k m : ℕ) → k < all → k + at ≡ m → Dec (k < n) → get_or after m 0 ≡ f k
    go k m l d (yes b) = early m (omega arith) ∙ w.done k m b d
    go k m l d (no b) =
        let p : m ≡ from + (k - n) = omega arith in
        let q : n + (k - n) ≡ k = omega arith in
        ap (λ x. get_or after x 0) p ∙ cells (k - n) (omega arith) ∙ ap f q

-- Eight more cells are column k of the transposed word.
pub eight_more : (before now after : List ℕ) (at w t k : ℕ) → Written before (bit w) at (8 * k) now → k < 8 →
    ((b c : ℕ) → b < 8 → c < 8 → bit t (8 * c + b) ≡ bit w (8 * b + c)) →
    length after ≡ length now →
    ((j : ℕ) → j < 8 → get_or after (at + 8 * k + j) 0 ≡ bit_and (t / 2 ^ k) ones / 256 ^ j % 256) →
    ((i : ℕ) → i < at + 8 * k → get_or after i 0 ≡ get_or now i 0) →
    ((i : ℕ) → at + 8 * k + 8 ≤ i → get_or after i 0 ≡ get_or now i 0) →
    Written before (bit w) at (8 * (k + 1)) after
eight_more before now after at w t k v h turned size cells =
    written_on before now after (bit w) at (8 * k) (at + 8 * k) 8 (8 * (k + 1)) v (omega arith) (omega arith) size (λ j l. cells j l ∙ cell j l)
  where
    cell : (j : ℕ) → j < 8 → bit_and (t / 2 ^ k) ones / 256 ^ j % 256 ≡ bit w (8 * k + j)
    cell j l =
        let o : k + 8 * j ≡ 8 * j + k = omega arith in
        byte_first (t / 2 ^ k) j l ∙ bit_shr t k (8 * j) ∙ ap (bit t) o ∙ turned k j h l

-- Sixty-four cells are a word's.
pub unloaded : (before after : List ℕ) (at w : ℕ) → Written before (bit w) at 64 after → Unloaded before at w after
unloaded before after at w v = record {
  size = v.size;
  cells = λ k l. v.done k (at + k) l (omega arith);
  early = v.early;
  later = λ i l. v.later i (omega arith);
}

-- Word i is written after those before it.
pub word_more : (before now after ws : List ℕ) (i : ℕ) → Written before (bit_at ws) 0 (64 * i) now → Unloaded now (64 * i) (get_or ws i 0) after →
    Written before (bit_at ws) 0 (64 * (i + 1)) after
word_more before now after ws i v u =
    written_on before now after (bit_at ws) 0 (64 * i) (64 * i) 64 (64 * (i + 1)) v (omega arith) (omega arith) u.size (λ k l. u.cells k l ∙ sym (cell_in ws i k (64 * i + k) l (omega arith))) u.early u.later

-- All cells are written.
pub spread_all : (before after ws : List ℕ) (n : ℕ) → Written before (bit_at ws) 0 n after → length before ≤ n → Spread ws before after
spread_all before after ws n v h = record { size = v.size; cells = λ m l. v.done m m (omega arith) (omega arith) }
