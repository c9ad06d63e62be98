-- Laws of the bytes of a word, and of the fifteen places that two words hold.
use mathlib.Core.Path.{◌≡◌, refl, sym, ap, ◌∙◌}
use mathlib.Core.Logic.{by_cases}
use mathlib.Core.List.{List}
use Prim.Native.Nat.{ℕ, suc, ◌+◌, ◌*◌, ◌-◌, ◌/◌, ◌%◌, ◌^◌, ◌<◌}
use native.Mathlib.Decide.{dec_lt, ℕ_discrete}
use native.Mathlib.Nat.{add_comm}
use native.Mathlib.Omega.{arith}
use lib.Bits.{bit_xor, bit_and, xor_zero_l, xor_zero_r, xor_shr, xor_mod}
use lib.ListN.{get_or}
use lib.Pow.{shr-shr, field, mod-mod-pow}
use Rattle.track.proofs.Words.{seven, eight, ones, masked}
use Rattle.registers.specs.Places.{byte, Words, Places, Shifted, BitsAt}

-- What holds of the first eight places and of the others holds of all fifteen.
fifteen : (P : ℕ → Type 0) → ((k : ℕ) → k < 8 → P k) → ((k : ℕ) → k < 7 → P (8 + k)) → (i : ℕ) → i < 15 → P i
fifteen P low high i h = by_cases (dec_lt i 8) (low i) (λ k. let e : i ≡ 8 + (i - 8) = omega arith in rw e (high (i - 8) (omega arith)))

-- ## Sums and shifts

-- The bytes of a sum are the sums of the bytes.
byte_xor : (x y k : ℕ) → byte (bit_xor x y) k ≡ bit_xor (byte x k) (byte y k)
unfolding byte
byte_xor x y k = ap (λ v. v % 2 ^ 8) (xor_shr x y (8 * k)) ∙ xor_mod (x / 2 ^ (8 * k)) (y / 2 ^ (8 * k)) 8

-- A word shifted by a byte.
byte_shr : (x k : ℕ) → byte (x / 2 ^ 8) k ≡ byte x (suc k)
unfolding byte
byte_shr x k =
    let e : 8 + 8 * k ≡ 8 * suc k = omega arith in
    ap (λ v. v % 2 ^ 8) (rw e at (shr-shr x 8 (8 * k)))

-- A word has eight bytes.
byte_past : (x : ℕ) → x < 2 ^ 64 → byte x 8 ≡ 0
unfolding byte
byte_past x h = omega arith

-- The lowest byte alone, shifted to the top.
top_is : (y : ℕ) → y * 2 ^ 56 % 2 ^ 64 ≡ y % 2 ^ 8 * 2 ^ 56
top_is y = omega arith

-- It is the last byte there, and the others are 0.
byte_top : (y : ℕ) → byte (y * 2 ^ 56 % 2 ^ 64) 7 ≡ byte y 0
unfolding byte
byte_top y = rw (top_is y) (omega arith)

byte_below : (y k : ℕ) → k < 7 → byte (y * 2 ^ 56 % 2 ^ 64) k ≡ 0
unfolding byte
byte_below y = rw (top_is y) (seven _ (omega arith) (omega arith) (omega arith) (omega arith) (omega arith) (omega arith) (omega arith))

-- The words of a register, shifted by a byte and with the words of cells added, are those of the register shifted by a place.
module _ (r cells next : List ℕ) (x y u v : ℕ) (of_r : Words r x y) (of_c : Words cells u v) (small : x < 2 ^ 64)
    (p : Places (bit_xor (bit_xor (x / 2 ^ 8) (y * 2 ^ 56 % 2 ^ 64)) u) (bit_xor (y / 2 ^ 8) v) next) where
  -- Each place in bytes of the words.
  low_byte : (k : ℕ) → k < 8 → get_or next k 0 ≡ bit_xor (bit_xor (byte x (suc k)) (byte (y * 2 ^ 56 % 2 ^ 64) k)) (get_or cells k 0)
  low_byte k h = p.low k h ∙ rw (byte_xor (bit_xor (x / 2 ^ 8) (y * 2 ^ 56 % 2 ^ 64)) u k, byte_xor (x / 2 ^ 8) (y * 2 ^ 56 % 2 ^ 64) k, byte_shr x k, of_c.places.low k h)

  high_byte : (k : ℕ) → k < 7 → get_or next (8 + k) 0 ≡ bit_xor (byte y (suc k)) (get_or cells (8 + k) 0)
  high_byte k h = p.high k h ∙ rw (byte_xor (y / 2 ^ 8) v k, byte_shr y k, of_c.places.high k h)

  -- The word of the first eight places takes its last byte from the other word.
  next_byte : (k : ℕ) → k < 8 → bit_xor (byte x (suc k)) (byte (y * 2 ^ 56 % 2 ^ 64) k) ≡ get_or r (suc k) 0
  next_byte k h = by_cases (ℕ_discrete k 7)
      (λ e. rw (e, byte_past x small, byte_top y) (xor_zero_l _ ∙ sym (of_r.places.high 0 (omega arith))))
      (λ d. rw (byte_below y k (omega arith)) (xor_zero_r _ ∙ sym (of_r.places.low (suc k) (omega arith))))

  -- Each place by the next one of the register.
  low_place : (k : ℕ) → k < 8 → get_or next k 0 ≡ bit_xor (get_or r (suc k) 0) (get_or cells k 0)
  low_place k h = low_byte k h ∙ rw (next_byte k h)

  high_place : (k i : ℕ) → k < 6 → 8 + k ≡ i → get_or next i 0 ≡ bit_xor (get_or r (suc i) 0) (get_or cells i 0)
  high_place k i h e =
      let next_is : 8 + suc k ≡ suc i = omega arith in
      let place = rw next_is at (of_r.places.high (suc k) (omega arith)) in
      rw (place, sym e) (high_byte k (omega arith))

  pub shifted_place : Shifted r cells next
  shifted_place = record {
    place = λ k h. by_cases (dec_lt k 8) (low_place k) (λ d. high_place (k - 8) k (omega arith) (omega arith));
    last = high_byte 6 (omega arith) ∙ rw of_r.rest (xor_zero_l _);
  }

-- ## Bits

-- Bit j of a byte.
bit_of_byte : (w j : ℕ) → j < 8 → w % 2 ^ 8 / 2 ^ j % 2 ≡ w / 2 ^ j % 2
bit_of_byte w j h = ap (λ n. w % 2 ^ n / 2 ^ j % 2) e ∙ ap (λ v. v % 2) (field w (7 - j + 1) j) ∙ mod-mod-pow (w / 2 ^ j) (7 - j) 1
  where
    e : 8 ≡ 7 - j + 1 + j
    e = omega arith

-- Shifted by j, the last bit of each byte is its bit j.
byte_bit : (x j k : ℕ) → j < 8 → byte ones k ≡ 1 → byte (bit_and (x / 2 ^ j) ones) k ≡ byte x k / 2 ^ j % 2
unfolding byte
byte_bit x j k h e =
    masked (x / 2 ^ j) (8 * k) e
    ∙ ap (λ v. v % 2) (shr-shr x j (8 * k) ∙ ap (λ n. x / 2 ^ n) (add_comm j (8 * k)) ∙ sym (shr-shr x (8 * k) j))
    ∙ sym (bit_of_byte (x / 2 ^ (8 * k)) j h)

-- Each byte of the mask is 1.
ones_at : (k : ℕ) → k < 8 → byte ones k ≡ 1
unfolding byte
ones_at = eight _ refl refl refl refl refl refl refl refl

-- The masked words of bytes, shifted by j, have their bits j.
pub bits_place : (bytes cells : List ℕ) (x y j : ℕ) → Words bytes x y → j < 8 →
    Places (bit_and (x / 2 ^ j) ones) (bit_and (y / 2 ^ j) ones) cells → BitsAt bytes j cells
bits_place bytes cells x y j w h p = record {
  place = fifteen _
      (λ k i. p.low k i ∙ byte_bit x j k h (ones_at k i) ∙ ap (λ v. v / 2 ^ j % 2) (sym (w.places.low k i)))
      (λ k i. p.high k i ∙ byte_bit y j k h (ones_at k (omega arith)) ∙ ap (λ v. v / 2 ^ j % 2) (sym (w.places.high k i)));
}
