-- Laws of `digits`.
use mathlib.Core.Path.{◌≡◌, refl}
use Prim.Native.Nat.{ℕ, zero, suc, ◌+◌, ◌-◌, ◌/◌, ◌%◌, ◌^◌, ◌<◌}
use native.Mathlib.Decide.{ℕ_discrete}
use native.Mathlib.Omega.{arith}
use native.Mathlib.Nat.{sub_self, mul_comm}
use lib.Pow.{shr-shr}
use lib.Bits.{bit_xor, xor_add_and, xor_lt, xor_block}
use Rattle.code.specs.Payload.{digits}

-- Two numbers of k binary digits are equal only if their digits are.
pub digits_inj : (k : ℕ) (f g : ℕ → ℕ) → ((i : ℕ) → i < k → f i < 2) → ((i : ℕ) → i < k → g i < 2) → digits k f ≡ digits k g → (i : ℕ) → i < k → f i ≡ g i
unfolding digits
digits_inj zero f g bf bg e i l = absurd (omega arith)
digits_inj (suc k) f g bf bg e i l = go (bf k (omega arith)) (bg k (omega arith)) (ℕ_discrete i k)
    (digits_inj k f g (λ j h. bf j (omega arith)) (λ j h. bg j (omega arith)))
  where
    go : f k < 2 → g k < 2 → Dec (i ≡ k) → (digits k f ≡ digits k g → (j : ℕ) → j < k → f j ≡ g j) → f i ≡ g i
    go lf lg (yes h) rest = rw h (omega arith)
    go lf lg (no d) rest = rest (omega arith) i (omega arith)

-- Numbers with the same digits are equal.
pub digits_same : (k : ℕ) (f g : ℕ → ℕ) → ((i : ℕ) → i < k → f i ≡ g i) → digits k f ≡ digits k g
unfolding digits
digits_same zero f g h = refl
digits_same (suc k) f g h = omega (arith, h k (omega arith), digits_same k f g (λ i l. h i (omega arith)))

-- A number of k binary digits is below 2 ^ k.
pub digits_lt : (k : ℕ) (f : ℕ → ℕ) → ((i : ℕ) → i < k → f i < 2) → digits k f < 2 ^ k
unfolding digits
digits_lt zero f h = omega arith
digits_lt (suc k) f h = omega (arith, h k (omega arith), digits_lt k f (λ i l. h i (omega arith)))

-- Digit i of a number v of k binary digits, the most significant first.
abbrev pub digit : ℕ → ℕ → ℕ → ℕ
digit k v i = v / 2 ^ (k - suc i) % 2

-- The last digit is the rest by 2.
digit_last : (k v : ℕ) → digit (suc k) v k ≡ v % 2
digit_last k v = rw (sub_self (suc k)) (omega arith)

-- The other digits are those of the half.
digit_half : (k v i : ℕ) → i < k → digit (suc k) v i ≡ digit k (v / 2) i
digit_half k v i l =
    let e : suc k - suc i ≡ 1 + (k - suc i) = omega arith in
    rw (e, ← shr-shr v 1 (k - suc i))

-- A number is the number of its digits.
pub digits_digit : (k v : ℕ) → v < 2 ^ k → digits k (digit k v) ≡ v
unfolding digits
digits_digit zero v l = omega arith
digits_digit (suc k) v l = omega (
  arith,
  digit_last k v,
  digits_same k (digit (suc k) v) (digit k (v / 2)) (digit_half k v),
  digits_digit k (v / 2) (omega arith),
)

-- Bits added modulo 2 are their exclusive or.
pub xor_bits : (a b : ℕ) → a < 2 → b < 2 → bit_xor a b ≡ (a + b) % 2
xor_bits a b p q = omega (arith, xor_add_and a b, xor_lt 1 a b p q)

-- Digits added modulo 2 are the digits of the exclusive or.
pub digits_xor : (k : ℕ) (f g : ℕ → ℕ) → ((i : ℕ) → i < k → f i < 2) → ((i : ℕ) → i < k → g i < 2) →
    digits k (λ i. (f i + g i) % 2) ≡ bit_xor (digits k f) (digits k g)
unfolding digits
digits_xor zero f g bf bg = refl
digits_xor (suc k) f g bf bg =
    let p = bf k (omega arith) in
    let q = bg k (omega arith) in
    rw (mul_comm 2 (digits k f), mul_comm 2 (digits k g), xor_block 1 (digits k f) (digits k g) (f k) (g k) p q) (omega (
      arith,
      xor_bits (f k) (g k) p q,
      digits_xor k f g (λ i l. bf i (omega arith)) (λ i l. bg i (omega arith)),
    ))
