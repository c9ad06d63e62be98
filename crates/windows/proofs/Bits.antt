-- Laws of the bits of a word, and of the words of a list joined.
use Rattle.std.proofs.Common.{◌≡◌, Bool, true, false, ◌||◌, true≢false, List, [], ◌∷◌, ℕ, zero, suc, ◌+◌, ◌*◌, ◌/◌, ◌%◌, ◌^◌, ◌<◌, refl, sym, ap, ◌∙◌, eqb, bit_or, fold, get_or, arith}
use native.Mathlib.Decide.{ℕ_discrete}
use native.Mathlib.Nat.{one-mul, pow-suc, zero-div}
use borrow.Author.Tests.{eq-eqb, ne_eqb}
use lib.Bits.{or_shr, or_mod}
use lib.Pow.{shl_exact, shr-shr}
use Rattle.flags.specs.Words.{bit_at}

-- A bit of two joined words is one of either.
pub or_bit : (x y g : ℕ) → bit_at (bit_or x y) g ≡ bit_at x g || bit_at y g
or_bit x y g =
    ap (λ (v : ℕ). eqb (v % 2) 1) (or_shr x y g) ∙ ap (λ (v : ℕ). eqb v 1) (or_mod (x / 2 ^ g) (y / 2 ^ g) 1)
    ∙ either (x / 2 ^ g % 2) (y / 2 ^ g % 2) (omega arith) (omega arith)
  where
    either : (a b : ℕ) → a < 2 → b < 2 → eqb (bit_or a b) 1 ≡ eqb a 1 || eqb b 1
    either zero zero h k = refl
    either zero (suc zero) h k = refl
    either zero (suc (suc b)) h k = absurd (omega arith)
    either (suc zero) zero h k = refl
    either (suc zero) (suc zero) h k = refl
    either (suc zero) (suc (suc b)) h k = absurd (omega arith)
    either (suc (suc a)) b h k = absurd (omega arith)

-- Half of a word.
half : (x g : ℕ) → x / 2 ^ suc g ≡ x / 2 / 2 ^ g
half x g = let e : suc g ≡ 1 + g = omega arith in rw e (sym (shr-shr x 1 g))

-- A word without a flag.
pub no_bit : (g : ℕ) → bit_at 0 g ≡ false
no_bit g = ap (λ (v : ℕ). eqb (v % 2) 1) (zero-div (2 ^ g))

-- Bit g alone.
pub one_bit : (g h : ℕ) → bit_at (2 ^ g) h ≡ eqb h g
one_bit zero zero = refl
one_bit zero (suc h) = ap (λ (v : ℕ). eqb (v % 2) 1) (half 1 h ∙ zero-div (2 ^ h)) ∙ sym (ne_eqb (suc h) 0 (λ e. omega arith))
one_bit (suc g) zero = ap (λ (v : ℕ). eqb v 1) even ∙ sym (ne_eqb 0 (suc g) (λ e. omega arith))
  where
    even : 2 ^ suc g / 2 ^ 0 % 2 ≡ 0
    even = rw (pow-suc 2 g) (omega arith)
one_bit (suc g) (suc h) = ap (λ (v : ℕ). eqb (v % 2) 1) (half (2 ^ suc g) h ∙ ap (λ (v : ℕ). v / 2 ^ h) halved) ∙ one_bit g h ∙ next (ℕ_discrete h g)
  where
    halved : 2 ^ suc g / 2 ≡ 2 ^ g
    halved = rw (pow-suc 2 g) (omega arith)

    next : Dec (h ≡ g) → eqb h g ≡ eqb (suc h) (suc g)
    next (yes e) = eq-eqb h g e ∙ sym (eq-eqb (suc h) (suc g) (omega arith))
    next (no d) = ne_eqb h g d ∙ sym (ne_eqb (suc h) (suc g) (λ e. d (omega arith)))

-- A 1 shifted by g is bit g of a word of 32 bits.
pub one_shifted : (g : ℕ) → g < 32 → 1 * 2 ^ g % 2 ^ 32 ≡ 2 ^ g
one_shifted g h = shl_exact 1 g 32 (omega arith) (omega arith) ∙ one-mul (2 ^ g)

-- A joined word has the bits of both.
or_left : (x y g : ℕ) → bit_at x g ≡ true → bit_at (bit_or x y) g ≡ true
or_left x y g e = or_bit x y g ∙ ap (λ (b : Bool). b || bit_at y g) e

or_right : (x y g : ℕ) → bit_at y g ≡ true → bit_at (bit_or x y) g ≡ true
or_right x y g e = or_bit x y g ∙ ap (λ (b : Bool). bit_at x g || b) e ∙ or_on (bit_at x g)
  where
    or_on : (a : Bool) → a || true ≡ true
    or_on true = refl
    or_on false = refl

-- All words joined have the bits of the one that they begin with, and of each.
first_gathered : (g first : ℕ) (words : List ℕ) → bit_at first g ≡ true → bit_at (fold bit_or first words) g ≡ true
first_gathered g first [] e = e
first_gathered g first (word ∷ words) e = first_gathered g (bit_or first word) words (or_left first word g e)

pub gathered : (g first : ℕ) (words : List ℕ) (m : ℕ) → bit_at (get_or words m 0) g ≡ true → bit_at (fold bit_or first words) g ≡ true
gathered g first [] m e = absurd (true≢false (sym e ∙ no_bit g))
gathered g first (word ∷ words) zero e = first_gathered g (bit_or first word) words (or_right first word g e)
gathered g first (word ∷ words) (suc m) e = gathered g (bit_or first word) words m e
