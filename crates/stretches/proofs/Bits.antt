-- Words of which at most one bit is 1.
use mathlib.Core.Path.{◌≡◌, refl, sym, ap, ◌∙◌}
use mathlib.Core.Logic.{◌≢◌, by_cases}
use mathlib.Core.Bool.{Bool, true, false}
use Prim.Native.Nat.{ℕ, zero, suc, ◌+◌, ◌*◌, ◌-◌, ◌/◌, ◌%◌, ◌^◌, ◌<◌, ◌≤◌}
use native.Mathlib.Nat.{zero-div, mod-lt, one-mul}
use native.Mathlib.Decide.{dec_lt}
use native.Mathlib.Omega.{arith}
use borrow.Author.Tests.{eqb-true}
use lib.Dec.{eqb}
use lib.Bits.{bit_and, and_shr, and_self}
use lib.Pow.{pow_pos, shl_exact, shr-shr, split, high, field, mod-mod-pow}
use Rattle.code.specs.declared.sizes.TrackSet.TheVariants.{A, B}
use Rattle.code.specs.Record.{Shape, tracks, sum}
use Rattle.code.specs.Flags.{bit, word_flags, flag_count}
use Rattle.code.proofs.Sums.{sum_zero}
use Rattle.stretches.specs.Steps.{OneBit, AtMostOne}

-- ## A number

-- The bits below n stay modulo 2 ^ n.
bit_mod : (x n u : ℕ) → u < n → x % 2 ^ n / 2 ^ u % 2 ≡ x / 2 ^ u % 2
bit_mod x n u h = ap (λ (i : ℕ). x % 2 ^ i / 2 ^ u % 2) e ∙ ap (λ (v : ℕ). v % 2) (field x (n - suc u + 1) u) ∙ mod-mod-pow (x / 2 ^ u) (n - suc u) 1
  where
    e : n ≡ n - suc u + 1 + u
    e = omega arith

-- Past a bit that is 1 the number before has the same bits.
before_same : (x u t : ℕ) → u < t → x / 2 ^ u % 2 ≡ 1 → (x - 1) / 2 ^ t ≡ x / 2 ^ t
before_same x u t h e = ap (λ (v : ℕ). v / 2 ^ t) parts ∙ high (x / 2 ^ t) t (omega (arith, small))
  where
    some : 0 < x % 2 ^ t
    some = by_cases (dec_lt 0 (x % 2 ^ t)) (λ l. l)
        (λ n. let z : x % 2 ^ t ≡ 0 = omega arith in
        absurd (omega (arith, bit_mod x t u h, ap (λ (v : ℕ). v / 2 ^ u % 2) z, zero-div (2 ^ u))))

    parts : x - 1 ≡ x / 2 ^ t * 2 ^ t + (x % 2 ^ t - 1)
    parts = omega (arith, split x t, some)

    small : x % 2 ^ t < 2 ^ t
    small = mod-lt x (pow_pos t)

-- 0 has no bit that is 1.
pub no_bit : (x : ℕ) → x ≡ 0 → OneBit x true
no_bit x e = record { one = λ _ u t h b d. omega (arith, ap (λ (v : ℕ). v / 2 ^ t) e, zero-div (2 ^ t)) }

-- Of two bits that are 1 the number before has the higher too.
pub one_bit : (x : ℕ) → OneBit x (eqb (bit_and x (x - 1)) 0)
one_bit x = record { one = λ e u t h b d. omega (arith, none (eqb-true _ _ e) u t h b) }
  where
    none : bit_and x (x - 1) ≡ 0 → (u t : ℕ) → u < t → x / 2 ^ u % 2 ≡ 1 → x / 2 ^ t ≡ 0
    none e u t h b = sym (and_self (x / 2 ^ t)) ∙ ap (bit_and (x / 2 ^ t)) (sym (before_same x u t h b)) ∙ sym (and_shr x (x - 1) t)
        ∙ ap (λ (v : ℕ). v / 2 ^ t) e ∙ zero-div (2 ^ t)

-- ## The sets

-- Where of any two flags one is off, one is on at the most.
pairs_one : (n : ℕ) (f : ℕ → Bool) → ((u t : ℕ) → u < t → t < n → f u ≡ true → f t ≢ true) → sum n (λ t. bit (f t)) ≤ 1
unfolding sum
pairs_one zero f h = omega arith
pairs_one (suc n) f h = go (f n) refl (pairs_one n f (λ u t i l. h u t i (omega arith)))
  where
    off : (b : Bool) → (b ≢ true) → bit b ≡ 0
    off true k = absurd (k refl)
    off false k = refl

    go : (b : Bool) → f n ≡ b → sum n (λ t. bit (f t)) ≤ 1 → sum n (λ t. bit (f t)) + bit b ≤ 1
    go true e m = omega (arith, sum_zero n (λ t. bit (f t)) (λ t l. off (f t) (λ i. h t n l (omega arith) i e)))
    go false e m = omega arith

-- Bit g alone.
one_shifted : (g : ℕ) → g < 32 → 1 * 2 ^ g % 2 ^ 32 ≡ 2 ^ g
one_shifted g h = shl_exact 1 g 32 (omega arith) (omega arith) ∙ one-mul (2 ^ g)

-- The bits from a on are those of B, and the others those of A.
module _ {r : Bool} (sh : Shape) (word a : ℕ) (e : a ≡ tracks sh A) where
  pub low_one : a < 32 → OneBit (word % (1 * 2 ^ a % 2 ^ 32)) r → AtMostOne sh word A r
  unfolding flag_count
  low_one k c = record {
    most = λ j. pairs_one (tracks sh A) (word_flags sh word A) (λ u t h l f g. c.one j u t h (low u (omega arith) ∙ eqb-true _ _ f) (low t (omega arith) ∙ eqb-true _ _ g));
  }
    where
      low : (u : ℕ) → u < a → word % (1 * 2 ^ a % 2 ^ 32) / 2 ^ u % 2 ≡ word / 2 ^ u % 2
      low u l = ap (λ (p : ℕ). word % p / 2 ^ u % 2) (one_shifted a k) ∙ bit_mod word a u l

  pub high_one : OneBit (word / 2 ^ a) r → AtMostOne sh word B r
  unfolding flag_count
  high_one b = record {
    most = λ j. pairs_one (tracks sh B) (word_flags sh word B) (λ u t h l f g. b.one j u t h (up u ∙ eqb-true _ _ f) (up t ∙ eqb-true _ _ g));
  }
    where
      up : (u : ℕ) → word / 2 ^ a / 2 ^ u % 2 ≡ word / 2 ^ (tracks sh A + u) % 2
      up u = ap (λ (v : ℕ). v % 2) (shr-shr word a u) ∙ ap (λ (v : ℕ). word / 2 ^ (v + u) % 2) e
