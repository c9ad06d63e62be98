-- Laws of `back` and `sum`.
use mathlib.Core.Path.{◌≡◌, refl, ap, ◌∙◌}
use mathlib.Core.Logic.{◌≢◌}
use Prim.Native.Nat.{ℕ, zero, suc, ◌+◌, ◌<◌, ◌≤◌, ◌%◌}
use native.Mathlib.Nat.{add-zero, add-suc}
use native.Mathlib.Decide.{ℕ_discrete}
use native.Mathlib.Omega.{arith}
use Rattle.code.specs.Record.{back, sum}

-- ## Shifted tracks

pub back_at : (x : ℕ → ℕ) (p k m : ℕ) → p + k ≡ m → back x m k ≡ x p
unfolding back
back_at x p zero m e = ap x (omega arith)
back_at x p (suc k) zero e = absurd (omega arith)
back_at x p (suc k) (suc m) e = back_at x p k m (omega arith)

-- Before the start there is nothing.
pub back_early : (x : ℕ → ℕ) (m k : ℕ) → m < k → back x m k ≡ 0
unfolding back
back_early x m zero h = absurd (omega arith)
back_early x zero (suc k) h = refl
back_early x (suc m) (suc k) h = back_early x m k (omega arith)

-- A shifted cell is the same in both tracks if the cell that it names, where there is one, is.
pub back_same : (x y : ℕ → ℕ) (m k : ℕ) → ((p : ℕ) → p + k ≡ m → x p ≡ y p) → back x m k ≡ back y m k
unfolding back
back_same x y m zero h = h m (omega arith)
back_same x y zero (suc k) h = refl
back_same x y (suc m) (suc k) h = back_same x y m k (λ p e. h p (omega arith))

pub back_add : (x y : ℕ → ℕ) (m k : ℕ) → back (λ p. x p + y p) m k ≡ back x m k + back y m k
unfolding back
back_add x y m zero = refl
back_add x y zero (suc k) = refl
back_add x y (suc m) (suc k) = back_add x y m k

pub back_mod : (x : ℕ → ℕ) (m k : ℕ) → back (λ p. x p % 2) m k ≡ back x m k % 2
unfolding back
back_mod x m zero = refl
back_mod x zero (suc k) = refl
back_mod x (suc m) (suc k) = back_mod x m k

-- A shifted cell is 0 if the cell that it names, where there is one, is.
pub back_zero : (x : ℕ → ℕ) (m k : ℕ) → ((p : ℕ) → p + k ≡ m → x p ≡ 0) → back x m k ≡ 0
unfolding back
back_zero x m zero h = h m (omega arith)
back_zero x zero (suc k) h = refl
back_zero x (suc m) (suc k) h = back_zero x m k (λ p e. h p (omega arith))

-- A track shifted twice.
pub back_back : (x : ℕ → ℕ) (m j k : ℕ) → back (λ p. back x p j) m k ≡ back x m (j + k)
unfolding back
back_back x m j zero = rw add-zero
back_back x zero j (suc k) = rw add-suc
back_back x (suc m) j (suc k) = rw add-suc (back_back x m j k)

-- ## Sums

pub sum_same : (n : ℕ) (f g : ℕ → ℕ) → ((t : ℕ) → t < n → f t ≡ g t) → sum n f ≡ sum n g
unfolding sum
sum_same zero f g h = refl
sum_same (suc n) f g h = omega (arith, h n (omega arith), sum_same n f g (λ t l. h t (omega arith)))

pub sum_zero : (n : ℕ) (f : ℕ → ℕ) → ((t : ℕ) → t < n → f t ≡ 0) → sum n f ≡ 0
unfolding sum
sum_zero zero f h = refl
sum_zero (suc n) f h = omega (arith, h n (omega arith), sum_zero n f (λ t l. h t (omega arith)))

pub sum_add : (n : ℕ) (f g : ℕ → ℕ) → sum n (λ t. f t + g t) ≡ sum n f + sum n g
unfolding sum
sum_add zero f g = refl
sum_add (suc n) f g = omega (arith, sum_add n f g)

pub sum_mod : (n : ℕ) (f : ℕ → ℕ) → sum n (λ t. f t % 2) % 2 ≡ sum n f % 2
unfolding sum
sum_mod zero f = refl
sum_mod (suc n) f = omega (arith, sum_mod n f)

pub sum_le : (n : ℕ) (f g : ℕ → ℕ) → ((t : ℕ) → t < n → f t ≤ g t) → sum n f ≤ sum n g
unfolding sum
sum_le zero f g h = omega arith
sum_le (suc n) f g h = omega (arith, h n (omega arith), sum_le n f g (λ t l. h t (omega arith)))

-- A sum without its first term.
pub sum_first : (n : ℕ) (f : ℕ → ℕ) → sum (suc n) f ≡ f 0 + sum n (λ t. f (suc t))
unfolding sum
sum_first zero f = omega arith
sum_first (suc n) f = omega (arith, sum_first n f)

-- Two sums that agree in all terms but term i differ as those terms do.
pub sum_but_one : (n i : ℕ) (f g : ℕ → ℕ) → i < n → ((t : ℕ) → t < n → t ≢ i → f t ≡ g t) → sum n f + g i ≡ sum n g + f i
unfolding sum
sum_but_one zero i f g l h = absurd (omega arith)
sum_but_one (suc n) i f g l h = go (sum_but_one n i f g) (ℕ_discrete i n)
  where
    go : (i < n → ((t : ℕ) → t < n → t ≢ i → f t ≡ g t) → sum n f + g i ≡ sum n g + f i) → Dec (i ≡ n) → sum (suc n) f + g i ≡ sum (suc n) g + f i
    go rest (yes e) = omega (arith, ap f e, ap g e, sum_same n f g (λ t k. h t (omega arith) (omega arith)))
    go rest (no d) = omega (arith, h n (omega arith) (omega arith), rest (omega arith) (λ t k. h t (omega arith)))

-- A sum in which one term counts.
pub sum_one : (n i : ℕ) (f : ℕ → ℕ) → i < n → ((t : ℕ) → t < n → t ≢ i → f t ≡ 0) → sum n f ≡ f i
sum_one n i f l h = omega (arith, sum_but_one n i f (λ t. 0) l h, sum_zero n (λ t. 0) (λ t k. refl))

-- ## Sums of shifted tracks, as a diagonal has two: track t is read at m - k t

module _ (n : ℕ) (x y : ℕ → ℕ → ℕ) (k : ℕ → ℕ) (m : ℕ) where
  pub shifted_same : ((t q : ℕ) → t < n → q + k t ≡ m → x t q ≡ y t q) → sum n (λ t. back (x t) m (k t)) ≡ sum n (λ t. back (y t) m (k t))
  shifted_same h = sum_same n (λ t. back (x t) m (k t)) (λ t. back (y t) m (k t)) (λ t l. back_same (x t) (y t) m (k t) (λ q. h t q l))

  pub shifted_but_one : (i p : ℕ) → i < n → p + k i ≡ m → ((t q : ℕ) → t < n → t ≢ i → q + k t ≡ m → x t q ≡ y t q) →
      sum n (λ t. back (x t) m (k t)) + y i p ≡ sum n (λ t. back (y t) m (k t)) + x i p
  shifted_but_one i p l e h = omega (
    arith,
    back_at (x i) p (k i) m e,
    back_at (y i) p (k i) m e,
    sum_but_one n i (λ t. back (x t) m (k t)) (λ t. back (y t) m (k t)) l (λ t l' d. back_same (x t) (y t) m (k t) (λ q. h t q l' d)),
  )

  pub shifted_add : sum n (λ t. back (λ p. x t p + y t p) m (k t)) ≡ sum n (λ t. back (x t) m (k t)) + sum n (λ t. back (y t) m (k t))
  shifted_add = sum_same n _ _ (λ t l. back_add (x t) (y t) m (k t)) ∙ sum_add n _ _

pub shifted_mod : (n : ℕ) (x : ℕ → ℕ → ℕ) (k : ℕ → ℕ) (m : ℕ) →
    sum n (λ t. back (λ p. x t p % 2) m (k t)) % 2 ≡ sum n (λ t. back (x t) m (k t)) % 2
shifted_mod n x k m = ap (λ v. v % 2) (sum_same n _ _ (λ t l. back_mod (x t) m (k t))) ∙ sum_mod n _
