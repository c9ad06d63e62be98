-- Laws of `any`: whether one of some flags is set.
use mathlib.Core.Path.{◌≡◌, refl, sym, ap, ◌∙◌}
use mathlib.Core.Bool.{Bool, true, false, ◌||◌}
use Prim.Native.Nat.{ℕ, zero, suc, ◌+◌, ◌<◌}
use native.Mathlib.Decide.{ℕ_discrete}
use native.Mathlib.Nat.{add-zero, add-suc}
use native.Mathlib.Omega.{arith}
use Rattle.code.specs.Flags.{any}

pub or_assoc : (a b c : Bool) → (a || b) || c ≡ a || (b || c)
or_assoc true b c = refl
or_assoc false b c = refl

pub or_off : (a : Bool) → a || false ≡ a
or_off true = refl
or_off false = refl

or_true : (a : Bool) → a || true ≡ true
or_true true = refl
or_true false = refl

-- Where none is flagged, there is none in a window.
pub any_none : (w : ℕ) (f : ℕ → Bool) → ((k : ℕ) → k < w → f k ≡ false) → any w f ≡ false
unfolding any
any_none zero f h = refl
any_none (suc w) f h = rw (any_none w f (λ k l. h k (omega arith))) (h w (omega arith))

-- The same flags, the same `any`.
pub any_same : (w : ℕ) (f g : ℕ → Bool) → ((k : ℕ) → k < w → f k ≡ g k) → any w f ≡ any w g
unfolding any
any_same zero f g h = refl
any_same (suc w) f g h = rw (any_same w f g (λ k l. h k (omega arith)), h w (omega arith)) refl

-- One that is flagged makes `any` true.
pub any_some : (w : ℕ) (f : ℕ → Bool) (k : ℕ) → k < w → f k ≡ true → any w f ≡ true
unfolding any
any_some zero f k l e = absurd (omega arith)
any_some (suc w) f k l e = go (any_some w f k) (ℕ_discrete k w)
  where
    go : (k < w → f k ≡ true → any w f ≡ true) → Dec (k ≡ w) → any w f || f w ≡ true
    go rest (yes q) = ap (λ (b : Bool). any w f || b) (ap f (sym q) ∙ e) ∙ or_true (any w f)
    go rest (no q) = ap (λ (b : Bool). b || f w) (rest (omega arith) e)

-- Flag f 0 alone.
pub any_one : (f : ℕ → Bool) → any 1 f ≡ f 0
unfolding any
any_one f = refl

-- One of the first d, or one of the w after them.
pub any_add : (d w : ℕ) (f : ℕ → Bool) → any (d + w) f ≡ any d f || any w (λ k. f (d + k))
unfolding any
any_add d zero f = rw (add-zero d) (sym (or_off (any d f)))
any_add d (suc w) f = rw (add-suc d w) (ap (λ (b : Bool). b || f (d + w)) (any_add d w f) ∙ or_assoc (any d f) (any w (λ k. f (d + k))) (f (d + w)))

-- The first, or one of those after it.
pub any_first : (w : ℕ) (f : ℕ → Bool) → any (suc w) f ≡ f 0 || any w (λ k. f (suc k))
unfolding any
any_first zero f = sym (or_off (f 0))
any_first (suc w) f = ap (λ (b : Bool). b || f (suc w)) (any_first w f) ∙ or_assoc (f 0) (any w (λ k. f (suc k))) (f (suc w))
