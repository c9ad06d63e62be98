-- Sums over the tracks below the pivots.
use mathlib.Core.Path.{◌≡◌, refl}
use mathlib.Core.List.{List, [], ◌∷◌}
use Prim.Native.Nat.{ℕ, zero, suc, ◌+◌, ◌<◌, ◌≤◌}
use native.Mathlib.Omega.{arith}
use Rattle.code.specs.declared.sizes.TrackSet.{TrackSet}
use Rattle.code.specs.declared.sizes.TrackSet.TheVariants.{A, B}
use Rattle.code.specs.Record.{Shape, tracks}
use Rattle.plans.specs.declared.Form.{Form}
use Rattle.plans.specs.Lists.{Falls}
use Rattle.plans.specs.Plans.{pivot, of_set, join, lows_in, Sized, count, v_of, u_of}
use Rattle.forms.specs.Flagged.{total}
use Rattle.forms.specs.Forms.{Below}
use Rattle.forms.specs.Found.{low_sum, only_in}

-- ## What counts of two terms

pub low_one : (k a b : ℕ) → 1 ≤ k → low_sum k a b ≡ low_sum k 0 b + a
low_one zero a b h = absurd (omega arith)
low_one (suc zero) a b h = omega arith
low_one (suc (suc k)) a b h = omega arith

pub low_two : (k a b : ℕ) → 2 ≤ k → low_sum k a b ≡ a + b
low_two zero a b h = absurd (omega arith)
low_two (suc zero) a b h = absurd (omega arith)
low_two (suc (suc k)) a b h = refl

pub low_same : (k a b c d : ℕ) → (1 ≤ k → a ≡ c) → (2 ≤ k → b ≡ d) → low_sum k a b ≡ low_sum k c d
low_same zero a b c d f g = refl
low_same (suc zero) a b c d f g = f (omega arith)
low_same (suc (suc k)) a b c d f g = omega (arith, f (omega arith), g (omega arith))

pub low_zero : (k a b : ℕ) → (1 ≤ k → a ≡ 0) → (2 ≤ k → b ≡ 0) → low_sum k a b ≡ 0
low_zero zero a b f g = refl
low_zero (suc zero) a b f g = f (omega arith)
low_zero (suc (suc k)) a b f g = omega (arith, f (omega arith), g (omega arith))

pub low_add : (k a b c d : ℕ) → low_sum k (a + c) (b + d) ≡ low_sum k a b + low_sum k c d
low_add zero a b c d = refl
low_add (suc zero) a b c d = refl
low_add (suc (suc k)) a b c d = omega arith

-- Both sets together have each term once.
pub low_sets : (k : ℕ) (s q : TrackSet) (f g : TrackSet → ℕ) →
    low_sum k (only_in s A (f A)) (only_in q A (g A)) + low_sum k (only_in s B (f B)) (only_in q B (g B)) ≡ low_sum k (f s) (g q)
low_sets zero s q f g = refl
low_sets (suc zero) A q f g = omega arith
low_sets (suc zero) B q f g = omega arith
low_sets (suc (suc k)) A A f g = omega arith
low_sets (suc (suc k)) A B f g = omega arith
low_sets (suc (suc k)) B A f g = omega arith
low_sets (suc (suc k)) B B f g = omega arith

-- ## The tracks as lists

total_join : (ts us : List ℕ) (f : ℕ → ℕ) → total (join ts us) f ≡ total ts f + total us f
total_join [] us f = omega arith
total_join (t ∷ ts) us f = omega (arith, total_join ts us f)

total_set : (s c : TrackSet) (t : ℕ) (f : TrackSet → ℕ → ℕ) → total (of_set s c (t ∷ [])) (f c) ≡ only_in s c (f s t)
total_set A A t f = omega arith
total_set A B t f = refl
total_set B A t f = refl
total_set B B t f = omega arith

pub total_lows : (k : ℕ) (s : TrackSet) (v : ℕ) (q : TrackSet) (u : ℕ) (c : TrackSet) (f : TrackSet → ℕ → ℕ) →
    total (lows_in k s v q u c) (f c) ≡ low_sum k (only_in s c (f s v)) (only_in q c (f q u))
total_lows zero s v q u c f = refl
total_lows (suc zero) s v q u c f = total_set s c v f
total_lows (suc (suc k)) s v q u c f = omega (arith, total_join (of_set q c (u ∷ [])) (of_set s c (v ∷ [])) (f c), total_set s c v f, total_set q c u f)

-- ## Their order: v in s and u in q are below the pivots, and v below u where the sets are one

pub record Ordered (sh : Shape) (j : TrackSet → ℕ) (k : ℕ) (s : TrackSet) (v : ℕ) (q : TrackSet) (u : ℕ) : Type 0 where
  pub v_below : 1 ≤ k → Below sh s v (j s)
  pub u_below : 2 ≤ k → Below sh q u (j q)
  pub rising : 2 ≤ k → q ≡ s → v < u

ordered : (sh : Shape) (j : TrackSet → ℕ) (k : ℕ) (s : TrackSet) (v : ℕ) (q : TrackSet) (u : ℕ) →
    ((c : TrackSet) → Falls (tracks sh c) (j c ∷ lows_in k s v q u c)) → Ordered sh j k s v q u
ordered sh j zero s v q u o = record { v_below = λ h. absurd (omega arith); u_below = λ h. absurd (omega arith); rising = λ h. absurd (omega arith) }
ordered sh j (suc zero) A v q u o = record { v_below = λ h. omega (arith, o A); u_below = λ h. absurd (omega arith); rising = λ h. absurd (omega arith) }
ordered sh j (suc zero) B v q u o = record { v_below = λ h. omega (arith, o B); u_below = λ h. absurd (omega arith); rising = λ h. absurd (omega arith) }
ordered sh j (suc (suc k)) A v A u o = record { v_below = λ h. omega (arith, o A); u_below = λ h. omega (arith, o A); rising = λ h e. omega (arith, o A) }
ordered sh j (suc (suc k)) A v B u o = record {
  v_below = λ h. omega (arith, o A);
  u_below = λ h. omega (arith, o B);
  rising = λ h e. let z : ◌≡◌ {A = ℕ} 0 1 = cc in absurd (omega arith);
}
ordered sh j (suc (suc k)) B v A u o = record {
  v_below = λ h. omega (arith, o B);
  u_below = λ h. omega (arith, o A);
  rising = λ h e. let z : ◌≡◌ {A = ℕ} 0 1 = cc in absurd (omega arith);
}
ordered sh j (suc (suc k)) B v B u o = record { v_below = λ h. omega (arith, o B); u_below = λ h. omega (arith, o B); rising = λ h e. omega (arith, o B) }

-- Those of a form.
pub form_order : (sh : Shape) (p : Form) → Sized sh p → Ordered sh (pivot p) (count p) (v_of p).s (v_of p).t (u_of p).s (u_of p).t
form_order sh p sized = ordered sh (pivot p) (count p) (v_of p).s (v_of p).t (u_of p).s (u_of p).t sized.order
