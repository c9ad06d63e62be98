-- The extras that tracing names are the changed tracks outside the flags.
use mathlib.Core.Path.{◌≡◌, refl, sym, ap, ap₂, ◌∙◌}
use mathlib.Core.Logic.{◌≢◌, by_cases}
use mathlib.Core.Bool.{Bool, true, false, ◌&&◌, not, true≢false}
use Prim.Native.Nat.{ℕ, zero, suc, ◌<◌}
use native.Mathlib.Decide.{ℕ_discrete}
use native.Mathlib.Omega.{arith}
use borrow.Author.Tests.{eqb-true, eqb-false, eq-eqb}
use lib.Dec.{eqb}
use Rattle.code.specs.Record.{TrackSet, Shape, Cells}
use Rattle.code.specs.Image.{track_number}
use Rattle.code.specs.Flags.{TrackFlags}
use Rattle.code.specs.Reach.{pick, Extra, none, extra}
use Rattle.code.specs.Calls.{changed_in, changed_extra}

module _ (sh : Shape) (f : TrackFlags) (x y : Cells) (s : TrackSet) where
  -- An unflagged track with a changed cell.
  pub record ChangedTrack (k g : ℕ) : Type 0 where
    pub track : ℕ
    pub before : track < k
    pub number : track_number sh s track ≡ g
    pub unflagged : f s track ≡ false
    pub changed : changed_in sh x y s track ≢ 0

  test : ℕ → Bool
  test t = not (f s t) && not (eqb (changed_in sh x y s t) 0)

  -- The test of a track that is flagged or unchanged.
  passed_by : (t : ℕ) → (f s t ≡ false → changed_in sh x y s t ≡ 0) → test t ≡ false
  unfolding test
  passed_by t h = go (f s t) refl
    where
      go : (b : Bool) → f s t ≡ b → not b && not (eqb (changed_in sh x y s t) 0) ≡ false
      go true e = refl
      go false e = rw (eq-eqb _ _ (h e))

  -- An extra that is named is such a track.
  pub named_changed : (k g : ℕ) → changed_extra sh f x y s k ≡ extra g → ChangedTrack k g
  unfolding changed_extra
  named_changed zero g e = let z : ◌≡◌ {A = ℕ} 0 1 = cc in absurd (omega arith)
  named_changed (suc t) g e = go (named_changed t g) (f s t) (eqb (changed_in sh x y s t) 0) refl refl e
    where
      later : ChangedTrack t g → ChangedTrack (suc t) g
      later c = record { track = c.track; before = omega arith; number = c.number; unflagged = c.unflagged; changed = c.changed }

      go : (changed_extra sh f x y s t ≡ extra g → ChangedTrack t g) → (p q : Bool) → f s t ≡ p → eqb (changed_in sh x y s t) 0 ≡ q →
          pick (not p && not q) (extra (track_number sh s t)) (changed_extra sh f x y s t) ≡ extra g → ChangedTrack (suc t) g
      go rest false false u v w = record { track = t; before = omega arith; number = cc; unflagged = u; changed = eqb-false _ _ v }
      go rest false true u v w = later (rest w)
      go rest true q u v w = later (rest w)

  -- One track more that is flagged or unchanged.
  one_more : (t : ℕ) → (f s t ≡ false → changed_in sh x y s t ≡ 0) → changed_extra sh f x y s (suc t) ≡ changed_extra sh f x y s t
  unfolding changed_extra test
  one_more t h = ap (λ (b : Bool). pick b (extra (track_number sh s t)) (changed_extra sh f x y s t)) (passed_by t h)

  -- Where every unflagged track is unchanged, none is named.
  pub none_named : (k : ℕ) → ((t : ℕ) → t < k → f s t ≡ false → changed_in sh x y s t ≡ 0) → changed_extra sh f x y s k ≡ none
  unfolding changed_extra
  none_named zero h = refl
  none_named (suc t) h = one_more t (h t (omega arith)) ∙ none_named t (λ u l. h u (omega arith))

  -- The one track itself.
  here_named : (t u : ℕ) → t ≡ u → f s u ≡ false → changed_extra sh f x y s t ≡ none →
      changed_extra sh f x y s (suc t) ≡ pick (eqb (changed_in sh x y s u) 0) none (extra (track_number sh s u))
  unfolding changed_extra
  here_named t u i e n = rw i (ap₂ (λ (b : Bool) (r : Extra). pick (not b && not (eqb (changed_in sh x y s u) 0)) (extra (track_number sh s u)) r) e (rw i at n)
      ∙ swap (eqb (changed_in sh x y s u) 0))
    where
      swap : (b : Bool) → pick (not b) (extra (track_number sh s u)) none ≡ pick b none (extra (track_number sh s u))
      swap true = refl
      swap false = refl

  -- Where one unflagged track may be changed, it is named if it is.
  pub one_named : (k u : ℕ) → u < k → f s u ≡ false → ((t : ℕ) → t < k → f s t ≡ false → t ≢ u → changed_in sh x y s t ≡ 0) →
      changed_extra sh f x y s k ≡ pick (eqb (changed_in sh x y s u) 0) none (extra (track_number sh s u))
  one_named zero u l e h = absurd (omega arith)
  one_named (suc t) u l e h = by_cases (ℕ_discrete t u)
      (λ i. here_named t u i e (none_named t (λ v k d. h v (omega arith) d (omega arith))))
      (λ d. one_more t (λ g. h t (omega arith) g d) ∙ one_named t u (omega arith) e (λ v k. h v (omega arith)))

  -- Where none is named, every unflagged track is unchanged.
  pub named_none : (k : ℕ) → changed_extra sh f x y s k ≡ none → (t : ℕ) → t < k → f s t ≡ false → changed_in sh x y s t ≡ 0
  unfolding changed_extra
  named_none zero e t l u = absurd (omega arith)
  named_none (suc k) e t l u = go (named_none k) (f s k) (eqb (changed_in sh x y s k) 0) refl refl e
    where
      earlier : (changed_extra sh f x y s k ≡ none → (t : ℕ) → t < k → f s t ≡ false → changed_in sh x y s t ≡ 0) →
          changed_extra sh f x y s k ≡ none → t ≢ k → changed_in sh x y s t ≡ 0
      earlier rest w d = rest w t (omega arith) u

      go : (changed_extra sh f x y s k ≡ none → (t : ℕ) → t < k → f s t ≡ false → changed_in sh x y s t ≡ 0) → (p q : Bool) → f s k ≡ p →
          eqb (changed_in sh x y s k) 0 ≡ q → pick (not p && not q) (extra (track_number sh s k)) (changed_extra sh f x y s k) ≡ none → changed_in sh x y s t ≡ 0
      go rest false false i j w = let z : ◌≡◌ {A = ℕ} 0 1 = cc in absurd (omega arith)
      go rest false true i j w = by_cases (ℕ_discrete t k) (λ e. ap (changed_in sh x y s) e ∙ eqb-true _ _ j) (earlier rest w)
      go rest true q i j w = earlier rest w (λ e. true≢false (sym i ∙ ap (f s) (sym e) ∙ u))
