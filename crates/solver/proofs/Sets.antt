-- The tracks of a set.
use mathlib.Core.Path.{◌≡◌, refl, sym, ap, ◌∙◌}
use mathlib.Core.Bool.{true, false, true≢false}
use Prim.Native.Nat.{ℕ, ◌+◌, ◌<◌, ◌≤◌}
use native.Mathlib.Decide.{ℕ_discrete}
use native.Mathlib.Omega.{arith}
use borrow.Author.Tests.{eqb-true, eq-eqb}
use lib.Dec.{eqb}
use Rattle.std.specs.Option.{option_eq}
use Rattle.std.specs.Prelude.{Option, Some, None}
use Rattle.code.specs.declared.sizes.TrackSet.{TrackSet}
use Rattle.code.specs.declared.sizes.TrackSet.TheVariants.{A, B}
use Rattle.code.specs.Record.{Shape, tracks}
use Rattle.code.specs.Image.{track_number, all_tracks}
use Rattle.code.proofs.Places.{number_lt}

-- A set's track numbers are in a row.
pub number_from : (sh : Shape) (s : TrackSet) (t : ℕ) → track_number sh s t ≡ track_number sh s 0 + t
number_from sh A t = omega arith
number_from sh B t = omega arith

-- Those of a set whose first one is `first` are within n, where all tracks are.
pub number_within : (sh : Shape) (s : TrackSet) (first t n : ℕ) → first ≡ track_number sh s 0 → t < tracks sh s → all_tracks sh ≤ n → first + t < n
number_within sh s first t n e l h = omega (arith, number_from sh s t, number_lt sh s t l)

-- There is one track, at the most.
pub same_track : {track : Option ℕ} {t u : ℕ} → track ≡ Some t → track ≡ Some u → t ≡ u
same_track h k = cc

pub no_track : {track : Option ℕ} {t : ℕ} → track ≡ None → track ≡ Some t → ⊥
no_track h k = cc

-- Where no track is named there is none.
pub none_of : (track : Option ℕ) → ((t : ℕ) → track ≡ Some t → ⊥) → track ≡ None
none_of None h = refl
none_of (Some t) h = absurd (h t refl)

-- It is a track of that number or not.
pub track_is : (track : Option ℕ) (t : ℕ) → Dec (track ≡ Some t)
track_is None t = no (λ e. cc)
track_is (Some u) t = go (ℕ_discrete u t)
  where
    go : Dec (u ≡ t) → Dec (Some u ≡ Some t)
    go (yes e) = yes (ap Some e)
    go (no d) = no (λ e. d cc)

-- Two that name the same track are the same.
pub same_tracks : (v w : Option ℕ) → ((t : ℕ) → v ≡ Some t → w ≡ Some t) → ((t : ℕ) → w ≡ Some t → v ≡ Some t) → v ≡ w
same_tracks None None a b = refl
same_tracks None (Some t) a b = b t refl
same_tracks (Some t) w a b = sym (a t refl)

-- The test for one.
pub same_by_test : {v : Option ℕ} {n t : ℕ} → n ≡ t → option_eq eqb v (Some n) ≡ true → v ≡ Some t
same_by_test {v = None} e h = cc
same_by_test {v = Some u} e h = ap Some (eqb-true _ _ h ∙ e)

pub other_by_test : {v : Option ℕ} {n t : ℕ} → n ≡ t → option_eq eqb v (Some n) ≡ false → v ≡ Some t → ⊥
other_by_test {n = n} e h i = true≢false (sym (eq-eqb _ _ (sym e)) ∙ (rw i at h))
