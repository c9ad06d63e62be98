-- The flagged tracks of a set, found from track 0 on.
use mathlib.Core.Path.{◌≡◌, sym, ap, ◌∙◌}
use mathlib.Core.Bool.{Bool, true, false, ◌&&◌}
use mathlib.Core.List.{List}
use Prim.Native.Nat.{ℕ, ◌+◌, ◌<◌, ◌≤◌}
use native.Mathlib.Decide.{dec_lt, ℕ_discrete}
use native.Mathlib.Omega.{arith}
use borrow.Author.Tests.{lt-ltb, le-ltb}
use lib.Dec.{ltb}
use lib.ListN.{get_or}
use Rattle.std.proofs.Common.{None, Some}
use Rattle.code.specs.declared.sizes.TrackSet.{TrackSet}
use Rattle.code.specs.Record.{Shape, tracks}
use Rattle.code.specs.Image.{track_number}
use Rattle.code.specs.Flags.{TrackFlags, bit, flag_count}
use Rattle.code.proofs.Sums.{sum_le}
use Rattle.solver.specs.Solver.{marked_by}
use Rattle.solver.proofs.Sets.{number_from}
use Rattle.plans.specs.declared.Three.{Three}
use Rattle.plans.specs.Plans.{ThreeOf, Inserted}
use Rattle.plans.proofs.Inserting.{three_same}

-- The flags of the tracks below t.
abbrev pub below : ℕ → TrackFlags → TrackFlags
below t f s u = ltb u t && f s u

module _ (t : ℕ) (f : TrackFlags) (s : TrackSet) (u : ℕ) where
  below_yes : u < t → below t f s u ≡ f s u
  below_yes l = ap (λ (b : Bool). b && f s u) (lt-ltb u t l)

  below_no : t ≤ u → below t f s u ≡ false
  below_no l = ap (λ (b : Bool). b && f s u) (le-ltb u t l)

-- One track further only that track counts.
below_next : (t : ℕ) (f : TrackFlags) (s : TrackSet) (u : ℕ) → (u ≡ t → f s u ≡ false) → below (t + 1) f s u ≡ below t f s u
below_next t f s u h = go (dec_lt u t) (ℕ_discrete u t)
  where
    go : Dec (u < t) → Dec (u ≡ t) → below (t + 1) f s u ≡ below t f s u
    go (yes l) d = below_yes (t + 1) f s u (omega arith) ∙ sym (below_yes t f s u l)
    go (no l) (yes e) = below_yes (t + 1) f s u (omega arith) ∙ h e ∙ sym (below_no t f s u (omega arith))
    go (no l) (no n) = below_no (t + 1) f s u (omega arith) ∙ sym (below_no t f s u (omega arith))

-- They are not more than all.
below_few : (sh : Shape) (t : ℕ) (f : TrackFlags) (s : TrackSet) → flag_count sh (below t f) s ≤ flag_count sh f s
unfolding flag_count
below_few sh t f s = sum_le (tracks sh s) _ _ (λ u l. and_le (ltb u t) (f s u))
  where
    and_le : (a b : Bool) → bit (a && b) ≤ bit b
    and_le true b = omega arith
    and_le false b = omega arith

-- None of the tracks is seen.
pub find_none : (sh : Shape) (f : TrackFlags) (s : TrackSet) → ThreeOf sh (below 0 f) s (record { high = None; middle = None; low = None })
find_none sh f s = record {
  within = omega arith;
  sorted = record { middle_lower = λ l. absurd (omega arith); low_lower = λ l. absurd (omega arith) };
  high_is = λ t e. absurd (omega arith);
  middle_is = λ t e. absurd (omega arith);
  low_is = λ t e. absurd (omega arith);
  others = λ t l a b c. below_no 0 f s t (omega arith);
  one = λ l. absurd (omega arith);
  two = λ l. absurd (omega arith);
  three = λ l. absurd (omega arith);
}

-- All are seen.
pub find_all : (sh : Shape) (f : TrackFlags) (s : TrackSet) (t : ℕ) (x : Three) → tracks sh s ≤ t → ThreeOf sh (below t f) s x → ThreeOf sh f s x
find_all sh f s t x h o = three_same sh s (below t f) f x (λ u l. sym (below_yes t f s u (omega arith))) o

-- Track t is seen, by its mark.
module _ {M : Type 0} (counts : M → Bool) (none : M) (sh : Shape) (marks : List M) (s : TrackSet) (first t : ℕ) (x : Three) (start : track_number sh s 0 ≡ first)
    (o : ThreeOf sh (below t (marked_by counts none sh marks)) s x) where
  abbrev f : TrackFlags
  f = marked_by counts none sh marks

  mark_at : counts (get_or marks (first + t) none) ≡ f s t
  mark_at = ap (λ (k : ℕ). counts (get_or marks k none)) (omega (arith, number_from sh s t))

  pub find_same : counts (get_or marks (first + t) none) ≡ false → ThreeOf sh (below (t + 1) f) s x
  find_same n = three_same sh s _ _ x (λ u l. below_next t f s u (λ e. ap (f s) e ∙ sym mark_at ∙ n)) o

  pub find_more : (r : Three) → counts (get_or marks (first + t) none) ≡ true → t < tracks sh s → flag_count sh f s ≤ 3 → Inserted x (Some t) r →
      ThreeOf sh (below (t + 1) f) s r
  find_more r e l few i = i.is sh s _ _ (record {
    within = omega arith;
    was = λ u d. below_no t f s u (omega arith);
    here = λ u d. let h : u ≡ t = omega arith in below_yes (t + 1) f s u (omega arith) ∙ ap (f s) h ∙ sym mark_at ∙ e;
    there = λ u k d. below_next t f s u (λ h. absurd (omega arith));
  }) (omega (arith, below_few sh (t + 1) f s)) o
