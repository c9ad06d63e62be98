-- The words of a position and of its window, and the plans that they make.
use mathlib.Core.Path.{◌≡◌, refl, sym, ap, ◌∙◌}
use mathlib.Core.Logic.{by_cases}
use mathlib.Core.Bool.{Bool, true, false, true≢false}
use mathlib.Core.List.{List}
use Prim.Native.Nat.{ℕ, suc, ◌+◌, ◌-◌, ◌^◌, ◌<◌, ◌≤◌}
use native.Mathlib.Decide.{dec_lt}
use native.Mathlib.Nat.{zero-div}
use native.Mathlib.Omega.{arith}
use lib.ListN.{get_or}
use Rattle.std.specs.Prelude.{Option, Some, None, is_some}
use Rattle.code.specs.declared.sizes.TrackSet.{TrackSet}
use Rattle.code.specs.declared.sizes.TrackSet.TheVariants.{A, B}
use Rattle.code.specs.Record.{other, closed_tail, Shape, tracks, track_length, sum}
use Rattle.code.specs.Flags.{TrackFlags, bit, word_flags, flag_count, Within}
use Rattle.code.specs.Image.{track_number}
use Rattle.code.specs.Spans.{window}
use Rattle.code.specs.Sizes.{shape}
use Rattle.code.specs.declared.sizes.Sizes.{Sizes}
use Rattle.code.proofs.Closings.{is_closed}
use Rattle.code.proofs.Codes.{code_within}
use Rattle.code.proofs.Patterns.{but_for, none_flagged}
use Rattle.code.proofs.Sums.{sum_zero, sum_le, sum_one}
use Rattle.solver.specs.declared.Plan.{Plan}
use Rattle.solver.specs.Solver.{Named, is_low, is_high, is_last, marked, Planned, Fills, Single}
use Rattle.solver.proofs.Plans.{count, count_le}
use Rattle.solver.proofs.Sets.{same_track, no_track, none_of}
use Rattle.flags.specs.Marks.{Marks}
use Rattle.flags.specs.Words.{word_cells, Windows}
use Rattle.code.proofs.Same.{SameFlags, count_same}
use Rattle.flags.proofs.Bits.{marks_same}
use Rattle.stretches.specs.Steps.{flags_at, Alike, InWindow, Below, OneTrack, IfFlagged, PlanAt, Suits}

-- ## Runs

pub alike_one : (words near : List ℕ) (from : ℕ) → Alike words near (get_or words from 0) (get_or near from 0) from (from + 1)
alike_one words near from = record {
  word_at = λ q h l. let e : q ≡ from = omega arith in rw e refl;
  near_at = λ q h l. let e : q ≡ from = omega arith in rw e refl;
}

pub alike_more : {words near : List ℕ} {word wide from m : ℕ} → Alike words near word wide from m → get_or words m 0 ≡ word → get_or near m 0 ≡ wide →
    Alike words near word wide from (m + 1)
alike_more {words} {near} {word} {wide} {from} {m} a e d = record {
  word_at = λ q h l. by_cases (dec_lt q m) (a.word_at q h) (λ n. let i : q ≡ m = omega arith in rw i e);
  near_at = λ q h l. by_cases (dec_lt q m) (a.near_at q h) (λ n. let i : q ≡ m = omega arith in rw i d);
}

-- ## Counts

-- A flag that cannot be on is off.
not_on : (b : Bool) → (b ≡ true → ⊥) → b ≡ false
not_on true h = absurd (h refl)
not_on false h = refl

bit_small : (a : Bool) → bit a ≤ 1
bit_small true = omega arith
bit_small false = omega arith

-- Where f flags no track that g does not, it flags no more.
count_below : (sh : Shape) (f g : TrackFlags) (s : TrackSet) → Below sh f g s → flag_count sh f s ≤ flag_count sh g s
unfolding flag_count
count_below sh f g s h = sum_le (tracks sh s) _ _ (λ t l. go (f s t) (g s t) (h t l))
  where
    go : (a b : Bool) → (b ≡ false → a ≡ false) → bit a ≤ bit b
    go a true k = bit_small a
    go a false k = rw (k refl) (omega arith)

-- Where all tracks but one are clear, one is flagged at the most.
count_one : (sh : Shape) (f : TrackFlags) (s : TrackSet) (track : Option ℕ) → ((t : ℕ) → t < tracks sh s → (track ≡ Some t → ⊥) → f s t ≡ false) → flag_count sh f s ≤ 1
unfolding flag_count
count_one sh f s None h = omega (arith, sum_zero (tracks sh s) (λ t. bit (f s t)) (λ t k. ap bit (h t k (no_track refl))))
count_one sh f s (Some u) h = by_cases (dec_lt u (tracks sh s))
    (λ l. omega (arith, sum_one (tracks sh s) u (λ t. bit (f s t)) l (λ t k d. ap bit (h t k (λ e. d (sym (same_track refl e))))), bit_small (f s u)))
    (λ d. omega (arith, sum_zero (tracks sh s) (λ t. bit (f s t)) (λ t k. ap bit (h t k (λ e. d (omega (arith, same_track refl e)))))))

-- A plan of one track at the most names no other track.
single_named : {p : Plan} {t : ℕ} → Single p → (p.last ≡ Some t → ⊥) → Named p t → ⊥
single_named one d (is_low e) = no_track one.no_low e
single_named one d (is_high e) = no_track one.no_high e
single_named one d (is_last e) = d e

-- Where two tracks are flagged there are two at least.
two_at_least : (g : ℕ → Bool) (u t n : ℕ) → u < t → t < n → g u ≡ true → g t ≡ true → 2 ≤ count n g
unfolding sum
two_at_least g u t n h k a b = omega (arith, ap bit a, ap bit b, count_le g (suc u) t (omega arith), count_le g (suc t) n (omega arith))

-- ## One flagged track

-- Of the tracks below t this is the one that is flagged, or none is.
pub record Only (g : ℕ → Bool) (t : ℕ) (track : Option ℕ) : Type 0 where
  pub mark : (u : ℕ) → track ≡ Some u → (u < t) × (g u ≡ true)
  pub rest : (u : ℕ) → u < t → (track ≡ Some u → ⊥) → g u ≡ false

pub only_none : (g : ℕ → Bool) → Only g 0 None
only_none g = record { mark = λ u e. absurd (no_track refl e); rest = λ u h. absurd (omega arith) }

pub only_same : {g : ℕ → Bool} {t : ℕ} {track : Option ℕ} → Only g t track → g t ≡ false → Only g (t + 1) track
only_same {g} {t} o e = record {
  mark = λ u d. let m = o.mark u d in (omega arith, m.1);
  rest = λ u h n. but_for (λ v. g v ≡ false) t e u (λ d. o.rest u (omega arith) n);
}

pub only_next : {g : ℕ → Bool} {t : ℕ} {track : Option ℕ} → Only g t track → is_some track ≡ false → g t ≡ true → Only g (t + 1) (Some t)
only_next {g} {t} o n e = record {
  mark = λ u d. let i = same_track refl d in (omega arith, rw (sym i) e);
  rest = λ u h m. by_cases (dec_lt u t) (λ l. o.rest u l (λ d. true≢false (rw d at n))) (λ l. absurd (m (ap Some (omega arith))));
}

module _ (sh : Shape) (f : TrackFlags) (s : TrackSet) {track : Option ℕ} where
  -- Of all tracks.
  pub one_flagged : {n : ℕ} → n ≡ tracks sh s → Only (f s) n track → OneTrack sh f s track
  one_flagged e o = record {
    exists = λ t d. let m = o.mark t d in omega (arith, m.0);
    flagged = λ t d. (o.mark t d).1;
    one = λ t d. count_one sh f s track (λ u l m. o.rest u (omega arith) m);
    others = λ _ u l m. o.rest u (omega arith) m;
  }

  -- A second one.
  pub two_flagged : {t : ℕ} → t < tracks sh s → Only (f s) t track → is_some track ≡ true → f s t ≡ true → OneTrack sh f s None
  unfolding flag_count
  two_flagged {t} l o n e = record {
    exists = λ u d. absurd (no_track refl d);
    flagged = λ u d. absurd (no_track refl d);
    one = λ u d. absurd (no_track refl d);
    others = λ c. absurd (true≢false (sym (rw (none_of track (λ u d. let m = o.mark u d in omega (arith, two_at_least (f s) u t (tracks sh s) m.0 l m.1 e))) at n)));
  }

-- ## The window's plan at a position

-- With one flagged cell at the most there is nothing to plan.
pub plan_none : (sh : Shape) (f g : TrackFlags) (s : TrackSet) → flag_count sh f s ≤ 1 → PlanAt sh f g s (record { low = None; high = None; last = None })
plan_none sh f g s one = record {
  exist = λ t h. absurd (none t h);
  fits = record {
    low_data = λ t e. absurd (no_track refl e);
    below = λ t e. absurd (no_track refl e);
    high_data = λ t e. absurd (no_track refl e);
    above = λ t e. absurd (no_track refl e);
  };
  flagged = λ t h. absurd (none t h);
  rest = λ c. absurd (omega arith);
  three = λ t e. absurd (no_track refl e);
}
  where
    none : (u : ℕ) → Named (record { low = None; high = None; last = None }) u → ⊥
    none u = single_named (record { no_low = refl; no_high = refl }) (no_track refl)

-- A track without a mark, and a marked track.
pub if_none : {f : TrackFlags} {s : TrackSet} {track : Option ℕ} → ((t : ℕ) → track ≡ Some t → f s t ≡ false) → IfFlagged f s track None
if_none h = record {
  track_of = λ t e. absurd (no_track refl e);
  flagged = λ t e. absurd (no_track refl e);
  kept = λ t e k. absurd (true≢false (sym k ∙ h t e));
}

pub if_some : {f : TrackFlags} {s : TrackSet} {track : Option ℕ} {t : ℕ} → track ≡ Some t → f s t ≡ true → IfFlagged f s track (Some t)
if_some e h = record { track_of = λ u d. rw e d; flagged = λ u d. rw (sym (same_track refl d)) h; kept = λ u d k. sym e ∙ d }

-- What is kept of the window's plan.
pub plan_kept : (sh : Shape) (f g : TrackFlags) (s : TrackSet) (wide : Plan) (low high last : Option ℕ) → Planned sh g s wide → Fills sh g s wide → Below sh f g s →
    IfFlagged f s wide.low low → IfFlagged f s wide.high high → IfFlagged f s wide.last last →
    PlanAt sh f g s (record { low = low; high = high; last = last })
plan_kept sh f g s wide low high last plan fills covered a b c = record {
  exist = λ t h. plan.exist t (named t h);
  fits = record {
    low_data = λ t e _. plan.low_data t (a.track_of t e);
    below = λ t e _. plan.below t (a.track_of t e);
    high_data = λ t e _. let d = plan.high_data t (b.track_of t e) in (omega (arith, d.0.2), d.1);
    above = λ t e _. plan.above t (b.track_of t e);
  };
  flagged = on;
  rest = λ _. off;
  three = λ t e. fills.three t (b.track_of t e);
}
  where
    p : Plan
    p = record { low = low; high = high; last = last }

    named : (t : ℕ) → Named p t → Named wide t
    named t (is_low e) = is_low (a.track_of t e)
    named t (is_high e) = is_high (b.track_of t e)
    named t (is_last e) = is_last (c.track_of t e)

    on : (t : ℕ) → Named p t → f s t ≡ true
    on t (is_low e) = a.flagged t e
    on t (is_high e) = b.flagged t e
    on t (is_last e) = c.flagged t e

    off : (t : ℕ) → t < tracks sh s → (Named p t → ⊥) → f s t ≡ false
    off t l n = not_on (f s t) (λ h. true≢false (sym h ∙ covered t l (plan.others t l (none h))))
      where
        none : f s t ≡ true → Named wide t → ⊥
        none h (is_low e) = n (is_low (a.kept t e h))
        none h (is_high e) = n (is_high (b.kept t e h))
        none h (is_last e) = n (is_last (c.kept t e h))

-- Where the plan names one track at the most, one is flagged at the most.
pub plan_single : {sh : Shape} {f g : TrackFlags} {s : TrackSet} {p : Plan} → PlanAt sh f g s p → Single p → flag_count sh f s ≤ 1
plan_single {sh} {f} {g} {s} {p} plan one = by_cases (dec_lt 1 (flag_count sh f s))
    (λ c. count_one sh f s p.last (λ t l d. plan.rest c t l (single_named one d)))
    (λ c. omega arith)

-- ## Words

-- The word 0 flags no track.
pub zero_flags : (sh : Shape) (word : ℕ) → word ≡ 0 → (s : TrackSet) (t : ℕ) → word_flags sh word s t ≡ false
zero_flags sh word e s t = rw e (rw (zero-div (2 ^ track_number sh s t)) refl)

module _ (z : Sizes) (words near : List ℕ) (w : Windows (shape z) words near) (m : ℕ) where
  -- A track that is not in the window has no flagged cell there.
  clear_at : (s : TrackSet) (t q : ℕ) → t < tracks (shape z) s → word_flags (shape z) (get_or near m 0) s t ≡ false → m ≤ q → q < m + window →
      word_cells (shape z) words s t q ≡ false
  clear_at s t q l e h k = ap (word_cells (shape z) words s t) (omega arith)
      ∙ none_flagged window (λ i. word_cells (shape z) words s t (m + i)) (sym (w.near_at s t m l) ∙ e) (q - m) (omega arith)

  -- The position is in its window.
  pub in_window_at : m < track_length (shape z) → InWindow (shape z) (get_or words m 0) (get_or near m 0)
  in_window_at b = record { coded = w.coded m b; covered = λ s t l e. clear_at s t m l e (omega arith) (omega arith) }

-- The tracks of a window are within the limit, so those of a position are.
window_few : (sh : Shape) (word wide : ℕ) → sh.closing ≡ closed_tail → InWindow sh word wide → (s : TrackSet) →
    (flag_count sh (word_flags sh word) s ≤ 3) × (flag_count sh (word_flags sh wide) s ≤ 3)
window_few sh word wide c i s =
    let few = (code_within sh (word_flags sh wide) c i.coded).in_set s in
    (omega (arith, count_below sh (word_flags sh word) (word_flags sh wide) s (i.covered s)), few)

-- Beside three tracks of a set the other set has one at the most.
beside_three : (sh : Shape) (f : TrackFlags) → Within sh f → (s : TrackSet) → 3 ≤ flag_count sh f s → flag_count sh f (other s) ≤ 1
beside_three sh f w A h = omega (arith, w.in_all)
beside_three sh f w B h = omega (arith, w.in_all)

-- A plan made of the marks of two words suits every position that has them.
pub suits_at : (z : Sizes) (words near : List ℕ) → z.closed ≡ true → Windows (shape z) words near → (m : ℕ) → m < track_length (shape z) →
    (f g : TrackFlags) → SameFlags (shape z) f (word_flags (shape z) (get_or words m 0)) → SameFlags (shape z) g (word_flags (shape z) (get_or near m 0)) →
    (s : TrackSet) (p : Plan) → PlanAt (shape z) f g s p → Suits (shape z) (word_cells (shape z) words) s m p
suits_at z words near closed w m b f g here wide s p plan = record {
  window = g;
  clear = λ d c t q l e h k. clear_at z words near w m c t q l (sym (wide c t l) ∙ e) h (omega arith);
  fits = plan.fits;
  flagged = λ t l n. sym (here s t l) ∙ plan.flagged t n;
  rest = λ c t l n. sym (here s t l) ∙ plan.rest (omega (arith, count_same (shape z) f _ here s)) t l n;
  across = λ d t h q i k. omega (
    arith,
    count_below (shape z) (flags_at (word_cells (shape z) words) q) (word_flags (shape z) (get_or near m 0)) (other s)
        (λ t l e. clear_at z words near w m (other s) t q l e i (omega arith)),
    beside_three (shape z) (word_flags (shape z) (get_or near m 0)) (code_within (shape z) _ (is_closed z closed) (w.coded m b)) s
        (omega (arith, plan.three t h, count_same (shape z) g _ wide s)),
  );
}

-- ## Marks

module _ (z : Sizes) (word : ℕ) (marks : List Bool) (m : Marks word marks) where
  marks_few : (s : TrackSet) → flag_count (shape z) (word_flags (shape z) word) s ≤ 3 → flag_count (shape z) (marked (shape z) marks) s ≤ 3
  marks_few s h = omega (arith, count_same (shape z) _ _ (marks_same z word marks m) s)

  -- They say the same of every position with the word.
  pub marks_at : (words : List ℕ) (q : ℕ) → get_or words q 0 ≡ word → SameFlags (shape z) (marked (shape z) marks) (word_flags (shape z) (get_or words q 0))
  marks_at words q e = rw e (marks_same z word marks m)

-- The marks of a window are fit for a plan at its position.
module _ (z : Sizes) (closed : z.closed ≡ true) (word wide : ℕ) (in_window : InWindow (shape z) word wide) (s : TrackSet) where
  pub three_near : (near : List Bool) → Marks wide near → flag_count (shape z) (marked (shape z) near) s ≤ 3
  three_near near n = marks_few z wide near n s (window_few (shape z) word wide (is_closed z closed) in_window s).1

  pub marks_below : (near : List Bool) → Marks wide near → Below (shape z) (word_flags (shape z) word) (marked (shape z) near) s
  marks_below near n t l e = in_window.covered s t l (sym (marks_same z wide near n s t l) ∙ e)

-- A word says the same of every position that has it.
pub word_at : (sh : Shape) (word : ℕ) (words : List ℕ) (q : ℕ) → get_or words q 0 ≡ word → SameFlags sh (word_flags sh word) (word_flags sh (get_or words q 0))
word_at sh word words q e = rw e (λ s t l. refl)
