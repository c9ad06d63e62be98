-- The tails of a set's tracks are cleared in turn, and what is needed for them.
use mathlib.Core.Path.{◌≡◌, refl, sym, ◌∙◌}
use mathlib.Core.Logic.{◌≢◌, by_cases}
use mathlib.Core.Bool.{Bool, true, false}
use mathlib.Core.List.{List}
use Rattle.std.specs.Prelude.{Option, None, Some}
use Prim.Native.Nat.{ℕ, ◌+◌, ◌<◌, ◌≤◌}
use native.Mathlib.Decide.{ℕ_discrete}
use native.Mathlib.Omega.{arith}
use Rattle.code.specs.declared.sizes.TrackSet.{TrackSet}
use Rattle.code.specs.Record.{tracks, track_length}
use Rattle.code.specs.Image.{cells}
use Rattle.code.specs.Flags.{TrackFlags}
use Rattle.code.specs.Sizes.{shape}
use Rattle.code.specs.declared.sizes.Sizes.{Sizes}
use Rattle.code.proofs.Patterns.{but_for}
use Rattle.mend.specs.declared.Need.{Need}
use Rattle.mend.specs.declared.Need.TheVariants.{Nothing, Track, More}
use Rattle.mend.specs.Mend.{Explained, with_track, TailCleared, TailsBut, TailsCleared}

-- Those before t are cleared, and what is needed is one of them.
pub record Clearing (z : Sizes) (s : TrackSet) (f : TrackFlags) (t : ℕ) (before out : List ℕ) (need : Need) : Type 0 where
  pub done : TailsCleared z s f t before out need
  pub named : (u : ℕ) → need ≡ Track u → u < t

module _ (z : Sizes) (s : TrackSet) (f : TrackFlags) (before : List ℕ) where
  module _ (t : ℕ) (out after : List ℕ) (need : Need) (r : Bool) (w : Clearing z s f t before out need) (c : TailCleared z s t out after r)
      (some : 1 ≤ t) (has : t < tracks (shape z) s) where
    -- Until now track t is as it was at the start.
    was : (m : ℕ) → m < track_length (shape z) → cells (shape z) out s t m ≡ cells (shape z) before s t m
    was m q = w.done.same s t m has q (λ e a b p. omega arith)

    -- One more track is cleared, whatever is needed then.
    next : (after_it : Need) → ((e : Option ℕ) → Explained after_it e → TailsBut z s f before (t + 1) e) →
        ((e : Option ℕ) → (Explained after_it e → ⊥) → TailsBut z s f before (t + 1) e → ⊥) → ((u : ℕ) → after_it ≡ Track u → u < t + 1) →
        Clearing z s f (t + 1) before after after_it
    next after_it fits fails named = record {
      done = record {
        image = c.image;
        zero = λ u m a b p q. but_for (λ v. cells (shape z) after s v m ≡ 0) t (c.zero m p q) u (λ d.
            c.same s u m (omega arith) q (λ _ e _. d e) ∙ w.done.zero u m a (omega arith) p q);
        same = λ v u m h q d. c.same v u m h q (λ e k p. d e (omega arith) (omega arith) p) ∙ w.done.same v u m h q (λ e a b p. d e a (omega arith) p);
        fits = fits;
        fails = fails;
      };
      named = named;
    }

    -- What holds of the tracks before t and of t holds of those before t + 1.
    with_this : (e : Option ℕ) → TailsBut z s f before t e →
        (f s t ≡ false → e ≢ Some t → (m : ℕ) → z.positions ≤ m → m < track_length (shape z) → cells (shape z) before s t m ≡ 0) →
        TailsBut z s f before (t + 1) e
    with_this e old new u m a b = but_for (λ v. f s v ≡ false → e ≢ Some v → z.positions ≤ m → m < track_length (shape z) → cells (shape z) before s v m ≡ 0) t
        (λ i j. new i j m) u (λ d. old u m a (omega arith))

    -- And it holds of those before t then.
    without : (e : Option ℕ) → TailsBut z s f before (t + 1) e → TailsBut z s f before t e
    without e b u m a l = b u m a (omega arith)

    -- A tail that was not 0, of a track that is not flagged, is one that only the extra t lets be.
    against : r ≡ true → f s t ≡ false → (e : Option ℕ) → e ≢ Some t → TailsBut z s f before (t + 1) e → ⊥
    against y i e d b = c.was_not y (λ m p q. was m q ∙ b t m some (omega arith) i d p q)

    -- The track is flagged or its tail was 0.
    pub clearing_same : (f s t ≡ false → r ≡ false) → Clearing z s f (t + 1) before after need
    clearing_same k = next need
        (λ e l. with_this e (w.done.fits e l) (λ i _ m p q. sym (was m q) ∙ c.was_zero (k i) m p q))
        (λ e d b. w.done.fails e d (without e b))
        (λ u d. omega (arith, w.named u d))

    -- A track before t was needed already: no extra explains both.
    neither_extra : (u : ℕ) → need ≡ Track u → r ≡ true → f s t ≡ false → (e : Option ℕ) → TailsBut z s f before (t + 1) e → ⊥
    neither_extra u n y i None b = against y i None (λ h. cc) b
    neither_extra u n y i (Some v) b = by_cases (ℕ_discrete v t)
        (λ k. w.done.fails (Some v) (rw n (λ h. let j : v ≡ u = cc in let l : u < t = w.named u n in omega arith)) (without (Some v) b))
        (λ k. against y i (Some v) (λ h. k (cc)) b)

    -- It is not, and its tail was not 0: the first such, or one more.
    pub clearing_more : r ≡ true → f s t ≡ false → Clearing z s f (t + 1) before after (with_track need t)
    clearing_more y i = go need refl
      where
        go : (k : Need) → need ≡ k → Clearing z s f (t + 1) before after (with_track k t)
        go Nothing n = next (Track t)
            (λ e l. with_this e (w.done.fits e (rw n tt)) (λ _ d. absurd (d l)))
            (λ e d. against y i e d)
            (λ u d. let k : t ≡ u = cc in omega arith)
        go (Track u) n = next More
            (λ e. absurd)
            (λ e _. neither_extra u n y i e)
            (λ u d. cc)
        go More n = next More
            (λ e. absurd)
            (λ e _ b. w.done.fails e (rw n (λ x. x)) (without e b))
            (λ u d. cc)
