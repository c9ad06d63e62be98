-- The search among the choices.
use mathlib.Core.Path.{◌≡◌, refl, sym, ap, subst}
use mathlib.Core.List.{List}
use Prim.Native.Nat.{ℕ, zero, suc, ◌+◌, ◌-◌, ◌<◌, ◌≤◌}
use native.Mathlib.Decide.{dec_lt}
use native.Mathlib.Omega.{arith}
use borrow.Author.Count.{below_more}
use Rattle.std.specs.Prelude.{Option, None, Some, SomeIff}
use Rattle.code.specs.declared.sizes.TrackSet.{TrackSet}
use Rattle.code.specs.declared.sizes.TrackSet.TheVariants.{A, B}
use Rattle.code.specs.Record.{tracks}
use Rattle.code.specs.Sizes.{shape}
use Rattle.code.specs.declared.sizes.Sizes.{Sizes}
use Rattle.code.specs.Reach.{size}
use Rattle.code.specs.Answers.{extra_of}
use Rattle.plans.specs.Plans.{place}
use Rattle.plans.specs.declared.Form.{Form}
use Rattle.errors.specs.Steps.{Fresh}
use Rattle.trace.specs.declared.Extras.{Extras}
use Rattle.trace.specs.declared.Tracer.{Tracer}
use Rattle.trace.specs.Steps.{IsTrack, IsChoice, Last, NoFit, Tried, Searched}
use Rattle.trace.proofs.Choices.{reach_fits}

-- The extra at a place: none at 0, track t at t + 1.
abbrev pub at : ℕ → Option ℕ
at zero = None
at (suc t) = Some t

at_place : (e : Option ℕ) → at (place e) ≡ e
at_place None = refl
at_place (Some t) = refl

-- So the code has it.
pub at_is : (i : ℕ) (e : Option ℕ) → SomeIff e (1 ≤ i) (i - 1) → e ≡ at i
at_is zero None h = refl
at_is zero (Some t) h = absurd (omega (arith, h.0))
at_is (suc i) None h = absurd (h (omega arith))
at_is (suc i) (Some t) h = ap Some (omega (arith, h.1))

-- It is a track of a set whose choices have the place.
pub at_track : (z : Sizes) (s : TrackSet) (i : ℕ) (e : Option ℕ) → SomeIff e (1 ≤ i) (i - 1) → i < 1 + tracks (shape z) s → IsTrack z s e
at_track z s i None h l t k = cc
at_track z s i (Some u) h l t k = let j : u ≡ t = cc in omega (arith, h.1)

abbrev pub pair : Option ℕ → Option ℕ → Extras
pair a b = record { a = a; b = b }

-- The choices with a place before i in A have been tried, and of those with place i the ones with a place before j in B.
pub record Seeking (tracer : Tracer) (rows : List ℕ) (i j : ℕ) (found : List ℕ) : Type 0 where
  pub fresh : Fresh found tracer.start
  pub rows_tried : (k : ℕ) → k < i → (b : Option ℕ) → IsTrack tracer.z B b → NoFit tracer rows (pair (at k) b)
  pub row_tried : (l : ℕ) → l < j → NoFit tracer rows (pair (at i) (at l))

module _ (tracer : Tracer) (rows : List ℕ) where
  module _ (i j : ℕ) (found : List ℕ) (s : Seeking tracer rows i j found) where
    -- One choice more.
    pub seeking_more : (after : List ℕ) (e : Extras) → e ≡ pair (at i) (at j) → Tried tracer rows e after None → Seeking tracer rows i (j + 1) after
    seeking_more after e h t = record {
      fresh = t.fresh;
      rows_tried = s.rows_tried;
      row_tried = below_more (λ l. NoFit tracer rows (pair (at i) (at l))) j s.row_tried (subst (NoFit tracer rows) h (t.no_fit refl));
    }

    -- One row of choices more.
    pub seeking_row : (r : ℕ) → Last tracer.z tracer.w B (size (extra_of (at i))) r → r ≤ j → Seeking tracer rows (i + 1) 0 found
    seeking_row r last h = record {
      fresh = s.fresh;
      rows_tried = below_more (λ k. (b : Option ℕ) → IsTrack tracer.z B b → NoFit tracer rows (pair (at k) b)) i s.rows_tried (λ b _. row b (dec_lt (place b) r));
      row_tried = λ l k. absurd (omega arith);
    }
      where
        row : (b : Option ℕ) → Dec (place b < r) → NoFit tracer rows (pair (at i) b)
        row b (yes l) = rw at_place at (s.row_tried (place b) (omega arith))
        row None (no d) = absurd (d last.some)
        row (Some t) (no d) = λ image out prepared y n. last.past _ _ t (omega arith) refl (omega arith) n.allowed

    -- All of them.
    pub seeking_all : (r : ℕ) → Last tracer.z tracer.w A 0 r → r ≤ i → Searched tracer rows found None
    seeking_all r last h = record {
      words = s.fresh.rows;
      is_choice = λ v k. cc;
      fits = λ v k. cc;
      no_record = λ _ image out prepared y g n. reach_fits tracer.z tracer.w _ image y g n (λ e c fits. none e.a e.b c.in_b (dec_lt (place e.a) r) image out prepared y fits);
    }
      where
        none : (a b : Option ℕ) → IsTrack tracer.z B b → Dec (place a < r) → NoFit tracer rows (pair a b)
        none a b c (yes l) = rw at_place at (s.rows_tried (place a) (omega arith) b c)
        none None b c (no d) = absurd (d last.some)
        none (Some t) b c (no d) = λ image out prepared y n. last.past _ _ t (omega arith) refl (omega arith) n.allowed

  -- A choice that fits.
  pub searched : (after : List ℕ) (e : Extras) (p : Form) → IsChoice tracer.z e → Tried tracer rows e after (Some p) → Searched tracer rows after (Some (record { form = p; extras = e }))
  searched after e p c t = record {
    words = t.fresh.rows;
    is_choice = λ v h. let i : record { form = p; extras = e } ≡ v = cc in rw (sym i) c;
    fits = λ v h. let i : record { form = p; extras = e } ≡ v = cc in rw (sym i) (t.fits p refl);
    no_record = λ h. cc;
  }
