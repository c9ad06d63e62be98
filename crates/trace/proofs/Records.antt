-- Whole records: what tracing comes to.
use mathlib.Core.Path.{◌≡◌, refl, sym, ap, ap₂, ◌∙◌}
use mathlib.Core.Logic.{inl, inr}
use mathlib.Core.Bool.{Bool, false, ◌||◌}
use mathlib.Core.List.{List}
use Prim.Native.Nat.{ℕ, ◌<◌}
use native.Mathlib.Omega.{arith}
use lib.Dec.{eqb}
use Rattle.std.specs.Prelude.{Option, None, Some}
use Rattle.code.specs.declared.sizes.TrackSet.{TrackSet}
use Rattle.code.specs.declared.sizes.TrackSet.TheVariants.{A, B}
use Rattle.code.specs.Record.{Shape, tracks}
use Rattle.code.specs.Image.{track_number, image_size, cells}
use Rattle.code.specs.Flags.{TrackFlags, whole}
use Rattle.code.specs.Reach.{pick, none, extra, is, Choice, with_extras}
use Rattle.code.specs.Answers.{extra_of}
use Rattle.code.specs.Calls.{Result, plain, changed_in, changed_extra, mended, Traces}
use Rattle.code.specs.Sizes.{shape}
use Rattle.code.specs.declared.sizes.Sizes.{Sizes}
use Rattle.code.specs.declared.Reach.{Reach}
use Rattle.code.proofs.Front.{stays_all}
use Rattle.code.proofs.Outputs.{agree_on, not_found}
use Rattle.code.proofs.Masks.{unchanged_in}
use Rattle.code.proofs.Named.{none_named, one_named}
use Rattle.code.proofs.Patterns.{neither}
use Rattle.track.specs.Track.{known}
use Rattle.track.proofs.Lost.{copy_agree, agree_copy}
use Rattle.changes.specs.Changes.{OnlyMarked}
use Rattle.changes.proofs.Tracks.{changed_number}
use Rattle.mend.specs.Mend.{Added}
use Rattle.repair.specs.Steps.{Prepared, errors_in, Given}
use Rattle.repair.proofs.Flagging.{agree_same}
use Rattle.repair.proofs.Records.{covered}
use Rattle.trace.specs.declared.Extras.{Extras}
use Rattle.trace.specs.declared.Hit.{Hit}
use Rattle.trace.specs.declared.Tracer.{Tracer}
use Rattle.trace.specs.Steps.{choice_of, IsTrack, IsChoice, Widened, Fits, flags_of, Searched, named_at, names_at, mended_at}
use Rattle.trace.proofs.Choices.{is_other}
use Rattle.trace.proofs.Trying.{fitting_fits}

-- ## The extras that tracing names

module _ (z : Sizes) (f : TrackFlags) (image out : List ℕ) (s : TrackSet) where
  -- Where no other unflagged track is changed, the extra is what is named.
  named_extra : (e : Option ℕ) → IsTrack z s e → ((t : ℕ) → e ≡ Some t → f s t ≡ false) →
      ((t : ℕ) → t < tracks (shape z) s → f s t ≡ false → is (extra_of e) t ≡ false → changed_in (shape z) (cells (shape z) image) (cells (shape z) out) s t ≡ 0) →
      named_at (shape z) image out s e ≡ changed_extra (shape z) f (cells (shape z) image) (cells (shape z) out) s (tracks (shape z) s)
  named_extra None l u off = sym (none_named (shape z) f _ _ s (tracks (shape z) s) (λ t h d. off t h d refl))
  named_extra (Some v) l u off = ap (λ (k : ℕ). pick (eqb k 0) none (extra (track_number (shape z) s v))) (sym (changed_number (shape z) image out s v))
      ∙ sym (one_named (shape z) f _ _ s (tracks (shape z) s) v (l v refl) (u v refl) (λ t h d n. off t h d (is_other (Some v) t (λ e. n (let i : v ≡ t = cc in sym i)))))

-- The extras of a choice that fits.
fits_names : (z : Sizes) (w : Reach) (f : TrackFlags) (image out : List ℕ) (e : Extras) → IsChoice z e → Fits (shape z) w f image (choice_of e) (cells (shape z) out) →
    (s : TrackSet) → names_at (shape z) image out e s ≡ changed_extra (shape z) f (cells (shape z) image) (cells (shape z) out) s (tracks (shape z) s)
fits_names z w f image out e c n = elim [
  | A ↦ named_extra z f image out A e.a c.in_a (λ t h. n.allowed.unflagged A t (ap extra_of h)) (off A)
  | B ↦ named_extra z f image out B e.b c.in_b (λ t h. n.allowed.unflagged B t (ap extra_of h)) (off B)
]
  where
    off : (s : TrackSet) (t : ℕ) → t < tracks (shape z) s → f s t ≡ false → is (choice_of e s) t ≡ false →
        changed_in (shape z) (cells (shape z) image) (cells (shape z) out) s t ≡ 0
    off s t l d i = unchanged_in (shape z) _ _ s t (λ m h. n.agree.cell s t m l h (ap₂ ◌||◌ d i))

-- ## Tracing

module _ (tracer : Tracer) (image out : List ℕ) (given : Given (shape tracer.z) tracer.marks image out) where
  abbrev sh : Shape
  sh = shape tracer.z

  abbrev f : TrackFlags
  f = flags_of tracer

  -- Flags with extras are more.
  more : (e : Choice) (s : TrackSet) (t : ℕ) → with_extras f e s t ≡ false → f s t ≡ false
  more e s t h = (neither (f s t) _ h).0

  module _ (copy rows : List ℕ) (prepared : Prepared tracer.z f (known image) copy rows tracer.need) (words : List ℕ) where
    module _ (r : Hit) (done : Searched tracer rows words (Some r)) (after : List ℕ) (added : Added tracer.z (errors_in r.form words) copy after) where
      abbrev choice : Choice
      choice = choice_of r.extras

      -- What fits the working copy fits the image.
      found_fits : Fits sh tracer.w f image choice (cells sh after)
      found_fits =
          let n = fitting_fits tracer (known image) copy rows prepared r.extras r.form words (done.fits r refl) after added in
          record { good = n.good; allowed = n.allowed; agree = agree_on sh (whole (with_extras f choice)) (copy_agree sh (whole (with_extras f choice)) image (covered tracer.z tracer.marks image out given (with_extras f choice) (more choice))) n.agree }

      -- Only flagged tracks and extras were changed.
      pub searched_only : (wide : List Bool) → Widened sh tracer.marks choice wide → OnlyMarked tracer.z wide image after
      searched_only wide e = record {
        marks_size = omega (arith, e.size, given.marks_size);
        image_has = given.image_is.size;
        out_has = added.image.size;
        agree = agree_same sh _ _ (λ s t l. sym (e.flags s t l)) _ _ found_fits.agree;
      }

      -- Answer 0.
      pub trace_found : (answer : Result) → answer ≡ mended_at sh image after r.extras → Traces sh tracer.w f image out answer after
      trace_found answer e =
          let n = found_fits in
          inl (record {
            good = n.good;
            reached = record { choice = choice; allowed = n.allowed; agree = n.agree };
            stays = stays_all (image_size sh) out after given.out_has added.image.size;
            result = e ∙ (λ i. mended sh (cells sh image) (cells sh after) (λ s. fits_names tracer.z tracer.w f image after r.extras (done.is_choice r refl) n s i));
          })

    pub trace_none : Searched tracer rows words None → (last : List ℕ) → last ≡ image → Traces sh tracer.w f image out (plain 7 0) last
    trace_none done last back = inr (not_found sh image out last back given.image_is.size given.out_has _
        (λ y g n. done.no_record refl (known image) copy prepared y g (record { choice = n.choice; allowed = n.allowed; agree = agree_copy sh (whole (with_extras f n.choice)) image (covered tracer.z tracer.marks image out given (with_extras f n.choice) (more n.choice)) y n.agree })) (plain 7 0) refl)
