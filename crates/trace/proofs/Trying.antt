-- What comes of a choice of extras that is tried.
use mathlib.Core.Path.{◌≡◌, refl, sym, ap, ◌∙◌}
use mathlib.Core.Logic.{◌≢◌}
use mathlib.Core.Bool.{Bool, true, false, true≢false, ◌||◌}
use mathlib.Core.List.{List}
use Prim.Native.Nat.{ℕ, ◌<◌}
use Rattle.std.specs.Prelude.{None, Some}
use Rattle.code.specs.declared.sizes.TrackSet.{TrackSet}
use Rattle.code.specs.declared.sizes.TrackSet.TheVariants.{A, B}
use Rattle.code.specs.Record.{Shape, tracks, vertical_end}
use Rattle.code.specs.Image.{cells}
use Rattle.code.specs.Flags.{TrackFlags, Within}
use Rattle.code.specs.Reach.{Allowed, is, with_extras}
use Rattle.code.specs.Sizes.{shape}
use Rattle.code.specs.declared.Reach.{Reach}
use Rattle.code.proofs.Patterns.{neither}
use Rattle.plans.specs.declared.Three.{Three}
use Rattle.plans.specs.declared.Form.{Form}
use Rattle.plans.specs.Plans as plans
use Rattle.errors.specs.Steps.{Fresh, Found}
use Rattle.mend.specs.Mend.{Explained, Added}
use Rattle.repair.specs.Steps.{need_of, Prepared, errors_in}
use Rattle.repair.proofs.Working.{tails_none, found_none, found_good, found_agree}
use Rattle.trace.specs.declared.Extras.{Extras}
use Rattle.trace.specs.declared.Tracer.{Tracer}
use Rattle.trace.specs.Steps.{extra_in, choice_of, IsChoice, Fits, flags_of, Traceable, Fitting, Tried}
use Rattle.trace.proofs.Choices.{is_track, is_other, placed, place_le}

-- ## The flags with the extras of a choice

module _ (sh : Shape) (f : TrackFlags) (e : Extras) where
  abbrev wide : TrackFlags
  wide = with_extras f (choice_of e)

  -- Tracks that are not flagged then: neither flagged nor the extra.
  pub wide_less : (s : TrackSet) (t : ℕ) → wide s t ≡ false → (f s t ≡ false) × (extra_in e s ≢ Some t)
  wide_less s t h =
      let n = neither (f s t) (is (choice_of e s) t) h in
      (n.0, λ i. true≢false (sym (is_track (extra_in e s) t i) ∙ n.1))

  pub wide_grown : (s : TrackSet) (t : ℕ) → t < tracks sh s → f s t ≡ false → extra_in e s ≢ Some t → wide s t ≡ false
  wide_grown s t l h d = ap (λ x. x || is (choice_of e s) t) h ∙ is_other (extra_in e s) t d

  -- One track more in a set, where the choice is allowed.
  pub one_more_in : (w : Reach) → Allowed sh w f (choice_of e) → (s : TrackSet) → ((t : ℕ) → extra_in e s ≡ Some t → t < tracks sh s) →
      plans.OneMore sh s (extra_in e s) f wide
  one_more_in w allowed s l = record {
    within = place_le (tracks sh s) (extra_in e s) l;
    was = λ t h. allowed.unflagged s t (rw (placed (extra_in e s) t h) refl);
    here = λ t h. ap (λ x. f s t || x) (is_track (extra_in e s) t (placed (extra_in e s) t h)) ∙ or_true (f s t);
    there = λ t l d. ap (λ x. f s t || x) (is_other (extra_in e s) t (λ h. d (rw h refl))) ∙ or_false (f s t);
  }
    where
      or_true : (x : Bool) → x || true ≡ true
      or_true true = refl
      or_true false = refl

      or_false : (x : Bool) → x || false ≡ x
      or_false true = refl
      or_false false = refl

-- ## One choice

module _ (tracer : Tracer) (rows : List ℕ) (given : Traceable tracer rows) (e : Extras) (choice : IsChoice tracer.z e) where
  abbrev sh : Shape
  sh = shape tracer.z

  abbrev f : TrackFlags
  f = flags_of tracer

  abbrev g : TrackFlags
  g = with_extras f (choice_of e)

  -- An allowed choice stays within the limit. Its tracks, set by set, and their form.
  module _ (allowed : Allowed sh tracer.w f (choice_of e)) where
    within : Within sh g
    within = given.within (choice_of e) allowed

    pub three_a : (r : Three) → plans.Inserted tracer.x e.a r → plans.ThreeOf sh g A r
    three_a r i = i.is sh A f g (one_more_in sh f e tracer.w allowed A choice.in_a) (within.in_set A) given.in_a

    pub three_b : (r : Three) → plans.Inserted tracer.y e.b r → plans.ThreeOf sh g B r
    three_b r i = i.is sh B f g (one_more_in sh f e tracer.w allowed B choice.in_b) (within.in_set B) given.in_b

    pub choice_form : (x y : Three) → plans.Inserted tracer.x e.a x → plans.Inserted tracer.y e.b y → (p : Form) → plans.Formed tracer.z x y p → plans.Fits sh g p
    choice_form x y i j p formed = formed.fits g within (three_a x i) (three_b y j)

  -- It does not fit, and the errors found are as good as none.
  module _ (found : List ℕ) (fresh : Fresh found tracer.start) where
    -- It is not allowed.
    pub choice_passed : (Allowed sh tracer.w f (choice_of e) → ⊥) → Tried tracer rows e found None
    choice_passed d = record { fresh = fresh; fits = λ p h. cc; no_fit = λ _ image out prepared r n. d n.allowed }

    -- Its extras do not explain the tails.
    pub choice_unexplained : (s : TrackSet) → (Explained (need_of tracer.need s) (extra_in e s) → ⊥) → Tried tracer rows e found None
    choice_unexplained s d = record {
      fresh = fresh;
      fits = λ p h. cc;
      no_fit = λ _ image out prepared v n. tails_none tracer.z f image out rows tracer.need prepared g (extra_in e) (wide_less sh f e) (wide_grown sh f e) s d v n.good n.agree;
    }

    -- Errors of its tracks were looked for.
    module _ (p : Form) (fits : plans.Fits sh g p) where
      pub choice_failed : Found tracer.z (vertical_end sh) p rows found false → Tried tracer rows e found None
      choice_failed w = record {
        fresh = fresh;
        fits = λ p h. cc;
        no_fit = λ _ image out prepared v n. found_none tracer.z f image out rows tracer.need prepared g (extra_in e) (wide_less sh f e) (wide_grown sh f e)
            p fits found w v n.good n.agree;
      }

      pub choice_fits : Allowed sh tracer.w f (choice_of e) → ((s : TrackSet) → Explained (need_of tracer.need s) (extra_in e s)) →
          Found tracer.z (vertical_end sh) p rows found true → Tried tracer rows e found (Some p)
      choice_fits allowed explained w = record {
        fresh = fresh;
        fits = λ q h. let i : p ≡ q = cc in rw (sym i) (record { allowed = allowed; form = fits; found = w; explained = explained });
        no_fit = λ h. cc;
      }

-- ## A choice that fits, its errors added

pub fitting_fits : (tracer : Tracer) (image out rows : List ℕ) → Prepared tracer.z (flags_of tracer) image out rows tracer.need → (e : Extras) (p : Form) (words : List ℕ) →
    Fitting tracer rows e p words → (after : List ℕ) → Added tracer.z (errors_in p words) out after →
    Fits (shape tracer.z) tracer.w (flags_of tracer) image (choice_of e) (cells (shape tracer.z) after)
fitting_fits tracer image out rows prepared e p words fit after added = record {
  good = found_good tracer.z f image out rows tracer.need prepared (with_extras f (choice_of e)) (extra_in e) (wide_less sh f e) (wide_grown sh f e)
      p fit.form words fit.found after added;
  allowed = fit.allowed;
  agree = found_agree tracer.z f image out rows tracer.need prepared (with_extras f (choice_of e)) (extra_in e) (wide_less sh f e) (wide_grown sh f e)
      p fit.form words fit.found after added fit.explained;
}
  where
    sh : Shape
    sh = shape tracer.z

    f : TrackFlags
    f = flags_of tracer
