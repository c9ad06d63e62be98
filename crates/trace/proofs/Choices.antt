-- Choices of extras: in each set none, or a track.
use mathlib.Core.Path.{◌≡◌, refl, sym, ap, subst, ◌∙◌}
use mathlib.Core.Logic.{◌≢◌}
use mathlib.Core.Bool.{true, false, true≢false}
use mathlib.Core.List.{List}
use Prim.Native.Nat.{ℕ, suc, ◌<◌, ◌≤◌}
use native.Mathlib.Omega.{arith}
use borrow.Author.Tests.{eq-eqb, ne_eqb}
use Rattle.std.specs.Prelude.{Option, None, Some}
use Rattle.code.specs.declared.sizes.TrackSet.{TrackSet}
use Rattle.code.specs.declared.sizes.TrackSet.TheVariants.{A, B}
use Rattle.code.specs.Record.{Shape, Cells, Good}
use Rattle.code.specs.Image.{cells}
use Rattle.code.specs.Flags.{TrackFlags}
use Rattle.code.specs.Reach.{Extra, none, extra, is, Choice, Allowed, InReach}
use Rattle.code.specs.Answers.{extra_of}
use Rattle.code.specs.Sizes.{shape}
use Rattle.code.specs.declared.sizes.Sizes.{Sizes}
use Rattle.code.specs.declared.Reach.{Reach}
use Rattle.plans.specs.Plans.{place}
use Rattle.trace.specs.declared.Extras.{Extras}
use Rattle.trace.specs.Steps.{choice_of, IsChoice, HasRoom, Allows, Fits}

-- The track of an extra.
pub of_extra : (e : Option ℕ) (t : ℕ) → extra_of e ≡ extra t → e ≡ Some t
of_extra None t h = cc
of_extra (Some u) t h = let i : u ≡ t = cc in ap Some i

-- The extra track itself, and any other track.
pub is_track : (e : Option ℕ) (t : ℕ) → e ≡ Some t → is (extra_of e) t ≡ true
is_track e t h = rw h (eq-eqb t t refl)

pub is_other : (e : Option ℕ) (t : ℕ) → e ≢ Some t → is (extra_of e) t ≡ false
is_other None t d = refl
is_other (Some u) t d = ne_eqb t u (λ h. d (ap Some (sym h)))

-- Places: 0 for none, t + 1 for track t.
pub placed : (e : Option ℕ) (t : ℕ) → suc t ≡ place e → e ≡ Some t
placed None t h = absurd (omega arith)
placed (Some u) t h = ap Some (omega arith)

pub place_le : (n : ℕ) (e : Option ℕ) → ((t : ℕ) → e ≡ Some t → t < n) → place e ≤ n
place_le n None h = omega arith
place_le n (Some t) h = h t refl

-- ## Choices that a reach allows

-- A choice that is not allowed.
pub refuses : (sh : Shape) (w : Reach) (f : TrackFlags) (e : Choice) → (Allowed sh w f e → ⊥) → Allows sh w f e false
refuses sh w f e d = record { yes_allowed = λ h. absurd (true≢false (sym h)); not_allowed = λ h. d }

-- Of a choice with room and a free extra in A the one in B decides.
pub allowed_by : (z : Sizes) (w : Reach) (f : TrackFlags) (e : Extras) → IsChoice z e → HasRoom w (choice_of e) → ((t : ℕ) → e.a ≡ Some t → f A t ≡ false) →
    ((t : ℕ) → e.b ≡ Some t → f B t ≡ false) → Allowed (shape z) w f (choice_of e)
allowed_by z w f e c room in_a in_b = record {
  in_set = elim [ A ↦ room.0 | B ↦ room.1 ];
  in_all = room.2;
  track = elim [ A ↦ λ t i. c.in_a t (of_extra e.a t i) | B ↦ λ t i. c.in_b t (of_extra e.b t i) ];
  unflagged = elim [ A ↦ λ t i. in_a t (of_extra e.a t i) | B ↦ λ t i. in_b t (of_extra e.b t i) ];
}

-- The extra of a set that is allowed.
track_of : Extra → Option ℕ
track_of none = None
track_of (extra t) = Some t

track_is : (x : Extra) → x ≡ extra_of (track_of x)
unfolding track_of
track_is none = refl
track_is (extra t) = refl

-- A record in reach fits one of the choices.
pub reach_fits : (z : Sizes) (w : Reach) (f : TrackFlags) (image : List ℕ) (y : Cells) → Good (shape z) y → InReach (shape z) w f (cells (shape z) image) y →
    ((e : Extras) → IsChoice z e → Fits (shape z) w f image (choice_of e) y → ⊥) → ⊥
reach_fits z w f image y good r none_fits =
    none_fits e (record { in_a = λ t h. r.allowed.track A t (same A ∙ ap extra_of h); in_b = λ t h. r.allowed.track B t (same B ∙ ap extra_of h) })
    (subst (λ (c : Choice). Fits (shape z) w f image c y) (λ i s. same s i) (record { good = good; allowed = r.allowed; agree = r.agree }))
  where
    e : Extras
    e = record { a = track_of (r.choice A); b = track_of (r.choice B) }

    same : (s : TrackSet) → r.choice s ≡ choice_of e s
    same A = track_is (r.choice A)
    same B = track_is (r.choice B)
