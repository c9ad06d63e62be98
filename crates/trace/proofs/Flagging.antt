-- Choices that a reach allows beside flags: for flags that say the same, and within the limit.
use mathlib.Core.Path.{◌≡◌, sym, ap, ◌∙◌}
use mathlib.Core.Bool.{Bool, ◌||◌}
use native.Mathlib.Omega.{arith}
use Rattle.code.specs.declared.sizes.TrackSet.TheVariants.{A, B}
use Rattle.code.specs.Record.{closed_tail, Shape, Cells}
use Rattle.code.specs.Flags.{TrackFlags, flag_count, Within}
use Rattle.code.specs.Reach.{is, Choice, Allowed, with_extras, InReach}
use Rattle.code.specs.declared.Reach.{Reach}
use Rattle.code.proofs.Codes.{Room, closed_within}
use Rattle.code.proofs.Reached.{count_extras}
use Rattle.code.proofs.Same.{SameFlags}
use Rattle.repair.proofs.Flagging.{agree_same}

-- ## Flags that say the same of a record's tracks

module _ (sh : Shape) (f g : TrackFlags) (same : SameFlags sh f g) where
  -- They say the same with extras.
  pub extras_same : (e : Choice) → SameFlags sh (with_extras f e) (with_extras g e)
  extras_same e s t l = ap (λ (b : Bool). b || is (e s) t) (same s t l)

  -- The same choices are allowed.
  pub allowed_same : (w : Reach) (e : Choice) → Allowed sh w f e → Allowed sh w g e
  allowed_same w e a = record {
    in_set = a.in_set;
    in_all = a.in_all;
    track = a.track;
    unflagged = λ s t h. sym (same s t (a.track s t h)) ∙ a.unflagged s t h;
  }

-- The same records are in reach.
pub reach_same : (sh : Shape) (f g : TrackFlags) → SameFlags sh f g → (w : Reach) (x y : Cells) → InReach sh w f x y → InReach sh w g x y
reach_same sh f g same w x y r = record {
  choice = r.choice;
  allowed = allowed_same sh f g same w r.choice r.allowed;
  agree = agree_same sh _ _ (extras_same sh f g same r.choice) x y r.agree;
}

-- ## The limit

-- Flags with the extras of an allowed choice are within the limit, where the reach leaves room.
pub allowed_within : (sh : Shape) (w : Reach) (f : TrackFlags) (e : Choice) → sh.closing ≡ closed_tail → Room w (flag_count sh f A) (flag_count sh f B) → Allowed sh w f e →
    Within sh (with_extras f e)
allowed_within sh w f e c room a =
    closed_within sh (with_extras f e) c
    (omega (arith, count_extras sh f e A, a.in_set A))
    (omega (arith, count_extras sh f e B, a.in_set B))
    (omega (arith, count_extras sh f e A, count_extras sh f e B, a.in_all))
