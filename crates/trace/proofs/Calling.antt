-- The calls: their checks, that of the ceiling among them, the part of the output that is worked on, and marks in place of flags.
use mathlib.Core.Path.{◌≡◌, refl, sym, ap, subst, ◌∙◌}
use mathlib.Core.Logic.{◌≢◌, inl, inr}
use mathlib.Core.Bool.{Bool}
use mathlib.Core.List.{List, [], ◌∷◌, ◌++◌}
use Prim.Native.Nat.{ℕ, ◌<◌, ◌≤◌}
use native.Mathlib.Omega.{arith}
use lib.ListN.{length, take, drop}
use lib.Seq.{length-take-le}
use Rattle.code.specs.Record.{base, closed_tail, Shape, tracks}
use Rattle.code.specs.Image.{image_size, cells}
use Rattle.code.specs.Flags.{TrackFlags}
use Rattle.code.specs.Lost.{read_values}
use Rattle.code.specs.Reach.{flags_code, code_reach, table_reach, ceiling_reach, both, within, traced_reach}
use Rattle.code.specs.Numbers.{Check, ceiling_check, reach_check, Passed}
use Rattle.code.specs.Calls.{Result, plain, Refused, early_checks, TraceNear, trace_named, Traces}
use Rattle.code.specs.Promises.{call_flags, TracedWithin}
use Rattle.code.specs.declared.Reach.{Reach}
use Rattle.code.proofs.Changed.{changed_extra_same}
use Rattle.code.proofs.Numbers.{first_after}
use Rattle.code.proofs.Outputs.{own_cells, trace_all, mended_as}
use Rattle.code.proofs.Codes.{table_room}
use Rattle.code.proofs.Reaches.{both_left, room_less}
use Rattle.code.proofs.Same.{SameFlags}
use Rattle.solver.specs.Solver.{marked}
use Rattle.flags.specs.Marks.{CallMarks}
use Rattle.repair.proofs.Calling.{has_room, code_is}
use Rattle.trace.specs.Steps.{StaysWithin}
use Rattle.trace.proofs.Flagging.{reach_same, allowed_within}

-- Flags that say the same.
traces_as : (sh : Shape) (image before : List ℕ) (r : Result) (after : List ℕ) (f g : TrackFlags) → SameFlags sh f g → (w : Reach) →
    Traces sh w f image before r after → Traces sh w g image before r after
traces_as sh image before r after f g same w = mended_as sh image before r after (TraceNear sh w f image) (TraceNear sh w g image) (trace_named sh f image) (trace_named sh g image)
    (reach_same sh f g same w (cells sh image)) (reach_same sh g f (λ s t l. sym (same s t l)) w (cells sh image))
    (λ _ s. changed_extra_same sh _ _ _ _ (own_cells sh image) (own_cells sh after) f g s (same s) (tracks sh s) (omega arith))

-- Where the flags have a code, what it and a ceiling both allow stays within the limit.
pub both_within : (sh : Shape) (f : TrackFlags) (w u : Reach) → sh.closing ≡ closed_tail → flags_code sh f ≢ 0 → w ≡ both (table_reach sh f) u → StaysWithin sh w f
both_within sh f w u c coded e v = allowed_within sh w f v c (room_less _ _ (rw e (both_left (table_reach sh f) u)) _ _ (table_room sh f coded))

module _ (n word ceiling : ℕ) (image out : List ℕ) (p : Passed (early_checks read_values (base n) n word image (length out))) where
  abbrev f : TrackFlags
  f = call_flags n word image

  abbrev early : List {1} Check
  early = early_checks read_values (base n) n word image (length out)

  abbrev last : List {1} Check
  last = ceiling_check ceiling ∷ reach_check (base n) f ∷ []

  abbrev done : Result → List ℕ → Type 0
  done = Traces (base n) (traced_reach (within ceiling) (base n) f) f image out

  abbrev size : ℕ
  size = image_size (base n)

  -- 12.
  pub too_high : 2 < ceiling → TracedWithin n word ceiling image out (plain 12 0) out
  too_high h = first_after early last (Refused (plain 12 0) out out) (done (plain 12 0) out) p (inl (h, record { result = refl; output = refl }))

  module _ (low : ceiling ≤ 2) (marks : List Bool) (m : CallMarks (base n) word image marks) where
    abbrev by_marks : TrackFlags
    by_marks = marked (base n) marks

    same_code : flags_code (base n) by_marks ≡ flags_code (base n) f
    same_code = code_is n word image out p marks m

    passes_12 : ¬ (2 < ceiling)
    passes_12 h = omega arith

    -- 6.
    pub too_many : flags_code (base n) by_marks ≡ 0 → TracedWithin n word ceiling image out (plain 6 0) out
    too_many c = first_after early last (Refused (plain 6 0) out out) (done (plain 6 0) out) p (inr (passes_12, inl (sym same_code ∙ c, record { result = refl; output = refl })))

    pub traced : flags_code (base n) by_marks ≢ 0 → (r : Result) (part : List ℕ) → length part ≡ length (take size out) → (w : Reach) →
        w ≡ both (code_reach (flags_code (base n) by_marks)) (ceiling_reach ceiling) → Traces (base n) w by_marks image (take size out) r part →
        TracedWithin n word ceiling image out r (part ++ drop size out)
    traced code r part kept w e d =
        first_after early last (Refused r out after) (done r after) p (inr (
          passes_12,
          inr (
            λ z. code (same_code ∙ z),
            subst (λ (v : Reach). Traces (base n) v f image out r after) (e ∙ ap (λ (k : ℕ). both (code_reach k) (ceiling_reach ceiling)) same_code)
                (traces_as (base n) image out r after by_marks f m.flags w (trace_all (base n) image out part room (kept ∙ length-take-le size out room) w by_marks r d)),
          ),
        ))
      where
        after : List ℕ
        after = part ++ drop size out

        room : size ≤ length out
        room = has_room n word image (length out) p
