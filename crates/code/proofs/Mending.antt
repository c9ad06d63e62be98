-- Repair and tracing with flagged tracks, for any closed shape and any checks before that of the flags.
use mathlib.Core.Path.{◌≡◌, refl, sym}
use mathlib.Core.Logic.{◌≢◌}
use mathlib.Core.List.{List, [], ◌∷◌, ◌++◌}
use Prim.Native.Nat.{ℕ, ◌+◌, ◌<◌}
use native.Mathlib.Omega.{arith}
use Rattle.code.specs.Record.{TrackSet, A, B, Shape, closed_tail, tracks, lag, Cells, Same}
use Rattle.code.specs.Image.{cells}
use Rattle.code.specs.Flags.{TrackFlags, flag_count, Within}
use Rattle.code.specs.Reach.{flags_code, table_reach, Extra, none, AtMostOne, Ambiguous, traced_reach}
use Rattle.code.specs.Numbers.{Check, reach_check}
use Rattle.code.specs.Calls.{Result, Answered, Mended, trace_named}
use Rattle.code.specs.Supply.{Mending, repair, trace, near_by, Point3, tracks_allowed, Values}
use Rattle.code.proofs.Codes.{Room, code_within, code_past, table_room}
use Rattle.code.proofs.Demands.{demanded}
use Rattle.code.proofs.Determined.{Equal, mend_determined}
use Rattle.code.proofs.Masks.{unchanged_in}
use Rattle.code.proofs.Named.{none_named}
use Rattle.code.proofs.Numbers.{Avoids, each_append, passed_last}
use Rattle.code.proofs.Reached.{repaired_unique, reached_unique}
use Rattle.code.proofs.Reaches.{room_less, no_extra, agree_none, agree_reached, below_table}
use Rattle.code.proofs.TooMany.{too_many}
use Rattle.code.proofs.Values.{Chosen, call_values}

-- The extras that a call names.
abbrev pub names_by : Mending → Shape → TrackFlags → List ℕ → List ℕ → TrackSet → Extra
names_by repair sh f image after s = none
names_by (trace way) sh f image after s = trace_named sh f image after s

-- Both calls are of this form.
abbrev pub Mends : Mending → Shape → TrackFlags → List ℕ → List ℕ → Result → List ℕ → Type 0
Mends way sh f image = Mended sh (near_by way sh f image) (names_by way sh f image) image

-- ## The records that are near

module _ (sh : Shape) (f : TrackFlags) (image : List ℕ) where
  abbrev Near : Mending → Cells → Type 0
  Near way = near_by way sh f image

  -- At most one that is good: no call allows more than the table, which leaves room.
  one_near : (way : Mending) → sh.closing ≡ closed_tail → Within sh f → Room (table_reach sh f) (flag_count sh f A) (flag_count sh f B) → AtMostOne sh (Near way)
  one_near repair c few room = repaired_unique sh f (cells sh image) few
  one_near (trace way) c few room = reached_unique sh (traced_reach way sh f) f (cells sh image) c (room_less _ _ (below_table way sh f) _ _ room)

  -- A copy of the image.
  same_agrees : (y : Cells) → Same sh (cells sh image) y → Near repair y
  same_agrees y e = record { cell = λ s t m l b u. e.cell s t m l b }

  copy_near : (way : Mending) (y : Cells) → Same sh (cells sh image) y → Near way y
  copy_near repair y e = same_agrees y e
  copy_near (trace way) y e = agree_reached sh (traced_reach way sh f) f (cells sh image) y (same_agrees y e)

  -- They differ in the tracks allowed.
  near_chosen : (way : Mending) (y : Cells) → Near way y → Chosen sh f (tracks_allowed way sh f) (cells sh image) y
  near_chosen repair y a = record { choice = no_extra; agree = agree_none sh f (cells sh image) y a; few = omega arith }
  near_chosen (trace way) y a = record { choice = a.choice; agree = a.agree; few = omega (arith, a.allowed.in_all) }

  -- Repair names none, as no unflagged track is changed.
  pub near_names : (way : Mending) (after : List ℕ) → Near way (cells sh after) → (s : TrackSet) → names_by way sh f image after s ≡ trace_named sh f image after s
  near_names repair after a s = sym (none_named sh f (cells sh image) (cells sh after) s (tracks sh s) (λ t l u. unchanged_in sh _ _ s t (λ m b. a.cell s t m l b u)))
  near_names (trace way) after a s = refl

-- ## The calls

module _ (way : Mending) (sh : Shape) (closed : sh.closing ≡ closed_tail) (f : TrackFlags) (cs : List {1} Check) (image before : List ℕ) (r : Result) (after : List ℕ)
    (call : Answered (cs ++ (reach_check sh f ∷ [])) (Mends way sh f image before) before r after) where
  abbrev near : Cells → Type 0
  near = near_by way sh f image

  abbrev names : List ℕ → TrackSet → Extra
  names = names_by way sh f image

  one : ¬ (flags_code sh f ≡ 0) → AtMostOne sh near
  one n = one_near sh f image way closed (code_within sh f closed n) (table_room sh f n)

  -- Two right answers are equal.
  pub mending_fixed : (other : Result) (bytes : List ℕ) →
      Answered (cs ++ (reach_check sh f ∷ [])) (Mends way sh f image before) before other bytes → Equal other r bytes after
  mending_fixed other bytes d = mend_determined sh (cs ++ (reach_check sh f ∷ [])) before other r bytes after near names image
      (λ p. one (passed_last cs (reach_check sh f) p)) d call

  -- Point 3.
  pub mending_demanded : Avoids r.answer cs → (long : Type 0) → (long → lag sh + lag sh < sh.positions) →
      Point3 sh near (Within sh f) long (Ambiguous sh f) image r after
  mending_demanded met_none long enough = demanded sh near names cs (reach_check sh f) refl image before r after met_none call
      (Within sh f) long (Ambiguous sh f)
      (λ w e. code_past sh f e w)
      (λ w. one (λ e. code_past sh f e w))
      (λ l. too_many sh f closed (enough l))
      (copy_near sh f image way)

  -- What is returned.
  pub mending_values : Avoids 0 cs → Values sh f (tracks_allowed way sh f) image r after
  mending_values some = call_values sh f (tracks_allowed way sh f) image near names before r after
      (near_chosen sh f image way (cells sh after)) (near_names sh f image way after)
      (cs ++ (reach_check sh f ∷ [])) (each_append (λ c. c.number ≢ 0) cs (reach_check sh f ∷ []) some (λ e. omega arith, tt)) call
