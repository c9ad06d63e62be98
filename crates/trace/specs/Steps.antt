-- What the steps of tracing give.
use Rattle.std.specs.Prelude.{◌≡◌, ◌≢◌, Bool, true, false, Option, None, Some, List, ℕ, suc, ◌+◌, ◌<◌, ◌≤◌, eqb, length, get_or}
use Rattle.code.specs.declared.sizes.TrackSet.{TrackSet}
use Rattle.code.specs.declared.sizes.TrackSet.TheVariants.{A, B}
use Rattle.code.specs.Record.{other, Shape, tracks, track_length, vertical_end, Cells, Good}
use Rattle.code.specs.Image.{track_number, image_size, cells}
use Rattle.code.specs.Flags.{TrackFlags, whole, AgreeOff, Within}
use Rattle.code.specs.Reach.{pick, Extra, none, extra, size, Choice, Allowed, with_extras, InReach}
use Rattle.code.specs.Calls.{Result, mended}
use Rattle.code.specs.Answers.{extra_of}
use Rattle.code.specs.Sizes.{shape}
use Rattle.code.specs.declared.sizes.Sizes.{Sizes}
use Rattle.code.specs.declared.Reach.{Reach}
use Rattle.solver.specs.Solver.{marked}
use Rattle.changes.specs.Changes.{changed_at, names}
use Rattle.plans.specs.declared.Form.{Form}
use Rattle.plans.specs.Plans as plans
use Rattle.errors.specs.Rows.{Rows}
use Rattle.errors.specs.Steps.{Fresh, Found}
use Rattle.mend.specs.Mend.{StartOf, Explained}
use Rattle.repair.specs.Steps.{need_of, Prepared}
use Rattle.trace.specs.declared.Extras.{Extras}
use Rattle.trace.specs.declared.Hit.{Hit}
use Rattle.trace.specs.declared.Tracer.{Tracer}

-- ## Choices of extras

-- The extra of a set, none or a track.
abbrev pub extra_in : Extras → TrackSet → Option ℕ
extra_in e A = e.a
extra_in e B = e.b

abbrev pub choice_of : Extras → Choice
choice_of e s = extra_of (extra_in e s)

-- An extra is none or a track of its set.
abbrev pub IsTrack : Sizes → TrackSet → Option ℕ → Type 0
IsTrack z s e = (t : ℕ) → e ≡ Some t → t < tracks (shape z) s

pub record IsChoice (z : Sizes) (e : Extras) : Type 0 where
  pub in_a : IsTrack z A e.a
  pub in_b : IsTrack z B e.b

-- One mark more: that of an extra of set s.
pub record OneMore (sh : Shape) (s : TrackSet) (e : Option ℕ) (marks r : List Bool) : Type 0 where
  pub size : length r ≡ length marks
  pub here : (t : ℕ) → e ≡ Some t → get_or r (track_number sh s t) false ≡ true
  pub there : (g : ℕ) → ((t : ℕ) → e ≡ Some t → g ≢ track_number sh s t) → get_or r g false ≡ get_or marks g false

-- The marks with the extras of a choice.
pub record Widened (sh : Shape) (marks : List Bool) (e : Choice) (r : List Bool) : Type 0 where
  pub size : length r ≡ length marks
  pub flags : (s : TrackSet) (t : ℕ) → t < tracks sh s → marked sh r s t ≡ with_extras (marked sh marks) e s t

-- r says whether an extra is none or has no mark.
pub record Free (sh : Shape) (s : TrackSet) (e : Option ℕ) (marks : List Bool) (r : Bool) : Type 0 where
  pub yes_free : r ≡ true → (t : ℕ) → e ≡ Some t → marked sh marks s t ≡ false
  pub not_free : r ≡ false → ((t : ℕ) → e ≡ Some t → marked sh marks s t ≡ false) → ⊥

-- A reach leaves room for a choice.
abbrev pub HasRoom : Reach → Choice → Type 0
HasRoom w e = (size (e A) ≤ w.a) × (size (e B) ≤ w.b) × (size (e A) + size (e B) ≤ w.all)

-- r says whether a reach allows a choice.
pub record Allows (sh : Shape) (w : Reach) (f : TrackFlags) (e : Choice) (r : Bool) : Type 0 where
  pub yes_allowed : r ≡ true → Allowed sh w f e
  pub not_allowed : r ≡ false → Allowed sh w f e → ⊥

-- The first r choices in set s are none and tracks 0 to r - 2. No other is allowed beside so many extras in the other set.
pub record Last (z : Sizes) (w : Reach) (s : TrackSet) (beside r : ℕ) : Type 0 where
  pub some : 1 ≤ r
  pub within : r ≤ 1 + tracks (shape z) s
  pub past : (f : TrackFlags) (e : Choice) (t : ℕ) → beside ≤ size (e (other s)) → e s ≡ extra t → r ≤ suc t → Allowed (shape z) w f e → ⊥

-- Every choice that a reach allows stays within the limit.
abbrev pub StaysWithin : Shape → Reach → TrackFlags → Type 0
StaysWithin sh w f = (e : Choice) → Allowed sh w f e → Within sh (with_extras f e)

-- ## Tracing

-- A good record that is in reach by a choice.
pub record Fits (sh : Shape) (w : Reach) (f : TrackFlags) (image : List ℕ) (e : Choice) (y : Cells) : Type 0 where
  pub good : Good sh y
  pub allowed : Allowed sh w f e
  pub agree : AgreeOff sh (whole (with_extras f e)) (cells sh image) y

-- The flags that the tracer works with.
abbrev pub flags_of : Tracer → TrackFlags
flags_of tracer = marked (shape tracer.z) tracer.marks

-- Its sums, its marks and the marked tracks, and a reach that stays within the limit.
pub record Traceable (tracer : Tracer) (rows : List ℕ) : Type 0 where
  pub sums : Rows 4 rows
  pub marks_size : length tracer.marks ≡ 18
  pub within : StaysWithin (shape tracer.z) tracer.w (flags_of tracer)
  pub in_a : plans.ThreeOf (shape tracer.z) (flags_of tracer) A tracer.x
  pub in_b : plans.ThreeOf (shape tracer.z) (flags_of tracer) B tracer.y
  pub started : StartOf (track_length (shape tracer.z)) rows tracer.start

-- A choice fits: errors were found on its tracks and pass all tests, and its extras explain the tails.
pub record Fitting (tracer : Tracer) (rows : List ℕ) (e : Extras) (p : Form) (words : List ℕ) : Type 0 where
  pub allowed : Allowed (shape tracer.z) tracer.w (flags_of tracer) (choice_of e)
  pub form : plans.Fits (shape tracer.z) (with_extras (flags_of tracer) (choice_of e)) p
  pub found : Found tracer.z (vertical_end (shape tracer.z)) p rows words true
  pub explained : (s : TrackSet) → Explained (need_of tracer.need s) (extra_in e s)

-- No good record is in reach by a choice, of whatever record these are the sums.
abbrev pub NoFit : Tracer → List ℕ → Extras → Type 0
NoFit tracer rows e = (image out : List ℕ) → Prepared tracer.z (flags_of tracer) image out rows tracer.need → (y : Cells) →
    Fits (shape tracer.z) tracer.w (flags_of tracer) image (choice_of e) y → ⊥

-- One choice is tried: a form, where it fits.
pub record Tried (tracer : Tracer) (rows : List ℕ) (e : Extras) (after : List ℕ) (r : Option Form) : Type 0 where
  pub fresh : Fresh after tracer.start
  pub fits : (p : Form) → r ≡ Some p → Fitting tracer rows e p after
  pub no_fit : r ≡ None → NoFit tracer rows e

-- All choices are tried, up to one that fits.
pub record Searched (tracer : Tracer) (rows after : List ℕ) (r : Option Hit) : Type 0 where
  pub words : Rows 5 after
  pub is_choice : (h : Hit) → r ≡ Some h → IsChoice tracer.z h.extras
  pub fits : (h : Hit) → r ≡ Some h → Fitting tracer rows h.extras h.form after
  pub no_record : r ≡ None → (image out : List ℕ) → Prepared tracer.z (flags_of tracer) image out rows tracer.need → (y : Cells) → Good (shape tracer.z) y →
      InReach (shape tracer.z) tracer.w (flags_of tracer) (cells (shape tracer.z) image) y → ⊥

-- ## What is named

-- Two images of a record's size.
pub record SameImages (z : Sizes) (image out : List ℕ) : Type 0 where
  pub image_has : length image ≡ image_size (shape z)
  pub out_has : length out ≡ image_size (shape z)

-- An extra of set s is named by its track number, if it is changed.
abbrev pub named_at : Shape → List ℕ → List ℕ → TrackSet → Option ℕ → Extra
named_at sh image out s None = none
named_at sh image out s (Some t) =
    let g = track_number sh s t in pick (eqb (changed_at (track_length sh) image out g) 0) none (extra g)

-- The extras of a choice that are named.
abbrev pub names_at : Shape → List ℕ → List ℕ → Extras → TrackSet → Extra
names_at sh image out e = names (named_at sh image out A e.a) (named_at sh image out B e.b)

-- Answer 0 with what was changed.
abbrev pub mended_at : Shape → List ℕ → List ℕ → Extras → Result
mended_at sh image out e = mended sh (cells sh image) (cells sh out) (names_at sh image out e)
