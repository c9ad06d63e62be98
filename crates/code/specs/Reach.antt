-- Document 01, "Flags and reach": the table of codes, extra tracks, records in reach; and document 02, note 7: ceilings.
use Rattle.std.specs.Prelude.{◌≡◌, Bool, true, false, ◌&&◌, ◌||◌, List, [], ◌∷◌, ℕ, ◌+◌, ◌<◌, ◌≤◌, min, get_or, eqb}
use Rattle.code.specs.Record.{TrackSet, A, B, Shape, tracks, Cells, Good, Same}
use Rattle.code.specs.Flags.{TrackFlags, whole, AgreeOff, flag_count}
use Rattle.code.specs.declared.Reach.{Reach}

-- The table: the pairs of flag counts a, b and their codes. Pairs not listed have code 0.
pub record Row : Type 0 where
  pub a : ℕ
  pub b : ℕ
  pub code : ℕ

abbrev row : ℕ → ℕ → ℕ → Row
row a b c = record { a = a; b = b; code = c }

abbrev pub rows : List Row
rows =
    row 0 0 5
    ∷ row 1 0 4 ∷ row 0 1 4 ∷ row 1 1 4
    ∷ row 2 0 3
    ∷ row 0 2 2
    ∷ row 2 1 1 ∷ row 1 2 1 ∷ row 2 2 1 ∷ row 3 0 1 ∷ row 0 3 1 ∷ row 3 1 1 ∷ row 1 3 1
    ∷ []

abbrev pub pick : {X : Type 0} → Bool → X → X → X
pick true x y = x
pick false x y = y

unfoldable pub look_up : List Row → ℕ → ℕ → ℕ
look_up [] a b = 0
look_up (r ∷ rs) a b = pick (eqb r.a a && eqb r.b b) r.code (look_up rs a b)

unfoldable pub reach_code : ℕ → ℕ → ℕ
reach_code a b = look_up rows a b

-- The code of the flags.
unfoldable pub flags_code : Shape → TrackFlags → ℕ
flags_code sh f = reach_code (flag_count sh f A) (flag_count sh f B)

-- A reach is how many extra tracks are allowed: in A, in B and in all. Those of a code, by codes 0 to 5:
abbrev pub code_reach : ℕ → Reach
code_reach code =
    record {
      a = get_or (0 ∷ 0 ∷ 1 ∷ 0 ∷ 1 ∷ 1 ∷ []) code 0;
      b = get_or (0 ∷ 0 ∷ 0 ∷ 1 ∷ 1 ∷ 1 ∷ []) code 0;
      all = get_or (0 ∷ 0 ∷ 1 ∷ 1 ∷ 1 ∷ 2 ∷ []) code 0;
    }

-- Those of the table beside these flags.
abbrev pub table_reach : Shape → TrackFlags → Reach
table_reach sh f = code_reach (flags_code sh f)

-- Those of a set.
abbrev pub most_in : Reach → TrackSet → ℕ
most_in w A = w.a
most_in w B = w.b

-- No extra track, or one.
pub data Extra : Type 0 where
  none : Extra
  extra : ℕ → Extra

abbrev pub size : Extra → ℕ
size none = 0
size (extra t) = 1

abbrev pub is : Extra → ℕ → Bool
is none t = false
is (extra u) t = eqb t u

-- A choice: for each set no extra track or one.
abbrev pub Choice : Type 0
Choice = TrackSet → Extra

-- A choice that a reach allows. An extra track is an unflagged one.
pub record Allowed (sh : Shape) (w : Reach) (f : TrackFlags) (e : Choice) : Type 0 where
  pub in_set : (s : TrackSet) → size (e s) ≤ most_in w s
  pub in_all : size (e A) + size (e B) ≤ w.all
  pub track : (s : TrackSet) (t : ℕ) → e s ≡ extra t → t < tracks sh s
  pub unflagged : (s : TrackSet) (t : ℕ) → e s ≡ extra t → f s t ≡ false

-- The flagged tracks and the extra ones.
abbrev pub with_extras : TrackFlags → Choice → TrackFlags
with_extras f e s t = f s t || is (e s) t

-- y is in reach of x: it differs from x only in flagged tracks and in extras that are allowed.
pub record InReach (sh : Shape) (w : Reach) (f : TrackFlags) (x y : Cells) : Type 0 where
  pub choice : Choice
  pub allowed : Allowed sh w f choice
  pub agree : AgreeOff sh (whole (with_extras f choice)) x y

-- At most one good record is among these.
abbrev pub AtMostOne : Shape → (Cells → Type 0) → Type 0
AtMostOne sh near = (x y : Cells) → Good sh x → Good sh y → near x → near y → Same sh x y

-- Two different good records agree on all unflagged tracks: nothing tells which of them was written.
pub record Ambiguous (sh : Shape) (f : TrackFlags) : Type 0 where
  pub one : Cells
  pub two : Cells
  pub good_one : Good sh one
  pub good_two : Good sh two
  pub agree : AgreeOff sh (whole f) one two
  pub differ : Same sh one two → ⊥

-- ## Document 02, note 7: which extras the tracing calls allow

-- "A second tracing call takes a ceiling: 0 no extras, 1 one in all, 2 the table of document 01." It is so many extras in all, and the
-- table never allows more than 2.
abbrev pub ceiling_reach : ℕ → Reach
ceiling_reach ceiling = record { a = ceiling; b = ceiling; all = ceiling }

-- What two reaches both allow.
abbrev pub both : Reach → Reach → Reach
both v w = record { a = min v.a w.a; b = min v.b w.b; all = min v.all w.all }

-- "Without flags, tracing now uses code 4 in place of 5."
abbrev pub cautious_code : ℕ → ℕ
cautious_code code = pick (eqb code 5) 4 code

-- The two ways of tracing.
pub data Tracing : Type 0 where
  cautious : Tracing
  within : ℕ → Tracing

-- "In that call a good record is in reach when document 01's table and the ceiling both allow it."
abbrev pub traced_reach : Tracing → Shape → TrackFlags → Reach
traced_reach cautious sh f = code_reach (cautious_code (flags_code sh f))
traced_reach (within ceiling) sh f = both (table_reach sh f) (ceiling_reach ceiling)
