-- Document 02, note 5: flags by stretch.
use Rattle.std.specs.Prelude.{◌≡◌, Bool, ◌&&◌, ◌||◌, not, List, [], ◌∷◌, ℕ, zero, suc, ◌+◌, ◌*◌, ◌/◌, ◌%◌, ◌^◌, ◌<◌, eqb, ltb, length, get_or}
use Rattle.code.specs.Record.{TrackSet, Shape, tracks, track_length}
use Rattle.code.specs.Image.{track_number, all_tracks, cells}
use Rattle.code.specs.Flags.{TrackFlags, CellFlags, any, in_window}
use Rattle.code.specs.Lost.{lost_cells}
use Rattle.code.specs.Reach.{pick, flags_code}
use Rattle.code.specs.declared.Span.{Span}

-- "A lent table of up to 64 pairs of offset and length, … over the image's cells": how many pairs, and the offset and the length of each.
pub record Table : Type 0 where
  pub count : ℕ
  pub offset : ℕ → ℕ
  pub size : ℕ → ℕ

-- The table of a lent slice of spans.
abbrev pub no_span : Span
no_span = record { offset = 0; length = 0 }

abbrev pub table_of : List Span → Table
table_of spans = record { count = length spans; offset = λ k. (get_or spans k no_span).offset; size = λ k. (get_or spans k no_span).length }

-- Cell i of the image is in pair k.
abbrev pub in_pair : Table → ℕ → ℕ → Bool
in_pair table i k = not (ltb i (table.offset k)) && ltb i (table.offset k + table.size k)

-- "Flagged cells are those in a pair, and single lost cells besides." A pair may run from one track into the next.
abbrev pub in_table : Shape → Table → CellFlags
in_table sh table s t m = any table.count (in_pair table (track_number sh s t * track_length sh + m))

abbrev pub span_flags : Shape → Table → List ℕ → CellFlags
span_flags sh table image s t m = in_table sh table s t m || lost_cells (cells sh image) s t m

-- "More than 64 pairs, a length 0, a pair beyond the image, or an offset before the previous pair's end": number 9, of an image of `cells`
-- cells.
pub data Broken (cells : ℕ) (table : Table) : Type 0 where
  too_long : 64 < table.count → Broken cells table
  empty : (k : ℕ) → k < table.count → table.size k ≡ 0 → Broken cells table
  beyond : (k : ℕ) → k < table.count → cells < table.offset k + table.size k → Broken cells table
  too_early : (k : ℕ) → suc k < table.count → table.offset (suc k) < table.offset k + table.size k → Broken cells table

-- "The tracks with a flagged cell in positions m to m + 15 (or to the tail's end)"
abbrev pub window : ℕ
window = 16

abbrev pub to_tail_end : Shape → CellFlags → CellFlags
to_tail_end sh flag s t m = ltb m (track_length sh) && flag s t m

abbrev pub window_flags : Shape → CellFlags → ℕ → TrackFlags
window_flags sh flag m = in_window window (to_tail_end sh flag) m

-- "must have a code above 0, else number 6"
abbrev pub WindowsCoded : Shape → CellFlags → Type 0
WindowsCoded sh flag = (m : ℕ) → m < track_length sh → ¬ (flags_code sh (window_flags sh flag m) ≡ 0)

pub record WindowTooMany (sh : Shape) (flag : CellFlags) : Type 0 where
  pub position : ℕ
  pub inside : position < track_length sh
  pub code : flags_code sh (window_flags sh flag position) ≡ 0

-- Pairs that are whole tracks: the flagged cells are those of flagged tracks f.
abbrev pub OnTracks : Shape → CellFlags → TrackFlags → Type 0
OnTracks sh flag f = (s : TrackSet) (t m : ℕ) → t < tracks sh s → m < track_length sh → flag s t m ≡ f s t

-- Such a table: a pair for each flagged one of n track numbers from g on, of l cells each.
unfoldable pub track_spans : ℕ → (ℕ → Bool) → ℕ → ℕ → List Span
track_spans l f zero g = []
track_spans l f (suc n) g =
    let rest = track_spans l f n (suc g) in
    pick (f g) (record { offset = g * l; length = l } ∷ rest) rest

-- That of a flag word: a pair for each of its tracks.
abbrev pub word_table : Shape → ℕ → Table
word_table sh word = table_of (track_spans (track_length sh) (λ g. eqb (word / 2 ^ g % 2) 1) (all_tracks sh) 0)
