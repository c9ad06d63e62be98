-- Flags by position: a word a position, whose bit g flags the cell of track number g.
use Rattle.std.specs.Prelude.{◌≡◌, ◌≢◌, Bool, List, ℕ, ◌/◌, ◌%◌, ◌^◌, ◌<◌, eqb, length, get_or}
use Rattle.code.specs.declared.sizes.TrackSet.{TrackSet}
use Rattle.code.specs.Record.{Shape, tracks, track_length}
use Rattle.code.specs.Flags.{CellFlags, word_flags, in_window}
use Rattle.code.specs.Reach.{flags_code}
use Rattle.code.specs.Spans.{window}

-- Bit g of a word.
abbrev pub bit_at : ℕ → ℕ → Bool
bit_at word g = eqb (word / 2 ^ g % 2) 1

-- The flagged cells of a list of words. None is flagged past its end.
abbrev pub word_cells : Shape → List ℕ → CellFlags
word_cells sh words s t m = word_flags sh (get_or words m 0) s t

-- `near` has for each position the tracks with a flagged cell in its window, and these have a code.
pub record Windows (sh : Shape) (words near : List ℕ) : Type 0 where
  pub words_size : length words ≡ track_length sh
  pub near_size : length near ≡ track_length sh
  pub near_at : (s : TrackSet) (t m : ℕ) → t < tracks sh s → word_cells sh near s t m ≡ in_window window (word_cells sh words) m s t
  pub coded : (m : ℕ) → m < track_length sh → flags_code sh (word_flags sh (get_or near m 0)) ≢ 0
