-- What is said of a table of pairs, and of the words that it flags.
use Rattle.std.specs.Prelude.{◌≡◌, Bool, true, false, ◌||◌, List, ℕ, ◌<◌, length, get_or}
use Rattle.code.specs.declared.sizes.TrackSet.{TrackSet}
use Rattle.code.specs.Record.{Shape, tracks, track_length}
use Rattle.code.specs.Image.{cells}
use Rattle.code.specs.Flags.{in_window}
use Rattle.code.specs.Lost.{lost_cells}
use Rattle.code.specs.Reach.{flags_code}
use Rattle.code.specs.Spans.{Table, in_table, Broken, window}
use Rattle.flags.specs.Words.{bit_at, word_cells, Windows}

-- ## The table

-- r says whether a table is right.
pub record TableTested (cells : ℕ) (table : Table) (r : Bool) : Type 0 where
  pub yes_right : r ≡ true → Broken cells table → ⊥
  pub not_right : r ≡ false → Broken cells table

-- ## Words

-- Words that flag no cell.
pub record Blank (l : ℕ) (words : List ℕ) : Type 0 where
  pub size : length words ≡ l
  pub none : (m : ℕ) → get_or words m 0 ≡ 0

-- The cells of a table are flagged.
pub record TableFlagged (sh : Shape) (table : Table) (words : List ℕ) : Type 0 where
  pub size : length words ≡ track_length sh
  pub flags : (s : TrackSet) (t m : ℕ) → t < tracks sh s → m < track_length sh → word_cells sh words s t m ≡ in_table sh table s t m

-- And those that are lost.
pub record LostFlagged (sh : Shape) (image before after : List ℕ) : Type 0 where
  pub size : length after ≡ track_length sh
  pub flags : (s : TrackSet) (t m : ℕ) → t < tracks sh s → m < track_length sh →
      word_cells sh after s t m ≡ word_cells sh before s t m || lost_cells (cells sh image) s t m

-- A position whose window has no code.
pub record NoCode (sh : Shape) (words : List ℕ) : Type 0 where
  pub position : ℕ
  pub inside : position < track_length sh
  pub code : flags_code sh (in_window window (word_cells sh words) position) ≡ 0

-- r says whether every position's window has a code, and `near` has the windows.
pub record WindowsFound (sh : Shape) (words near : List ℕ) (r : Bool) : Type 0 where
  pub near_size : length near ≡ track_length sh
  pub coded : r ≡ true → Windows sh words near
  pub no_code : r ≡ false → NoCode sh words

-- Every track with a flagged cell is marked.
pub record FlaggedMarked (words : List ℕ) (marks : List Bool) : Type 0 where
  pub size : length marks ≡ 18
  pub marks_at : (g m : ℕ) → g < 18 → bit_at (get_or words m 0) g ≡ true → get_or marks g false ≡ true
