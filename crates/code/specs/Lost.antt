-- Document 02, note 2: cells a drive could not read.
use Rattle.std.specs.Prelude.{Bool, ◌||◌, List, ℕ, suc, eqb}
use Rattle.code.specs.Record.{Shape, track_length, Cells}
use Rattle.code.specs.Image.{cells}
use Rattle.code.specs.Flags.{TrackFlags, CellFlags, any}
use Rattle.code.specs.declared.Reading.{Reading}
use Rattle.code.specs.declared.Reading.TheVariants.{Zero, One, Lost}

-- Reading a cell yields three values, each by its byte. No byte above them is a cell (number 4).
abbrev pub byte_of : Reading → ℕ
byte_of Zero = 0
byte_of One = 1
byte_of Lost = 2

-- The values of a cell that is a bit, and of one that may be lost: those below these numbers.
abbrev pub bit_values : ℕ
bit_values = suc (byte_of One)

abbrev pub read_values : ℕ
read_values = suc (byte_of Lost)

-- The lost cells, and the tracks with a lost cell.
abbrev pub is_lost : ℕ → Bool
is_lost x = eqb x (byte_of Lost)

abbrev pub lost_cells : Cells → CellFlags
lost_cells x s t m = is_lost (x s t m)

abbrev pub lost_tracks : Shape → Cells → TrackFlags
lost_tracks sh x s t = any (track_length sh) (lost_cells x s t)

-- "A track with a lost cell counts as flagged, as if its bit were set": the flags f, widened by the lost cells of an image.
abbrev pub with_lost : Shape → TrackFlags → List ℕ → TrackFlags
with_lost sh f image s t = f s t || lost_tracks sh (cells sh image) s t
