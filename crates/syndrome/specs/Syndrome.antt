-- Syndromes: the sums of all rules, kept in one list of four rows.
use Rattle.std.specs.Prelude.{◌≡◌, Bool, true, false, List, ℕ, ◌+◌, ◌*◌, ◌-◌, ◌<◌, ◌%◌, length, get_or, set}
use Rattle.code.specs.Record.{other, row_of, Shape, tracks, lag, track_length, Cells, diagonal, vertical, Good}
use Rattle.code.specs.declared.sizes.TrackSet.{TrackSet}
use Rattle.code.specs.Image.{track_number, image_size, cells}
use Rattle.code.specs.Sizes.{shape}
use Rattle.code.specs.declared.sizes.Sizes.{Sizes}
use Rattle.syndrome.specs.declared.Line.{Line}

-- `syn` holds the syndromes of a record: the diagonals of A and of B, then their verticals.
pub record Holds (sh : Shape) (x : Cells) (syn : List ℕ) : Type 0 where
  pub size : length syn ≡ 4 * track_length sh
  pub bits : (i : ℕ) → get_or syn i 0 < 2
  pub diagonals : (s : TrackSet) (m : ℕ) → m < track_length sh → get_or syn (row_of s * track_length sh + m) 0 ≡ diagonal sh x s m % 2
  pub verticals : (s : TrackSet) (m : ℕ) → m < track_length sh → get_or syn ((2 + row_of s) * track_length sh + m) 0 ≡ vertical sh x s m % 2

-- A list that is an image of bits.
pub record Image (sh : Shape) (image : List ℕ) : Type 0 where
  pub size : length image ≡ image_size sh
  pub bits : (i : ℕ) → get_or image i 0 < 2

-- A working copy with its syndromes.
pub record Kept (z : Sizes) (out syn : List ℕ) : Type 0 where
  pub image : Image (shape z) out
  pub holds : Holds (shape z) (cells (shape z) out) syn

-- A cell of a record.
pub record IsCell (z : Sizes) (s : TrackSet) (t p : ℕ) : Type 0 where
  pub track_small : t < tracks (shape z) s
  pub position_small : p < track_length (shape z)

-- Where that cell is in an image.
abbrev pub index : Sizes → TrackSet → ℕ → ℕ → ℕ
index z s t p = track_number (shape z) s t * track_length (shape z) + p

-- One cell is turned over.
abbrev pub turned : Sizes → TrackSet → ℕ → ℕ → List ℕ → List ℕ
turned z s t p out = set out (index z s t p) (1 - get_or out (index z s t p) 0)

-- Where the cells of track t begin: in the image, and in the rows of its set's diagonal, of the other set's and of its vertical.
pub record LineOf (z : Sizes) (s : TrackSet) (t : ℕ) (line : Line) : Type 0 where
  pub cell : line.cell ≡ track_number (shape z) s t * track_length (shape z)
  pub own : line.own ≡ row_of s * track_length (shape z) + t
  pub other : line.other ≡ row_of (other s) * track_length (shape z) + (lag (shape z) - t)
  pub vertical : line.vertical ≡ (2 + row_of s) * track_length (shape z)

-- What `add_any` and `add_cell` give: the cell is turned over if w is 1, and the syndromes are those of the new copy.
pub record CellAdded (z : Sizes) (s : TrackSet) (t p w : ℕ) (out after syn : List ℕ) : Type 0 where
  pub kept : Kept z after syn
  pub zero : w ≡ 0 → after ≡ out
  pub one : w ≡ 1 → after ≡ turned z s t p out

-- r says whether the record is good.
pub record Tested (sh : Shape) (x : Cells) (r : Bool) : Type 0 where
  pub yes_good : r ≡ true → Good sh x
  pub not_good : r ≡ false → Good sh x → ⊥
