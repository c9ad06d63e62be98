-- What the steps of repair with flags by stretch ask and give.
use Rattle.std.specs.Prelude.{◌≡◌, true, List, [], ◌∷◌, ℕ, ◌<◌, length}
use Rattle.code.specs.declared.sizes.TrackSet.{TrackSet}
use Rattle.code.specs.Record.{Shape, tracks, track_length}
use Rattle.code.specs.Image.{image_size, cells}
use Rattle.code.specs.Flags.{CellFlags, AgreeOff}
use Rattle.code.specs.Spans.{Table, span_flags, Broken}
use Rattle.code.specs.Numbers.{window_check}
use Rattle.code.specs.Calls.{Result, Answered, Repairs}
use Rattle.code.specs.Sizes.{shape}
use Rattle.code.specs.declared.sizes.Sizes.{Sizes}
use Rattle.track.proofs.Lost.{LostCovered}
use Rattle.flags.specs.Marks.{ReadImage}
use Rattle.flags.specs.Words.{word_cells, Windows}

-- An image with a table of pairs that is not broken. Stretches keep the closed tail.
pub record Tabled (z : Sizes) (table : Table) (image : List ℕ) : Type 0 where
  pub closed : z.closed ≡ true
  pub sound : Broken (image_size (shape z)) table → ⊥
  pub image_is : ReadImage (shape z) image

-- The words flag the cells of the table and the lost ones.
pub record CellsFlagged (sh : Shape) (table : Table) (image words : List ℕ) : Type 0 where
  pub size : length words ≡ track_length sh
  pub flags : (s : TrackSet) (t m : ℕ) → t < tracks sh s → m < track_length sh → word_cells sh words s t m ≡ span_flags sh table image s t m

-- An image, an output of its size, and flagged cells with their windows, the lost ones among them.
pub record Given (z : Sizes) (words near image out : List ℕ) : Type 0 where
  pub closed : z.closed ≡ true
  pub image_is : ReadImage (shape z) image
  pub covered : LostCovered (shape z) (word_cells (shape z) words) image
  pub windows : Windows (shape z) words near
  pub out_has : length out ≡ image_size (shape z)

-- An image and an output that differ in flagged cells at the most.
pub record OnlyFlagged (z : Sizes) (words image out : List ℕ) : Type 0 where
  pub image_has : length image ≡ image_size (shape z)
  pub out_has : length out ≡ image_size (shape z)
  pub agree : AgreeOff (shape z) (word_cells (shape z) words) (cells (shape z) image) (cells (shape z) out)

-- Past the table's checks: 6, or the repair of the flagged cells.
abbrev pub CellsRepaired : Shape → CellFlags → List ℕ → List ℕ → Result → List ℕ → Type 0
CellsRepaired sh flag image before = Answered (window_check sh flag ∷ []) (Repairs sh flag image before) before
