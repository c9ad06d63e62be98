-- What solving by flagged cells asks and gives.
use Rattle.std.specs.Prelude.{◌≡◌, Bool, true, false, List, ℕ}
use Rattle.code.specs.Record.{Cells, Good}
use Rattle.code.specs.Image.{cells}
use Rattle.code.specs.Flags.{CellFlags, AgreeOff}
use Rattle.code.specs.Sizes.{shape}
use Rattle.code.specs.declared.sizes.Sizes.{Sizes}
use Rattle.syndrome.specs.Syndrome.{Kept}

-- What `solve` gives: true with a good record, or false and there is none. Only flagged cells are changed.
pub record Solved (z : Sizes) (flag : CellFlags) (out after syn : List ℕ) (r : Bool) : Type 0 where
  pub kept : Kept z after syn
  pub only : AgreeOff (shape z) flag (cells (shape z) out) (cells (shape z) after)
  pub good : r ≡ true → Good (shape z) (cells (shape z) after)
  pub none : r ≡ false → (y : Cells) → Good (shape z) y → AgreeOff (shape z) flag (cells (shape z) out) y → ⊥
