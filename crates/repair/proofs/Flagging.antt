-- Flags that say the same of a record's tracks.
use mathlib.Core.Path.{◌∙◌}
use Rattle.code.specs.Record.{Shape, Cells}
use Rattle.code.specs.Flags.{TrackFlags, whole, AgreeOff}
use Rattle.code.proofs.Same.{SameFlags}

module _ (sh : Shape) (f g : TrackFlags) (same : SameFlags sh f g) where
  -- The same records agree off them.
  pub agree_same : (x y : Cells) → AgreeOff sh (whole f) x y → AgreeOff sh (whole g) x y
  agree_same x y a = record { cell = λ s t m l b e. a.cell s t m l b (same s t l ∙ e) }
