-- A set and the other one.
use mathlib.Core.Path.{◌≡◌, refl}
use Prim.Native.Nat.{◌+◌}
use Rattle.code.specs.Record.{other, row_of}
use Rattle.code.specs.declared.sizes.TrackSet.{TrackSet}
use Rattle.code.specs.declared.sizes.TrackSet.TheVariants.{A, B}

-- Rows 0 and 1 are theirs.
pub two_rows : (s : TrackSet) → row_of s + row_of (other s) ≡ 1
two_rows A = refl
two_rows B = refl

-- What holds of a set and of the other one holds of both.
pub both_sets : (P : TrackSet → Type 0) (s : TrackSet) → P s → P (other s) → (d : TrackSet) → P d
both_sets P A a b A = a
both_sets P A a b B = b
both_sets P B a b A = b
both_sets P B a b B = a
