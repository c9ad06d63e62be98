-- The sizes that code takes, and the shape that they describe.
use Rattle.std.specs.Prelude.{Bool, true, false, ◌≤◌}
use Rattle.code.specs.Record.{Closing, closed_tail, open_tail, Shape}
use Rattle.code.specs.declared.sizes.Sizes.{Sizes}

abbrev pub closing_of : Bool → Closing
closing_of true = closed_tail
closing_of false = open_tail

abbrev pub shape : Sizes → Shape
shape z = record { t1 = z.t1; t2 = z.t2; positions = z.positions; closing = closing_of z.closed }

-- The sizes of document 01 are the largest: 7 data tracks a set and 256 blocks.
pub record Small (z : Sizes) : Type 0 where
  pub t1_small : z.t1 ≤ 7
  pub t2_small : z.t2 ≤ 7
  pub positions_small : z.positions ≤ 2048

-- So are those of all code.
pub small : (z : Sizes) → Small z
small z = record { t1_small = z.t1_small; t2_small = z.t2_small; positions_small = z.positions_small }
