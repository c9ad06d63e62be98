-- The bit is added to the one sum, or to none where the row ends before it.
use mathlib.Core.Path.{refl}
use Rattle.syndrome.proofs.OneCell.{bit_row, past_row}
use Rattle.syndrome.proofs.add_sum.Goals as goal

pub returns-then-m-l : goal.returns-then-m-l
returns-then-m-l c =
    let h = c.requires in
    bit_row _ _ _ _ _ _ h.ready.rows h.ready.row_small _ _ h.w_bound c.if-m-l.true refl c.add_bit.ensures

pub returns-else-m-l : goal.returns-else-m-l
returns-else-m-l c =
    let h = c.requires.ready in
    past_row _ _ _ _ _ _ h.rows h.row_small c.if-m-l.false
