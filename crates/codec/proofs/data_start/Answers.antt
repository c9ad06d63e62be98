-- The column is one of A's or one of B's.
use mathlib.Core.Path.{sym, ◌∙◌}
use Rattle.codec.proofs.Columns.{number_low, number_high, starts}
use Rattle.codec.proofs.data_start.Goals as goal
use Rattle.codec.proofs.data_start.Goals.{then-p-z, else-p-z}

pub returns : goal.returns
returns c = starts _ _ c.if-p-z.number _ c.requires (rw c.track_length.ensures) (elim c.if-p-z.branch [
  | then-p-z w ↦ w.number-is ∙ sym (number_low _ _ w.if-p-z.true)
  | else-p-z w ↦ w.number-is ∙ sym (number_high _ _ w.if-p-z.false)
])
