-- `last_byte`: the cells, and 0 behind them, are eight.
use mathlib.Core.Path.{◌∙◌}
use native.Mathlib.Nat.{zero-add}
use Rattle.code.proofs.Digits.{digits_same}
use Rattle.packed.proofs.Bytes.{few_at}
use Rattle.packed.proofs.last_byte.Goals as goal

pub returns : goal.returns
returns c = c.pack.ensures ∙ digits_same 8 _ _ (λ k h. rw (zero-add, c.copy_from_slice.ensures.after) (few_at c.args.cells.now k))
