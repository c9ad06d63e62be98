-- `quotient_word`: the carry is added, and the first cells of the quotient count again.
use native.Mathlib.Omega.{arith}
use Rattle.words.proofs.Quotient.{fed_whole, fed_word}
use Rattle.words.proofs.quotient_word.Goals as goal

pub returns-then-n-ge64 : goal.returns-then-n-ge64
returns-then-n-ge64 c = fed_whole _ _ _ _ _ (omega arith) c.if-d-ge64.false c.divide_word-whole.ensures c.if-n-ge64.true

pub returns : goal.returns
returns c = fed_word _ _ _ _ _ (omega arith) c.if-d-ge64.false c.divide_word-whole.ensures _ c.first_cells.ensures
