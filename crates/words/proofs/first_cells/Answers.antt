-- `first_cells`: all cells, none, or those that a shift to the top and back leaves.
use native.Mathlib.Omega.{arith}
use Rattle.words.proofs.Shift.{first_all, first_none, first_some}
use Rattle.words.proofs.first_cells.Goals as goal

pub returns-then-n-ge64 : goal.returns-then-n-ge64
returns-then-n-ge64 c = first_all _ _ (omega arith) c.if-n-ge64.true

pub returns-then-n-eq0 : goal.returns-then-n-eq0
returns-then-n-eq0 c = first_none _ _ c.if-n-eq0.true

pub returns : goal.returns
returns c = first_some _ _ c.if-n-ge64.false
