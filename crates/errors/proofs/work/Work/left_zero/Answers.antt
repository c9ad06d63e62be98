-- `left_zero`: a word is 0 if its cells are.
use native.Mathlib.Omega.{arith}
use Rattle.errors.proofs.Pivoting.{zero_told}
use Rattle.errors.proofs.work.Work.left_zero.Goals as goal

pub returns : goal.returns
returns c = zero_told _ _ _ _ c.first_cells.result _ (omega arith) c.left_at.ensures (omega arith) c.first_cells.ensures
