-- `window`: a cell lies in the first word or in the second.
use native.Mathlib.Omega.{arith}
use Rattle.words.proofs.Shift.{window_cells}
use Rattle.words.proofs.window.Goals as goal

pub returns : goal.returns
returns c = window_cells _ _ (λ k. omega (arith, c.type_inv.ws k))
