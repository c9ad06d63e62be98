-- `diagonal_zero`: it is implied, or a word is 0 if its cells are.
use native.Mathlib.Omega.{arith}
use Rattle.errors.proofs.Words.{given}
use Rattle.errors.proofs.Pivoting.{zero_told, diagonal_implied}
use Rattle.errors.proofs.work.Work.diagonal_zero.Goals as goal

pub returns-then-is_implied : goal.returns-then-is_implied
returns-then-is_implied c =
    let a = c.args in
    let w = a.self.now in
    diagonal_implied w.z w.end w.form w.rows.now a.found.now (given w a.found.now c.requires.errors) a.d a.i _ c.if-is_implied.true c.is_implied.ensures c.requires.computed_in

pub returns : goal.returns
returns c = zero_told _ _ _ _ c.first_cells.result _ (omega arith) c.residue_at.ensures (omega arith) c.first_cells.ensures
