-- `put_pivot`: the word is put, and the test compares it with its first cells.
use native.Mathlib.Omega.{arith}
use Rattle.errors.proofs.Pivoting.{pivot_put}
use Rattle.errors.proofs.work.Work.put_pivot.Goals as goal

pub returns : goal.returns
returns c =
    let a = c.args in
    let w = a.self.now in
    pivot_put w.z w.end w.form w.rows.now a.found.now _ a.c a.i _ _ _ _ c.first_cells-w.result c.first_cells.result
    c.pivot_word.ensures c.rest.ensures c.first_cells-w.ensures
    (rw c.row.ensures at c.put_word.ensures) c.pivot-most.ensures.room c.rest-2.ensures c.first_cells.ensures (omega arith) (omega arith)
