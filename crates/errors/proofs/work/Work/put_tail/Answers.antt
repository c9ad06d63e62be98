-- `put_tail`: where u is track 0, its word gets what is left of its own diagonal from `end` on.
use mathlib.Core.Path.{ap}
use native.Mathlib.Omega.{arith}
use Rattle.errors.proofs.Tails.{tail_put}
use Rattle.errors.proofs.work.Work.put_tail.Goals as goal

pub returns : goal.returns
returns c =
    let a = c.args in
    let w = a.self.now in
    let u = c.requires.u_is in
    tail_put w.z w.end w.form w.rows.now a.i a.found.now (rw u at c.requires.none) _ _ _ (omega (arith, ap (λ x. x.t) u)) (omega arith) (omega arith)
    (rw (← ap (λ x. x.s) u) c.residue_at-r.ensures) (rw c.rest.ensures at c.first_cells.ensures) (rw c.word.ensures at c.put_word.ensures)
