-- The set's diagonals are put, and then its verticals.
use Rattle.code.specs.Image.{cells}
use Rattle.code.specs.Sizes.{shape}
use Rattle.sums.proofs.Rows.{rules_put}
use Rattle.sums.proofs.put_set.Goals as goal

pub returns : goal.returns
returns c =
    let a = c.args in
    rules_put _ _ (shape a.z) (cells (shape a.z) a.image.now) a.m a.s _ _ _ _ _ c.requires.q_bound
    c.diagonal_run.ensures (rw c.row.ensures at c.put_run.ensures) c.vertical_run.ensures (rw c.row-2.ensures at c.put_run-2.ensures)
