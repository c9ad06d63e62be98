-- `late`: the cells before `end` of the row, k positions later.
use mathlib.Core.Path.{refl}
use native.Mathlib.Omega.{arith}
use Rattle.forms.specs.Streams.{cut}
use Rattle.forms.proofs.Shifts.{cut_out}
use Rattle.errors.specs.Rows.{cell}
use Rattle.errors.proofs.Charging.{shown_none, shown_first, shown_later}
use Rattle.errors.proofs.late.Goals as goal

pub returns-then-end-from : goal.returns-then-end-from
returns-then-end-from c = record {
  near = λ l n b. let a = c.args in
      shown_later n (cut a.end (cell a.ws.now a.row)) a.at 0 a.k (c.requires.k_le_at l)
      (shown_none n _ _ (λ m g h. cut_out a.end _ m (omega arith)));
  far = λ l. refl;
}

pub returns : goal.returns
returns c = record {
  near = λ l n b. let a = c.args in
      shown_later n (cut a.end (cell a.ws.now a.row)) a.at _ a.k (c.requires.k_le_at l)
      (shown_first n _ _ a.end _ _ (c.row_at.ensures n b) c.first_cells.ensures);
  far = λ l. absurd (omega arith);
}
