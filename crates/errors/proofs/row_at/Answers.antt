-- `row_at`: the window of a row.
use Rattle.errors.proofs.Charging.{shown_row}
use Rattle.errors.proofs.row_at.Goals as goal

pub returns : goal.returns
returns c = let a = c.args in shown_row a.ws.now a.row a.at _ c.requires.row_value c.window.ensures
