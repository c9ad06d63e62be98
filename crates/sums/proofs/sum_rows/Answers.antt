use Rattle.sums.proofs.Delay.{run_sums}
use Rattle.sums.proofs.sum_rows.Goals as goal

pub returns : goal.returns
returns c = run_sums _ _ _ _ _ c.requires.rows_len c.put_sums.ensures
