use Rattle.sums.proofs.Rows.{rows_put}
use Rattle.sums.proofs.put_rows.Goals as goal

pub returns : goal.returns
returns c = rows_put _ _ _ _ _ _ _ c.requires.q_bound c.put_set.ensures c.put_set-2.ensures
