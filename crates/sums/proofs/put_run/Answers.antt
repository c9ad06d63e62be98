-- 64 cells of the row are lent and put back.
use Rattle.sums.proofs.Rows.{run_put}
use Rattle.sums.proofs.put_run.Goals as goal

pub returns : goal.returns
returns c = let h = c.requires in rw c.copy_from_slice.ensures.after (run_put _ _ _ _ _ h.rows_len h.row_bound h.q_bound h.sums_len)
