-- `put_word`: one word of a row is set.
use Rattle.errors.proofs.Cells.{put_set}
use Rattle.errors.proofs.put_word.Goals as goal

pub returns : goal.returns
returns c = let a = c.args in put_set 5 a.found.now a.row a.i a.w c.requires.rows c.requires.row_bound c.requires.i_bound
