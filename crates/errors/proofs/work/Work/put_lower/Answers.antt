-- `put_lower`: the word is put with no other cell changed.
use Rattle.errors.proofs.Lows.{lower_put}
use Rattle.errors.proofs.work.Work.put_lower.Goals as goal

pub returns : goal.returns
returns c =
    let a = c.args in
    let w = a.self.now in
    lower_put w.z w.end w.form w.rows.now a.found.now a.i _ _ _ c.lower_word-w.ensures
    (rw (c.rest.ensures, c.extent_of-most.ensures, c.track_length.ensures, c.requires.v_is) at c.first_cells.ensures) c.put_word.ensures
