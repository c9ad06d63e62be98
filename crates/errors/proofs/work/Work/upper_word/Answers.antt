-- `upper_word`: the pair's word is the row of the quotient, and the word before is in u's row.
use Rattle.errors.proofs.Lows.{upper_next}
use Rattle.errors.proofs.work.Work.upper_word.Goals as goal

pub returns : goal.returns
returns c =
    let a = c.args in
    let w = a.self.now in
    upper_next w.z w.form a.found.now c.requires.errors a.i a.pair _ _ c.requires.i_bound
    (rw c.requires.u_is at c.gap_of.ensures) (rw c.word_before-prior.ensures at c.quotient_word.ensures)
