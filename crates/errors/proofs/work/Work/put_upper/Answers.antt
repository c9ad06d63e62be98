-- `put_upper`: the cells before the word stay as they were computed.
use native.Mathlib.Omega.{arith}
use Rattle.errors.proofs.Numbers.{two_tracks}
use Rattle.errors.proofs.Lows.{upper_put}
use Rattle.errors.proofs.work.Work.put_upper.Goals as goal

pub returns : goal.returns
returns c =
    let a = c.args in
    let w = a.self.now in
    let two = two_tracks w.form a.v a.u c.requires.two in
    upper_put w.z w.end w.form w.rows.now a.found.now a.i _ _ _ _ _ w.end_small (omega (arith, two.0)) c.requires.computed_in
    c.pair_word-pair.ensures c.put_word.ensures c.upper_word-w.ensures
    (rw (c.rest.ensures, c.extent_of-most.ensures, two.2) at c.first_cells.ensures) c.put_word-2.ensures
