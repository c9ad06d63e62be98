-- `pair_word`: what is left of both diagonals is the row of the pair's quotient, and the word before is in the pair's row.
use native.Mathlib.Omega.{arith}
use Rattle.errors.proofs.Numbers.{two_tracks, numbers}
use Rattle.errors.proofs.Lows.{pair_next}
use Rattle.errors.proofs.work.Work.pair_word.Goals as goal

pub overflow_sub-across : goal.overflow_sub-across
overflow_sub-across c =
    let w = c.args.self.now in
    let k = numbers w.z w.end w.form w.end_small w.sized c.args.v c.args.u c.requires.two _ c.other-o.ensures _ _ _
    c.point_of-ahead.ensures.value c.point_of-across.ensures.value c.point_of-along.ensures.value in
    omega (arith, k.later)

pub quotient_word-requires : goal.quotient_word-requires
quotient_word-requires c =
    let w = c.args.self.now in
    let k = numbers w.z w.end w.form w.end_small w.sized c.args.v c.args.u c.requires.two _ c.other-o.ensures _ _ _
    c.point_of-ahead.ensures.value c.point_of-across.ensures.value c.point_of-along.ensures.value in
    omega (arith, k.later)

pub returns : goal.returns
returns c =
    let a = c.args in
    let w = a.self.now in
    let v = (two_tracks w.form a.v a.u c.requires.two).1 in
    let k = numbers w.z w.end w.form w.end_small w.sized a.v a.u c.requires.two _ c.other-o.ensures _ _ _
    c.point_of-ahead.ensures.value c.point_of-across.ensures.value c.point_of-along.ensures.value in
    pair_next w.z w.end w.form w.rows.now a.found.now c.requires.errors a.v a.i _ _ _ _ _ _ (omega arith) k (omega arith)
    (rw (c.other-o.ensures, v) at c.left_at.ensures) (rw v at c.left_at-2.ensures)
    (rw (c.word_before-prior.ensures, v) at c.quotient_word.ensures)
