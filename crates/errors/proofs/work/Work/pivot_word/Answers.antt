-- `pivot_word`: the vertical's word and those of the errors in its set.
use mathlib.Core.Path.{sym, ap}
use Rattle.plans.specs.Plans.{below_count}
use Rattle.errors.proofs.Numbers.{one_track, two_tracks}
use Rattle.errors.proofs.Pivoting.{pivot_none, pivot_one, pivot_two}
use Rattle.errors.proofs.work.Work.pivot_word.Goals as goal

pub returns-in-None : goal.returns-in-None
returns-in-None c =
    let a = c.args in
    let w = a.self.now in
    pivot_none w.z w.end w.form w.rows.now a.found.now a.c a.i _ c.requires.i_bound (sym (rw c.row.ensures at c.word-w.ensures)) (ap below_count c.in-None.is)

pub returns-in-One : goal.returns-in-One
returns-in-One c =
    let a = c.args in
    let w = a.self.now in
    let one = one_track w.form c.in-One.v c.in-One.is in
    pivot_one w.z w.end w.form w.rows.now a.found.now a.c a.i _ c.requires.i_bound (sym (rw c.row.ensures at c.word-w.ensures)) one.0 _
    (rw (one.1, c.word.ensures) at c.taken.ensures)

pub returns-in-Two : goal.returns-in-Two
returns-in-Two c =
    let a = c.args in
    let w = a.self.now in
    let two = two_tracks w.form c.in-Two.v c.in-Two.u c.in-Two.is in
    pivot_two w.z w.end w.form w.rows.now a.found.now a.c a.i _ c.requires.i_bound (sym (rw c.row.ensures at c.word-w.ensures)) two.0 _ _
    (rw (two.1, c.word-in-Two.ensures) at c.taken-w.ensures) (rw (two.2, c.word-in-Two-2.ensures) at c.taken-in-Two.ensures)
