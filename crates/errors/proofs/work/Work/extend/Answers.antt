-- `extend`: with one or two tracks below the pivots; u's words before v's, and its tail after them.
use native.Mathlib.Omega.{arith}
use Rattle.errors.proofs.Words.{given}
use Rattle.errors.proofs.Numbers.{one_track, two_tracks}
use Rattle.errors.proofs.Lows.{extended_one, extended_two}
use Rattle.errors.proofs.work.Work.extend.Goals as goal

pub returns-in-One : goal.returns-in-One
returns-in-One c =
    let a = c.args in
    let w = a.self.now in
    extended_one w.z w.end w.form w.rows.now a.found.now a.i (given w a.found.now c.requires.errors) c.requires.computed_in _
    (one_track w.form c.in-One.v c.in-One.is).0 c.put_lower.ensures

pub returns-in-Two : goal.returns-in-Two
returns-in-Two c =
    let a = c.args in
    let w = a.self.now in
    extended_two w.z w.end w.form w.rows.now a.found.now a.i (given w a.found.now c.requires.errors) c.requires.computed_in _ _ _
    (omega (arith, (two_tracks w.form c.in-Two.v c.in-Two.u c.in-Two.is).0)) c.put_upper.ensures c.put_lower-in-Two.ensures c.put_tail.ensures
