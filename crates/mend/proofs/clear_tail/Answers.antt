-- `clear_tail`: a tail that is 0 is left as it is, and another is cleared.
use native.Mathlib.Omega.{arith}
use Rattle.syndrome.proofs.Testing.{track_tested}
use Rattle.mend.proofs.OneTail.{tail_kept, tail_cleared}
use Rattle.mend.proofs.clear_tail.Goals as goal

pub returns-then-all_zero : goal.returns-then-all_zero
returns-then-all_zero c =
    let n = c.track_number.ensures in
    let p = c.requires in
    let a = c.args in
    tail_kept a.z a.s a.t a.out.now _ p.image
    (track_tested a.z a.s a.t a.out.now _ (omega (arith, p.image.size, rw n.is at n.in_image)) (rw (c.track_length-l.ensures, n.is) at c.all_zero.ensures)) c.if-all_zero.true

pub returns : goal.returns
returns c =
    let n = c.track_number.ensures in
    let e = c.track_length-l.ensures in
    let p = c.requires in
    let a = c.args in
    rw (e, n.is) (tail_cleared a.z a.s a.t a.out.now _ p.track p.image
    (track_tested a.z a.s a.t a.out.now _ (omega (arith, p.image.size, rw n.is at n.in_image)) (rw (e, n.is) at c.all_zero.ensures)) c.if-all_zero.false (rw n.is at n.in_image)
    _ (rw (e, n.is) at c.clear.ensures))
