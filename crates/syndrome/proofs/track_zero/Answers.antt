-- The tail is a part of the track's stretch.
use native.Mathlib.Omega.{arith}
use Rattle.syndrome.proofs.Testing.{track_tested}
use Rattle.syndrome.proofs.track_zero.Goals as goal

pub returns : goal.returns
returns c =
    let l = c.track_length.ensures in
    let g = c.track_number.ensures in
    let a = c.args in
    track_tested a.z a.s a.t a.out.now _ (omega (arith, c.requires.image.size, rw g.is at g.in_image)) (rw (l, c.track_length-2.ensures, g.is) at c.all_zero.ensures)
