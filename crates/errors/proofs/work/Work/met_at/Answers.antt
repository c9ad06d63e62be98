-- `met_at`: the error on its track and on the pivot.
use native.Mathlib.Omega.{arith}
use Rattle.code.specs.Sizes.{shape}
use Rattle.errors.proofs.Charging.{met_at}
use Rattle.errors.proofs.work.Work.met_at.Goals as goal

pub returns : goal.returns
returns c =
    let a = c.args in
    let w = a.self.now in
    let e = c.delay.ensures in
    met_at a.found.now (shape w.z) w.end a.row a.d a.x.s a.x.t _ a.at _ _ _ (omega (arith, e.small c.requires.on_diagonals))
    (e.near c.requires.on_diagonals) (c.row_at-own.ensures _ (omega arith)) (rw (c.pivot.ensures.set, c.pivot.ensures.track) at c.charged.ensures)
