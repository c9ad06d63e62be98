-- `left_at`: the diagonal and what is charged of both verticals.
use native.Mathlib.Omega.{arith}
use Rattle.code.specs.Record.{track_length}
use Rattle.code.specs.Sizes.{shape}
use Rattle.errors.proofs.Charging.{charged_as, left_at}
use Rattle.errors.proofs.work.Work.left_at.Goals as goal

pub returns : goal.returns
returns c =
    let a = c.args in
    let w = a.self.now in
    left_at w.rows.now (shape w.z) w.end w.form a.d a.at _ _ _ (rw c.row.ensures at (c.row_at.ensures (track_length (shape w.z)) (omega arith)))
    (charged_as _ _ _ _ _ _ c.pivot-a.result.s _ c.pivot-a.result.t _ c.pivot-a.ensures.set c.pivot-a.ensures.track c.charged.ensures)
    (charged_as _ _ _ _ _ _ c.pivot-b.result.s _ c.pivot-b.result.t _ c.pivot-b.ensures.set c.pivot-b.ensures.track c.charged-2.ensures)
