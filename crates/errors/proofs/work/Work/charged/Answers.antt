-- `charged`: the row at the track's delay.
use native.Mathlib.Omega.{arith}
use Rattle.code.specs.Sizes.{shape}
use Rattle.errors.proofs.Charging.{charged_at}
use Rattle.errors.proofs.work.Work.charged.Goals as goal

pub returns : goal.returns
returns c =
    let a = c.args in
    charged_at a.ws.now (shape a.self.now.z) a.row a.self.now.end a.d a.x.s a.x.t a.at _ _ (omega arith) (omega arith) c.delay.ensures c.late.ensures
