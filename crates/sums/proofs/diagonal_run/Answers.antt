use native.Mathlib.Omega.{arith}
use Rattle.code.specs.Sizes.{shape}
use Rattle.sums.proofs.Adding.{none_arrived, all_arrived}
use Rattle.sums.proofs.diagonal_run.Goals as goal

pub loop-t-init : goal.loop-t-init
loop-t-init c = let a = c.args in none_arrived (shape a.z) a.image.now a.d _

pub returns : goal.returns
returns c =
    let a = c.args in
    let most = c.max-count.ensures in
    all_arrived (shape a.z) a.image.now a.d _ _ _ (omega (arith, most)) (omega (arith, most)) c.loop-t.invariant
