use mathlib.Core.Path.{refl}
use native.Mathlib.Omega.{arith}
use Rattle.files.proofs.Rules.{chained_more, chained_all}
use Rattle.files.proofs.is_right.Goals as goal

pub loop-i-preserved : goal.loop-i-preserved
loop-i-preserved c = chained_more _ _ _ c.loop-i.invariant _ c.in-Some.ensures

pub returns : goal.returns
returns c =
    let count = c.two.ensures in
    (λ e. chained_all _ _ _ c.loop-i.invariant (omega arith) (omega arith) (omega (arith, count)) (omega (arith, count)), λ f. refl)
