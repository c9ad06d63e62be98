-- `delay`: the slope of a track, and a word where there is none.
use native.Mathlib.Omega.{arith}
use Rattle.code.specs.Sizes.{shape}
use Rattle.errors.proofs.Numbers.{delay_is}
use Rattle.errors.proofs.delay.Goals as goal

pub returns : goal.returns
returns c = let a = c.args in rw c.slope.ensures (delay_is (shape a.z) a.d a.x.s a.x.t (omega arith))
