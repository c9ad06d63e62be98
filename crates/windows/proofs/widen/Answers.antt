use Rattle.std.proofs.Common.{arith}
use Rattle.windows.proofs.Widening.{widened}
use Rattle.windows.proofs.widen.Goals as goal

pub returns : goal.returns
returns c = widened _ _ _ _ (omega (arith, c.saturating_sub-m-end.ensures)) c.loop-m.invariant
