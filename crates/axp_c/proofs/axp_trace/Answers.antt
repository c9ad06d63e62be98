-- An extra's number is a track number by what `trace` ensures.
use Rattle.code.specs.Reach.{cautious}
use Rattle.code.specs.Supply.{mend, trace}
use Rattle.code.proofs.Supply.{extras_numbered}
use Rattle.axp_c.proofs.axp_trace.Goals as goal

pub returns : goal.returns
returns c = rw (c.into.ensures (extras_numbered (mend (trace cautious) _ _ _ _) _ _ c.trace.ensures)) c.trace.ensures
