-- An extra's number is a track number by what `trace_within` ensures.
use Rattle.code.specs.Reach.{within}
use Rattle.code.specs.Supply.{mend, trace}
use Rattle.code.proofs.Supply.{extras_numbered}
use Rattle.axp_c.proofs.axp_trace_within.Goals as goal

pub returns : goal.returns
returns c = rw (c.into.ensures (extras_numbered (mend (trace (within _)) _ _ _ _) _ _ c.trace_within.ensures)) c.trace_within.ensures
