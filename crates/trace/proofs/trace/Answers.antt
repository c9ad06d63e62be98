-- `trace`: with code 4 for 5 tracing is tracing with the ceiling 1.
use Rattle.code.proofs.Ceilings.{ceilings}
use Rattle.trace.proofs.trace.Goals as goal

pub returns : goal.returns
returns c = ((ceilings _ _ _ _).at_1 _ _).0 c.trace_within.ensures
