-- An extra's number is a track number by what `repair_spans` ensures.
use Rattle.code.specs.Supply.{mend_spans}
use Rattle.code.proofs.Supply.{extras_numbered}
use Rattle.axp_c.proofs.axp_repair_spans.Goals as goal

pub returns : goal.returns
returns c = rw (c.into.ensures (extras_numbered (mend_spans _ _ _ _) _ _ c.repair_spans.ensures)) c.repair_spans.ensures
