-- An extra's number is a track number by what `repair` ensures.
use Rattle.code.specs.Supply.{mend, repair}
use Rattle.code.proofs.Supply.{extras_numbered}
use Rattle.axp_c.proofs.axp_repair.Goals as goal

pub returns : goal.returns
returns c = rw (c.into.ensures (extras_numbered (mend repair _ _ _ _) _ _ c.repair.ensures)) c.repair.ensures
