-- `add_pivot`: a pivot without room has no errors.
use native.Mathlib.Omega.{arith}
use Rattle.mend.proofs.Additions.{no_room}
use Rattle.mend.proofs.Errors.add_pivot.Goals as goal

pub returns-else-pivot-ne0 : goal.returns-else-pivot-ne0
returns-else-pivot-ne0 c = let p = c.requires in no_room _ _ _ _ _ p.image (p.no_room (omega arith))
