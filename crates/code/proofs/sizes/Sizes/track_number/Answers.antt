use Rattle.std.proofs.Common.{arith}
use Rattle.code.specs.Record.{track_length}
use Rattle.code.specs.Sizes.{shape}
use Rattle.code.proofs.Places.{number_lt, row_end}
use Rattle.code.proofs.sizes.Sizes.track_number.Goals as goal

pub returns-in-A-clause-in_image : goal.returns-in-A-clause-in_image
returns-in-A-clause-in_image c =
    let a = c.args in row_end (track_length (shape a.self)) _ _ (rw c.in-A.is at (number_lt (shape a.self) a.s a.t c.requires))

pub returns-in-B-clause-in_image : goal.returns-in-B-clause-in_image
returns-in-B-clause-in_image c =
    let a = c.args in
    let h = rw c.in-B.is at (number_lt (shape a.self) a.s a.t c.requires) in row_end (track_length (shape a.self)) _ _ (omega (arith, h))
