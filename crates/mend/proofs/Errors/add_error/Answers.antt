-- `add_error`: the row is added at the track's number.
use Rattle.mend.proofs.Additions.{error_added}
use Rattle.mend.proofs.Errors.add_error.Goals as goal

pub returns : goal.returns
returns c =
    let p = c.requires in
    let e = c.track_length-l.ensures in
    let n = c.track_number-g.ensures in
    error_added _ _ _ _ _ _ p.track n.is p.image (rw e at c.add_row.ensures)
