-- Where the track lies on the diagonal, its share is added, and else there is none.
use native.Mathlib.Omega.{arith}
use Rattle.code.specs.Sizes.{shape}
use Rattle.sums.proofs.Adding.{head_past, head_added}
use Rattle.sums.proofs.add_head.Goals as goal

pub returns-then-data_tracks-t : goal.returns-then-data_tracks-t
returns-then-data_tracks-t c =
    let a = c.args in head_past (shape a.z) a.image.now a.d a.s a.t _ _ (omega (arith, c.data_tracks.ensures.is)) c.requires.sums_of

pub returns : goal.returns
returns c =
    let a = c.args in
    let w = c.requires.within in
    head_added (shape a.z) a.image.now a.d a.s a.t a.m _ _ (omega (arith, c.data_tracks.ensures.is)) w.from w.is_image.bits
    c.requires.sums_of (rw c.slope.ensures at c.add_run.ensures)
