-- `gap_of`: by whether the pivot is the vertical track.
use native.Mathlib.Omega.{arith}
use Rattle.code.specs.Sizes.{shape}
use Rattle.errors.proofs.Numbers.{data_seven, gap_far, gap_near}
use Rattle.errors.proofs.work.Work.gap_of.Goals as goal

pub returns-then-data_tracks-j : goal.returns-then-data_tracks-j
returns-then-data_tracks-j c =
    let a = c.args in
    gap_far (shape a.self.now.z) a.x.s a.x.t _ (omega (arith, c.pivot-j.ensures.track, c.data_tracks.ensures.is))

pub returns-else-data_tracks-j : goal.returns-else-data_tracks-j
returns-else-data_tracks-j c =
    let a = c.args in
    rw c.pivot-j.ensures.track (gap_near (shape a.self.now.z) a.x.s a.x.t _ (omega arith) (omega (arith, c.pivot-j.ensures.track, c.data_tracks.ensures.is)) (data_seven a.self.now.z a.x.s))
