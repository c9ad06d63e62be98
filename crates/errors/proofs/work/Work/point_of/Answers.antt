-- `point_of`: by the sets, and by whether the pivot is the vertical track.
use mathlib.Core.Path.{◌≡◌}
use Prim.Native.Nat.{◌<◌, ◌≤◌}
use native.Mathlib.Omega.{arith}
use Rattle.std.proofs.Common.{rules, tests}
use Rattle.code.specs.Record.{data_tracks}
use Rattle.code.specs.Sizes.{shape}
use Rattle.plans.specs.Plans.{pivot}
use Rattle.errors.proofs.Numbers.{point_same, point_other, top_track, top_pivot}
use Rattle.errors.proofs.work.Work.point_of.Goals as goal

pub returns-then-eq-clause-value : goal.returns-then-eq-clause-value
returns-then-eq-clause-value c =
    let a = c.args in
    let same : a.x.s ≡ a.d = search (rules, tests) in
    point_same (shape a.self.now.z) a.d a.x.s a.x.t _ same

pub returns-then-data_tracks-j-clause-value : goal.returns-then-data_tracks-j-clause-value
returns-then-data_tracks-j-clause-value c =
    let a = c.args in
    let sh = shape a.self.now.z in
    let j = pivot a.self.now.form a.x.s in
    let apart : a.x.s ≡ a.d → ⊥ = search (rules, tests) in
    let far : data_tracks sh a.x.s < j = omega (arith, c.pivot-j.ensures.track, c.data_tracks.ensures.is) in
    omega (arith, point_other sh a.d a.x.s a.x.t j apart, top_track sh a.x.s a.x.t j far)

pub returns-else-data_tracks-j-clause-value : goal.returns-else-data_tracks-j-clause-value
returns-else-data_tracks-j-clause-value c =
    let a = c.args in
    let sh = shape a.self.now.z in
    let j = pivot a.self.now.form a.x.s in
    let apart : a.x.s ≡ a.d → ⊥ = search (rules, tests) in
    let near : j ≤ data_tracks sh a.x.s = omega (arith, c.pivot-j.ensures.track, c.data_tracks.ensures.is) in
    omega (arith, c.pivot-j.ensures.track, point_other sh a.d a.x.s a.x.t j apart, top_pivot sh a.x.s a.x.t j near)
