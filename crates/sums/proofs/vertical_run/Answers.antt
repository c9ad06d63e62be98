use mathlib.Core.Path.{◌≡◌}
use native.Mathlib.Omega.{arith}
use Rattle.code.specs.Record.{tracks}
use Rattle.code.specs.Sizes.{shape}
use Rattle.sums.proofs.Adding.{no_tracks, track_more, all_tracks_in}
use Rattle.sums.proofs.vertical_run.Goals as goal

pub loop-t-init : goal.loop-t-init
loop-t-init c = let a = c.args in no_tracks (shape a.z) a.image.now a.s _

pub loop-t-preserved : goal.loop-t-preserved
loop-t-preserved c =
    let a = c.args in track_more (shape a.z) a.image.now a.s _ a.m _ _ c.requires.within.is_image.bits c.loop-t.invariant c.add_run-run.ensures

pub returns : goal.returns
returns c =
    let a = c.args in
    let all : c.loop-t.t ≡ tracks (shape a.z) a.s = omega (arith, c.tracks-count.ensures) in
    all_tracks_in (shape a.z) a.image.now a.s _ _ (rw all at c.loop-t.invariant)
