-- The track by the vertical, one position more.
use mathlib.Core.Path.{◌≡◌}
use native.Mathlib.Omega.{arith}
use Rattle.code.specs.Sizes.{shape}
use Rattle.code.proofs.Cell.{vertical_data}
use Rattle.solver.specs.declared.Rule.TheVariants.{Vertical}
use Rattle.solver.proofs.Settling.{settled_way, settled_found}
use Rattle.solver.proofs.Advancing.{ahead_none, ahead_more}
use Rattle.solver.proofs.verticals.Goals as goal

pub loop-p-init : goal.loop-p-init
loop-p-init c = ahead_none c.requires.kept

pub settle-requires-clause-kept : goal.settle-requires-clause-kept
settle-requires-clause-kept c = c.loop-p.invariant.kept

pub loop-p-preserved : goal.loop-p-preserved
loop-p-preserved c =
    let way = c.find_way-way.ensures in
    let old = c.loop-p.invariant in
    ahead_more (omega (arith, vertical_data (shape c.args.z))) old
    (settled_found way (settled_way old.kept Vertical c.find_way-way.result c.loop-p.p way.is (omega arith) c.settle.ensures))

pub returns : goal.returns
returns c = let e : c.loop-p.p ≡ c.args.to = omega arith in rw e at c.loop-p.invariant
