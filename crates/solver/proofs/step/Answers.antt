-- The three cells one after the other, each by its rule.
use Rattle.solver.specs.declared.Rule.TheVariants.{Own, Other, Vertical}
use Rattle.solver.proofs.Settling.{settled_way}
use Rattle.solver.proofs.Stepping.{stepped_data}
use Rattle.solver.proofs.step.Goals as goal

pub returns : goal.returns
returns c =
    let a = c.args in
    let h = c.requires in
    let b = h.m_lt_positions in
    stepped_data b (settled_way h.kept Own a.ways.low a.m h.ways_of.low b c.settle.ensures)
    (settled_way c.settle.ensures.kept Other a.ways.high a.m h.ways_of.high b c.settle-2.ensures)
    (settled_way c.settle-2.ensures.kept Vertical a.ways.last a.m h.ways_of.last b c.settle-3.ensures)
