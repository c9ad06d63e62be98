-- The three cells one after the other.
use Rattle.solver.proofs.Stepping.{stepped_tail}
use Rattle.solver.proofs.tail_step.Goals as goal

pub returns : goal.returns
returns c =
    stepped_tail c.requires.closed_value c.requires.positions_le_m c.requires.m_bound c.by_tail.ensures c.by_tail-2.ensures c.by_tail-3.ensures
