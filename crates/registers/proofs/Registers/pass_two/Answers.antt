-- `pass_two` meets its contract: two positions pass.
use Rattle.registers.proofs.Tracks.{two_passed, two_held}
use Rattle.registers.proofs.Registers.pass_two.Goals as goal

pub returns : goal.returns
returns c =
    let a = c.requires in
    let first = c.pass in
    record {
      passed = two_passed _ _ _ _ _ _ _ _ _ _ _ _ a.m_in_bounds a.m_in_bounds_2 a.k_bound first.auto.a first.auto.b first.ensures c.pass-2.ensures;
      held = two_held _ _ _ _ _ _ _ _ _ _ _ _ a.m_in_bounds a.m_in_bounds_2 a.k_bound first.auto.a first.auto.b first.ensures c.pass-2.ensures;
    }
