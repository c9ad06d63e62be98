-- `step` meets its contract: each register is shifted, with its cells added.
use borrow.Author.Rules.{rules}
use Rattle.registers.proofs.Passing.{stepped}
use Rattle.registers.proofs.Registers.step.Goals as goal

pub returns : goal.returns
returns c = stepped _ _ _ _ (search rules) (search rules) c.shifted-a.ensures c.shifted-b.ensures
