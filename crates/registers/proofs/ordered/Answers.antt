-- `ordered` meets its contract: each place is one of the bytes.
use borrow.Author.Rules.{rules}
use Rattle.track.proofs.Words.{seven}
use Rattle.registers.proofs.ordered.Goals as goal

pub returns : goal.returns
returns c = record { first = seven _ (search rules) (search rules) (search rules) (search rules) (search rules) (search rules) (search rules); then = seven _ (search rules) (search rules) (search rules) (search rules) (search rules) (search rules) (search rules) }
