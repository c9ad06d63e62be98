-- `swap_bits`: one exchange.
use Rattle.words.proofs.Swap.{swap_cells}
use Rattle.words.proofs.swap_bits.Goals as goal

pub returns : goal.returns
returns c = swap_cells _ _ _
