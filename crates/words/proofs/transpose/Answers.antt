-- `transpose`: three exchanges.
use Rattle.words.proofs.Swap.{transposed}
use Rattle.words.proofs.transpose.Goals as goal

pub returns : goal.returns
returns c = transposed _ _ _ _ c.swap_bits-pairs.ensures c.swap_bits-fours.ensures c.swap_bits.ensures
