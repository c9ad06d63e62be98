-- The number and the one before have no bit in common.
use Rattle.stretches.proofs.Bits.{one_bit}
use Rattle.stretches.proofs.few_bits.Goals as goal

pub returns-else-x-eq0 : goal.returns-else-x-eq0
returns-else-x-eq0 c = one_bit c.args.x
