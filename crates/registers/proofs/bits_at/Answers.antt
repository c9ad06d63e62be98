-- `bits_at` meets its contract: the last bits of the bytes, shifted.
use borrow.Author.Rules.{rules}
use Rattle.registers.proofs.Bytes.{bits_place}
use Rattle.registers.proofs.bits_at.Goals as goal

pub returns : goal.returns
returns c = bits_place _ _ _ _ _ c.words-x.ensures (search rules) c.places.ensures
