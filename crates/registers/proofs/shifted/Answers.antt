-- `shifted` meets its contract: a shift by a byte is one by a place.
use borrow.Author.Rules.{rules}
use Rattle.registers.proofs.Bytes.{shifted_place}
use Rattle.registers.proofs.shifted.Goals as goal

pub returns : goal.returns
returns c = shifted_place _ _ _ _ _ _ _ c.words-x.ensures c.words-u.ensures (search rules) c.places.ensures
