-- `places` meets its contract: each place is a byte of a word.
use Rattle.registers.specs.Places.{byte}
use Rattle.track.proofs.Words.{seven, eight}
use borrow.Author.Rules.{rules}
use Rattle.registers.proofs.places.Goals as goal

pub returns : goal.returns
unfolding byte
returns c = record {
  low = eight _ (search rules) (search rules) (search rules) (search rules) (search rules) (search rules) (search rules) (search rules);
  high = seven _ (search rules) (search rules) (search rules) (search rules) (search rules) (search rules) (search rules);
}
