-- After the track of A the sums are what the track of B is to be added to.
use borrow.Author.Rules.{rules}
use Rattle.sums.proofs.Adding.{both_added}
use Rattle.sums.proofs.add_heads.Goals as goal

pub returns : goal.returns
returns c = search (rules, both_added)
