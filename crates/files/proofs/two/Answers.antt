use borrow.Author.Rules.{rules}
use Rattle.code.specs.Files.{number}
use Rattle.files.proofs.two.Goals as goal

pub returns : goal.returns
unfolding number
returns c = search rules
