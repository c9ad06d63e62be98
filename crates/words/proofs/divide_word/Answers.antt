use borrow.Author.Rules.{rules}
use Rattle.words.proofs.Quotient.{half_more, half_whole}
use Rattle.words.proofs.divide_word.Goals as goal

pub loop-s-preserved : goal.loop-s-preserved
loop-s-preserved c = (search rules, half_more _ _ _ _ c.loop-s.invariant.1)

pub returns : goal.returns
returns c = half_whole _ _ _ _ c.loop-s.invariant.1 (search rules)
