use borrow.Author.Rules.{rules}
use Rattle.words.proofs.Write.{eight_more}
use Rattle.words.proofs.unload_word.Goals as goal

pub loop-k-preserved : goal.loop-k-preserved
loop-k-preserved c =
    let put = c.put.ensures in
    eight_more _ _ _ _ _ _ _ c.loop-k.invariant (search rules) c.transpose-t.ensures put.size put.cells put.early put.later
