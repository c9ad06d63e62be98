use Rattle.words.proofs.Write.{word_more}
use Rattle.words.proofs.unload.Goals as goal

pub loop-i-preserved : goal.loop-i-preserved
loop-i-preserved c = word_more _ _ _ _ _ c.loop-i.invariant c.unload_word.ensures
