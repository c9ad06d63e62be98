-- `full_word`: the first k eights of cells are columns.
use Rattle.words.proofs.Load.{Rows}
use Rattle.words.proofs.full_word.Given as goal

abbrev pub invariant-loop-k : goal.invariant-loop-k
invariant-loop-k l = Rows l.stretch l.at l.k l.x
