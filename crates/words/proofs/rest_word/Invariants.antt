-- `rest_word`: the first k cells are gathered.
use Rattle.words.proofs.Load.{Gathered}
use Rattle.words.proofs.rest_word.Given as goal

abbrev pub invariant-loop-k : goal.invariant-loop-k
invariant-loop-k l = Gathered l.stretch l.at l.k l.w
