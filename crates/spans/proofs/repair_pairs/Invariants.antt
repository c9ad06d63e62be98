-- `repair_pairs`: the loop's invariant is that the first k pairs are spans.
use Rattle.spans.specs.Table.{SpansOf}
use Rattle.spans.proofs.repair_pairs.Given as goal

abbrev pub invariant-loop-k : goal.invariant-loop-k
invariant-loop-k l = SpansOf l.pairs l.k l.spans
