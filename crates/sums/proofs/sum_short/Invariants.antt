-- The first r rows are copied.
use Rattle.sums.proofs.Short.{RowsCopied}
use Rattle.sums.proofs.sum_short.Given as goal

abbrev pub invariant-loop-r : goal.invariant-loop-r
invariant-loop-r l = RowsCopied l.l l.r l.rows l.syn
