-- `is_right`: the loop's invariant is that the pairs before this one are right, and `end` is the end of the last of them.
use Rattle.code.specs.Spans.{table_of}
use Rattle.windows.proofs.Tables.{Right}
use Rattle.windows.proofs.is_right.Given as goal

abbrev pub invariant-loop-span : goal.invariant-loop-span
invariant-loop-span l = Right l.cells (table_of l.spans) l.span-index l.end
