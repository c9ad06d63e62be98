-- `flag_pairs`: the loop's invariant is that the cells of the pairs before this one are flagged.
use Rattle.code.specs.Spans.{table_of}
use Rattle.windows.proofs.Tables.{PairsFlagged}
use Rattle.windows.proofs.flag_pairs.Given as goal

abbrev pub invariant-loop-span : goal.invariant-loop-span
invariant-loop-span l = PairsFlagged l.l (table_of l.spans) l.span-index l.words
