-- `flag_run`: the loop's invariant is that the words before this one have the bit, and the rest stay.
use Rattle.std.proofs.Common.{bit_or, get_or}
use Rattle.track.proofs.Cells.{Written}
use Rattle.windows.proofs.flag_run.Given as goal

abbrev pub invariant-loop-word : goal.invariant-loop-word
invariant-loop-word l = Written l.initial.words (λ k. bit_or (get_or l.initial.words k 0) l.bit) 0 l.word-index l.words
