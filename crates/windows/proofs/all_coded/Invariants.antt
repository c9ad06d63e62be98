-- `all_coded`: the loop's invariant is that the last word looked up and the words before this one have a code.
use Rattle.std.proofs.Common.{ℕ, ◌<◌, get_or}
use Rattle.code.specs.Sizes.{shape}
use Rattle.windows.proofs.Coding.{Coded}
use Rattle.windows.proofs.all_coded.Given as goal

abbrev pub invariant-loop-word : goal.invariant-loop-word
invariant-loop-word l = Coded (shape l.z) l.last × ((k : ℕ) → k < l.word-index → Coded (shape l.z) (get_or l.near k 0))
