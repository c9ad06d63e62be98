-- `divide_word`: w times 1 + D^d is the word times 1 + D^s, and s doubles.
use Prim.Native.Nat.{◌<◌, ◌-◌}
use Rattle.words.proofs.Quotient.{Half}
use Rattle.words.proofs.divide_word.Given as goal

abbrev pub invariant-loop-s : goal.invariant-loop-s
invariant-loop-s l = (0 < l.s) × Half l.word l.d l.w l.s

abbrev pub decreases-loop-s : goal.decreases-loop-s
decreases-loop-s l = 64 - l.s
