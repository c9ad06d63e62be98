-- `is_right`: the first i entries follow the rules, and `end` is where the next may begin.
use Rattle.files.specs.Steps.{Chained}
use Rattle.files.proofs.is_right.Given as goal

abbrev pub invariant-loop-i : goal.invariant-loop-i
invariant-loop-i l = Chained l.file l.i l.end
