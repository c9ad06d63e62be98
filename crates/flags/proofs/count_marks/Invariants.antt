-- `count_marks`: the first t marks are counted.
use Rattle.std.proofs.Common.{◌≡◌, take, count_by}
use Rattle.flags.proofs.count_marks.Given as goal

abbrev pub invariant-loop-t : goal.invariant-loop-t
invariant-loop-t g l = l.count ≡ count_by g.M.Mark.counts (take l.t l.marks)
