-- `flag_pair`: the loop's invariant is that the cells up to `at` are flagged.
use Rattle.std.proofs.Common.{◌≤◌, ◌-◌}
use Rattle.windows.specs.Steps.{StretchFlagged}
use Rattle.windows.proofs.flag_pair.Given as goal

abbrev pub invariant-loop-at : goal.invariant-loop-at
invariant-loop-at l = (l.from ≤ l.at) × (l.at ≤ l.to) × StretchFlagged l.l l.initial.words l.from l.at l.words

abbrev pub decreases-loop-at : goal.decreases-loop-at
decreases-loop-at l = l.to - l.at
