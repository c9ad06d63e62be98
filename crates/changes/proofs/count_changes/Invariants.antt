-- `count_changes`: the loop's invariant is that `mask` and `cells` are those of the first g tracks.
use Rattle.changes.proofs.Tracks.{Counting}
use Rattle.changes.proofs.count_changes.Given as goal

abbrev pub invariant-loop-g : goal.invariant-loop-g
invariant-loop-g g l = Counting l.l l.image l.out l.g l.mask l.cells
