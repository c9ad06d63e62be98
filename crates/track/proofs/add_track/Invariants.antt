-- `add_track`: k cells from `off` on have the track's first k added, and the rest stay.
use mathlib.Core.List.{List}
use Prim.Native.Nat.{ℕ, ◌+◌, ◌%◌}
use lib.ListN.{get_or}
use Rattle.track.proofs.Cells.{Written}
use Rattle.track.proofs.add_track.Given as goal

-- The sum that goes into cell k + off.
abbrev pub summed : List ℕ → List ℕ → ℕ → ℕ → ℕ
summed before track off k = (get_or before (k + off) 0 + get_or track k 0) % 2

abbrev pub invariant-loop-k : goal.invariant-loop-k
invariant-loop-k l = Written l.initial.acc (summed l.initial.acc l.track l.off) l.off l.k l.acc
