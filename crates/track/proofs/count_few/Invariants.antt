-- `count_few`: those before i are counted, no more than i.
use mathlib.Core.Path.{◌≡◌}
use Prim.Native.Nat.{◌≤◌}
use lib.ListN.{get_or}
use Rattle.code.specs.Calls.{differ}
use Rattle.code.specs.Record.{sum}
use Rattle.track.proofs.count_few.Given as goal

abbrev pub invariant-loop-i : goal.invariant-loop-i
invariant-loop-i l = (l.count ≤ l.i) × (l.count ≡ sum l.i (λ m. differ (get_or l.a m 0) (get_or l.b m 0)))
