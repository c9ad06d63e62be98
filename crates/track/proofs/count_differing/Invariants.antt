-- `count_differing`: the first k blocks are counted.
use mathlib.Core.Path.{◌≡◌}
use Prim.Native.Nat.{◌≤◌, ◌*◌}
use Rattle.code.specs.Record.{sum}
use Rattle.track.proofs.Differing.{differs}
use Rattle.track.proofs.count_differing.Given as goal

abbrev pub invariant-loop-k : goal.invariant-loop-k
invariant-loop-k l = (l.count ≤ 224 * l.k) × (l.count ≡ sum (224 * l.k) (differs l.a l.b))
