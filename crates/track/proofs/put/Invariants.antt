-- `put`: the first k bytes are written.
use Prim.Native.Nat.{◌/◌, ◌%◌, ◌^◌}
use Rattle.track.proofs.Cells.{Written}
use Rattle.track.proofs.put.Given as goal

abbrev pub invariant-loop-k : goal.invariant-loop-k
invariant-loop-k l = Written l.initial.track (λ k. l.x / 256 ^ k % 256) l.at l.k l.track
