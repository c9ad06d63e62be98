-- `unload_word`: the first k columns of the transposed word are written.
use Prim.Native.Nat.{◌*◌}
use Rattle.track.proofs.Cells.{Written}
use Rattle.words.specs.Words.{bit}
use Rattle.words.proofs.unload_word.Given as goal

abbrev pub invariant-loop-k : goal.invariant-loop-k
invariant-loop-k l = Written l.initial.cells (bit l.w) l.at (8 * l.k) l.cells
