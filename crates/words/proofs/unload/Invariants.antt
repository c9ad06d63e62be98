-- `unload`: the first words are written.
use Prim.Native.Nat.{◌*◌}
use Rattle.track.proofs.Cells.{Written}
use Rattle.words.specs.Words.{bit_at}
use Rattle.words.proofs.unload.Given as goal

abbrev pub invariant-loop-i : goal.invariant-loop-i
invariant-loop-i l = Written l.initial.cells (bit_at l.words) 0 (64 * l.i) l.cells
