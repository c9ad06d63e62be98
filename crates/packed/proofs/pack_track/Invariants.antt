-- `pack_track`: the loop's invariant is that the first j bytes are packed.
use Rattle.packed.proofs.Bytes.{Packing}
use Rattle.packed.proofs.pack_track.Given as goal

abbrev pub invariant-loop-j : goal.invariant-loop-j
invariant-loop-j l = Packing l.stretch l.initial.bytes l.j l.bytes
