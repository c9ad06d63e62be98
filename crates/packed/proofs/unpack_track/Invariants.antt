-- `unpack_track`: the loop's invariant is that the first j bytes are unpacked.
use Rattle.packed.proofs.Bytes.{Unpacking}
use Rattle.packed.proofs.unpack_track.Given as goal

abbrev pub invariant-loop-j : goal.invariant-loop-j
invariant-loop-j l = Unpacking l.bytes l.initial.stretch l.j l.stretch
