-- The first b bytes of the column are written, and the rest is 0.
use lib.ListN.{length}
use Rattle.syndrome.specs.Steps.{cells_of}
use Rattle.codec.specs.Steps.{Filled}
use Rattle.codec.proofs.write_track.Given as goal

abbrev pub invariant-loop-b : goal.invariant-loop-b
invariant-loop-b l = Filled (length l.initial.stretch) l.b l.step l.first l.payload (cells_of l.stretch)
