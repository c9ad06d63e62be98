-- The first b bytes of the column are read, and all other bytes stay.
use Rattle.syndrome.specs.Steps.{cells_of}
use Rattle.codec.specs.Steps.{ColumnRead}
use Rattle.codec.proofs.read_track.Given as goal

abbrev pub invariant-loop-b : goal.invariant-loop-b
invariant-loop-b l = ColumnRead l.b l.step l.first (cells_of l.stretch) l.initial.out l.out
