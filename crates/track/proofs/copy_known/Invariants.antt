-- `copy_known`: the first i cells are the source's, known, and the rest stay.
use lib.ListN.{get_or}
use Rattle.track.specs.Track.{known_cell}
use Rattle.track.proofs.Cells.{Written}
use Rattle.track.proofs.copy_known.Given as goal

abbrev pub invariant-loop-i : goal.invariant-loop-i
invariant-loop-i l = Written l.initial.out (λ k. known_cell (get_or l.source k 0)) 0 l.i l.out
