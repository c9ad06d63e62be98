-- `flag_lost_cells`: the loop's invariant is that the first m words have the bit where the cell is lost, and the rest stay.
use Rattle.std.proofs.Common.{bit_or, get_or}
use Rattle.code.specs.Lost.{is_lost}
use Rattle.code.specs.Reach.{pick}
use Rattle.track.proofs.Cells.{Written}
use Rattle.windows.proofs.flag_lost_cells.Given as goal

abbrev pub invariant-loop-m : goal.invariant-loop-m
invariant-loop-m l = Written l.initial.words (λ k. bit_or (get_or l.initial.words k 0) (pick (is_lost (get_or l.track k 0)) l.bit 0)) 0 l.m l.words
