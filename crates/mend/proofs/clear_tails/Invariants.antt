-- `clear_tails`: the tails of the tracks before t are cleared, and what is needed for them is known.
use Rattle.code.specs.Sizes.{shape}
use Rattle.solver.specs.Solver.{marked_by}
use Rattle.mend.proofs.Tails.{Clearing}
use Rattle.mend.proofs.clear_tails.Given as goal

abbrev pub invariant-loop-t : goal.invariant-loop-t
invariant-loop-t g l = Clearing l.z l.s (marked_by g.M.Mark.counts g.M.Mark.none (shape l.z) l.marks) l.t l.initial.out l.out l.need
