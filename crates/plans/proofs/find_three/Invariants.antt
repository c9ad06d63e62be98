-- The invariant: x has the marked tracks below t.
use Rattle.code.specs.Sizes.{shape}
use Rattle.solver.specs.Solver.{marked_by}
use Rattle.plans.specs.Plans.{ThreeOf}
use Rattle.plans.proofs.Finding.{below}
use Rattle.plans.proofs.find_three.Given as goal

abbrev pub invariant-loop-t : goal.invariant-loop-t
invariant-loop-t g l = ThreeOf (shape l.fn.z) (below l.t (marked_by g.M.Mark.counts g.M.Mark.none (shape l.fn.z) l.marks)) l.fn.s l.x
