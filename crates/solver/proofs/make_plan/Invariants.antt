-- The invariant: i, j and k are the newest three marks below t.
use Prim.Native.Nat.{◌+◌}
use lib.ListN.{get_or}
use Rattle.solver.proofs.Plans.{Newest}
use Rattle.solver.proofs.make_plan.Given as goal

abbrev pub invariant-loop-t : goal.invariant-loop-t
invariant-loop-t g l = Newest (λ u. g.M.Mark.counts (get_or l.marks (l.first + u) g.M.Mark.none)) l.t l.i l.j l.k
