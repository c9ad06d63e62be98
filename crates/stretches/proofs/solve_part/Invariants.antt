-- The invariant: what the pass makes right is right from the part's beginning up to m. The measure is what is left.
use Prim.Native.Nat.{◌-◌, ◌≤◌}
use Rattle.code.specs.Sizes.{shape}
use Rattle.flags.specs.Words.{word_cells}
use Rattle.stretches.specs.Steps.{Passed}
use Rattle.stretches.proofs.solve_part.Given as goal

abbrev pub invariant-loop-m : goal.invariant-loop-m
invariant-loop-m g l =
    (l.part.from ≤ l.m)
    × (l.m ≤ l.part.to)
    × Passed (g.P.Pass.ones (shape l.part.z)) (g.P.Pass.all (shape l.part.z)) l.part.z (word_cells (shape l.part.z) l.words) l.part.from l.m l.initial.out l.out l.syn

abbrev pub decreases-loop-m : goal.decreases-loop-m
decreases-loop-m g l = l.part.to - l.m
