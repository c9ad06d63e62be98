-- The two passes, each over the data and the tail, and the test, one after the other.
use Rattle.stretches.proofs.Advancing.{solved}
use Rattle.stretches.proofs.solve.Goals as goal

pub returns : goal.returns
returns c =
    solved c.solve_part.ensures (rw c.track_length.ensures at c.solve_part-2.ensures) c.solve_part-3.ensures (rw c.track_length.ensures at c.solve_part-4.ensures) c.is_good.ensures
