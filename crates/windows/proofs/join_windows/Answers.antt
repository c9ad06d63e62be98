-- `join_windows`: windows of 1, 2, 4, 8 and 16 positions.
use Rattle.windows.proofs.Widening.{joined_one, joined_twice}
use Rattle.windows.proofs.join_windows.Goals as goal

pub returns : goal.returns
returns c =
    joined_twice _ _ 8 _ (joined_twice _ _ 4 _ (joined_twice _ _ 2 _ (joined_twice _ _ 1 _ (joined_one _) c.widen.ensures) c.widen-2.ensures) c.widen-3.ensures) c.widen-4.ensures
