-- `begin`: the pivots' words at the start are made 0.
use native.Mathlib.Omega.{arith}
use Rattle.errors.proofs.Finding.{begin_later}
use Rattle.errors.proofs.begin.Goals as goal

pub returns : goal.returns
returns c = begin_later _ _ _ _ (omega arith) (omega arith) c.requires.fresh c.put_word.ensures c.put_word-2.ensures
