-- `word` meets its contract: each byte of the sum is one of the eight.
use native.Mathlib.Omega.{arith}
use Rattle.registers.specs.Places.{byte}
use Rattle.track.proofs.Words.{eight}
use Rattle.registers.proofs.word.Goals as goal

pub returns : goal.returns
unfolding byte
returns c = record { byte_is = eight _ (omega arith) (omega arith) (omega arith) (omega arith) (omega arith) (omega arith) (omega arith) (omega arith) }
