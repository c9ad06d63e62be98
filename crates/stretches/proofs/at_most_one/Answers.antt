-- The bits of a set, below or above bit a.
use native.Mathlib.Omega.{arith}
use Rattle.code.specs.Sizes.{shape}
use Rattle.stretches.proofs.Bits.{low_one, high_one}
use Rattle.stretches.proofs.at_most_one.Goals as goal

pub returns-in-A : goal.returns-in-A
returns-in-A c = rw c.in-A.is (low_one (shape c.args.z) c.args.word _ (omega arith) (omega (arith, c.args.z.t1_small)) c.few_bits.ensures)

pub returns-in-B : goal.returns-in-B
returns-in-B c = rw c.in-B.is (high_one (shape c.args.z) c.args.word _ (omega arith) c.few_bits-in-B.ensures)
