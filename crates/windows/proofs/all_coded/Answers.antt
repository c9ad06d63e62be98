use Rattle.std.proofs.Common.{arith}
use Rattle.windows.proofs.Coding.{none_coded}
use Rattle.windows.proofs.all_coded.Goals as goal

pub loop-word-init : goal.loop-word-init
loop-word-init c = (none_coded _, λ k l. absurd (omega arith))
