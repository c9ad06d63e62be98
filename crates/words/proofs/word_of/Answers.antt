-- `word_of`: a full word, the rest, or nothing.
use mathlib.Core.Path.{sym, ◌∙◌}
use native.Mathlib.Omega.{arith}
use lib.ListN.{get_or-eq_default}
use Rattle.words.proofs.Bit.{bit_zero}
use Rattle.words.proofs.word_of.Goals as goal

pub returns : goal.returns
returns c = λ j m h e. bit_zero j ∙ sym (get_or-eq_default c.args.stretch.now 0 {n = m} (omega arith))
