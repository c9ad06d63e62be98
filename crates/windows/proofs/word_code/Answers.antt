-- `word_code`: by the word's marks.
use Rattle.std.proofs.Common.{◌∙◌}
use Rattle.code.proofs.Same.{code_same}
use Rattle.flags.proofs.Bits.{marks_same}
use Rattle.windows.proofs.word_code.Goals as goal

pub returns : goal.returns
returns c = c.code_of.ensures ∙ code_same _ _ _ (marks_same c.args.z _ _ c.marks_of-marks.ensures)
