-- `marks_in`: the marks of the gathered word.
use Rattle.std.proofs.Common.{◌∙◌}
use Rattle.windows.proofs.Bits.{gathered}
use Rattle.windows.proofs.marks_in.Goals as goal

pub returns : goal.returns
returns c =
    let m = c.marks_of.ensures in
    record {
      size = m.size;
      marks_at = λ g i h e. m.marks_at g h ∙ rw c.gather.ensures (gathered g 0 _ i e);
    }
