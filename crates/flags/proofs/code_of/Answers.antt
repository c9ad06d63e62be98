-- `code_of`: the marked tracks of A and then those of B are counted.
use Rattle.std.proofs.Common.{◌∙◌, ap₂, arith, rules}
use Rattle.code.specs.Reach.{reach_code}
use Rattle.code.specs.Sizes.{shape}
use Rattle.flags.proofs.Bits.{marks_code}
use Rattle.flags.proofs.code_of.Goals as goal

pub returns : goal.returns
returns g c =
    c.reach_code.ensures ∙ ap₂ reach_code c.count_marks.ensures c.count_marks-2.ensures
    ∙ marks_code g.M.Mark.counts g.M.Mark.none (shape c.args.z) c.args.marks.now _ _ (omega arith) (search rules) (omega arith)
