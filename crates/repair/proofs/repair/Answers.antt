-- `repair`: past the checks of document 01, the record is worked on in the first part of the output.
use mathlib.Core.Path.{sym, ◌∙◌}
use Rattle.code.specs.Record.{base}
use Rattle.code.specs.Flags.{whole}
use Rattle.code.specs.Calls.{Repairs}
use Rattle.code.specs.Promises.{call_flags}
use Rattle.repair.proofs.Calling.{passed, read_image, given, too_many, repaired}
use Rattle.repair.proofs.repair.Goals as goal

pub call_marks-marks-requires-clause-read_image : goal.call_marks-marks-requires-clause-read_image
call_marks-marks-requires-clause-read_image c = rw c.of_blocks-z.ensures (read_image _ _ _ _ (passed _ _ _ _ c.in_ok-lost.ensures.first))

pub returns-then-code_of-eq0 : goal.returns-then-code_of-eq0
returns-then-code_of-eq0 c =
    let a = c.args in
    let b = base a.blocks in
    let e = c.of_blocks-z.ensures in
    let marks = rw e at c.call_marks-marks.ensures in
    let code = rw e at c.code_of.ensures in
    too_many _ _ _ _ (passed _ _ _ _ c.in_ok-lost.ensures.first) _ marks (sym code ∙ c.if-code_of-eq0.true) (Repairs b (whole (call_flags a.blocks a.flags a.image.now)) a.image.now a.out.now)

pub repair_record-requires : goal.repair_record-requires
repair_record-requires c =
    let e = c.of_blocks-z.ensures in
    let marks = rw e at c.call_marks-marks.ensures in
    let code = rw e at c.code_of.ensures in
    rw e (given _ _ _ _ (passed _ _ _ _ c.in_ok-lost.ensures.first) _ marks (λ z. c.if-code_of-eq0.false (code ∙ z)))

pub returns : goal.returns
returns c =
    let e = c.of_blocks-z.ensures in
    let marks = rw e at c.call_marks-marks.ensures in
    let code = rw e at c.code_of.ensures in
    repaired _ _ _ _ (passed _ _ _ _ c.in_ok-lost.ensures.first) _ marks (λ z. c.if-code_of-eq0.false (code ∙ z)) _ _
    c.repair_record.auto.out (rw e at c.repair_record.ensures)
