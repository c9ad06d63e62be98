-- `repair_spans`: the checks come in order, and the record is worked on in the first part of the output.
use Rattle.std.proofs.lemmas.Result.{err_from_is_err_and}
use Rattle.code.specs.Spans.{table_of}
use Rattle.spans.proofs.Calling.{refused, tabled, repaired}
use Rattle.spans.proofs.repair_spans.Goals as goal

pub returns-in_err-lost : goal.returns-in_err-lost
returns-in_err-lost c =
    let a = c.args in
    let p = err_from_is_err_and c.from_residual.result c.from_residual.ensures.1 in
    rw (p.1, p.2) (refused a.blocks (table_of a.spans.now) a.image.now a.out.now _ c.in_err-lost.ensures.first)

pub repair_record-requires-clause-tabled : goal.repair_record-requires-clause-tabled
repair_record-requires-clause-tabled c = let a = c.args in tabled a.blocks (table_of a.spans.now) a.image.now a.out.now c.in_ok-lost.ensures.first _ c.of_blocks-z.ensures

pub repair_record-requires-else-l-le143-clause-tabled : goal.repair_record-requires-else-l-le143-clause-tabled
repair_record-requires-else-l-le143-clause-tabled c = let a = c.args in tabled a.blocks (table_of a.spans.now) a.image.now a.out.now c.in_ok-lost.ensures.first _ c.of_blocks-z.ensures

pub returns-then-l-le143 : goal.returns-then-l-le143
returns-then-l-le143 c =
    let a = c.args in
    repaired a.blocks (table_of a.spans.now) a.image.now a.out.now c.in_ok-lost.ensures.first c.of_blocks-z.result c.of_blocks-z.ensures c.track_length-l.result c.track_length-l.ensures _ _ c.repair_record.auto.out c.repair_record.ensures

pub returns-else-l-le143 : goal.returns-else-l-le143
returns-else-l-le143 c =
    let a = c.args in
    repaired a.blocks (table_of a.spans.now) a.image.now a.out.now c.in_ok-lost.ensures.first c.of_blocks-z.result c.of_blocks-z.ensures c.track_length-l.result c.track_length-l.ensures _ _ c.repair_record-else-l-le143.auto.out c.repair_record-else-l-le143.ensures
