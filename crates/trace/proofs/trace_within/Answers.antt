-- `trace_within`: the check of the ceiling comes after 5, and the record is worked on in the first part of the output.
use mathlib.Core.Path.{refl, sym, ap, ◌∙◌}
use native.Mathlib.Omega.{arith}
use Rattle.code.specs.Reach.{code_reach, ceiling_reach, both}
use Rattle.code.proofs.Codes.{flags_small}
use Rattle.repair.proofs.Calling.{passed, read_image, given}
use Rattle.trace.proofs.Calling.{both_within, too_high, too_many, traced}
use Rattle.trace.proofs.trace_within.Goals as goal

pub call_marks-marks-requires-clause-read_image : goal.call_marks-marks-requires-clause-read_image
call_marks-marks-requires-clause-read_image c = rw c.of_blocks-z.ensures (read_image _ _ _ _ (passed _ _ _ _ c.in_ok-lost.ensures.first))

pub returns-then-ceiling-gt2 : goal.returns-then-ceiling-gt2
returns-then-ceiling-gt2 c = too_high _ _ _ _ _ (passed _ _ _ _ c.in_ok-lost.ensures.first) c.if-ceiling-gt2.true

pub returns-then-code-eq0 : goal.returns-then-code-eq0
returns-then-code-eq0 c =
    let e = c.of_blocks-z.ensures in
    let marks = rw e at c.call_marks-marks.ensures in
    let code = rw e at c.code_of-code.ensures in
    too_many _ _ _ _ _ (passed _ _ _ _ c.in_ok-lost.ensures.first) (omega arith) _ marks (sym code ∙ c.if-code-eq0.true)

pub reach_within-w-requires : goal.reach_within-w-requires
reach_within-w-requires c = rw c.code_of-code.ensures (flags_small _ _)

pub trace_record-requires : goal.trace_record-requires
trace_record-requires c =
    let e = c.of_blocks-z.ensures in
    let marks = rw e at c.call_marks-marks.ensures in
    let code = rw e at c.code_of-code.ensures in
    let passes = passed _ _ _ _ c.in_ok-lost.ensures.first in
    rw e (record {
      given = given _ _ _ _ passes _ marks (λ z. c.if-code-eq0.false (code ∙ z));
      stays_within = both_within _ _ _ _ refl (λ z. c.if-code-eq0.false (code ∙ z)) (c.reach_within-w.ensures ∙ ap (λ k. both (code_reach k) (ceiling_reach c.args.ceiling)) code);
    })

pub returns : goal.returns
returns c =
    let e = c.of_blocks-z.ensures in
    let marks = rw e at c.call_marks-marks.ensures in
    let code = rw e at c.code_of-code.ensures in
    traced _ _ _ _ _ (passed _ _ _ _ c.in_ok-lost.ensures.first) (omega arith) _ marks (λ z. c.if-code-eq0.false (code ∙ z)) _ _
    c.trace_record.auto.out _ (c.reach_within-w.ensures ∙ ap (λ k. both (code_reach k) (ceiling_reach c.args.ceiling)) code) (rw e at c.trace_record.ensures)
