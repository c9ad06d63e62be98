-- `repair_cells`: the output is the working copy and `syn` holds its syndromes, so its flagged cells can be solved.
use Rattle.std.proofs.Common.{refl}
use Rattle.spans.proofs.Records.{copied, kept, only_flagged, found, none_found}
use Rattle.spans.proofs.repair_cells.Goals as goal

pub syndromes-requires-clause-image : goal.syndromes-requires-clause-image
syndromes-requires-clause-image c = copied _ _ _ _ _ c.requires.given _ c.copy_known.ensures

pub solve-requires-clause-kept : goal.solve-requires-clause-kept
solve-requires-clause-kept c = kept c.args.z _ _ _ _ c.requires.given _ _ c.copy_known.ensures c.syndromes.ensures

pub answer_of-requires : goal.answer_of-requires
answer_of-requires c = only_flagged c.args.z _ _ _ _ c.requires.given _ _ _ _ c.copy_known.ensures c.solve.ensures

pub returns-then-solve : goal.returns-then-solve
returns-then-solve c = found c.args.z _ _ _ _ c.requires.given _ _ _ _ c.copy_known.ensures c.solve.ensures c.if-solve.true _ c.answer_of.ensures

pub returns : goal.returns
returns c = none_found c.args.z _ _ _ _ c.requires.given _ _ _ _ c.copy_known.ensures c.solve.ensures c.if-solve.false _ c.copy_into.ensures _ refl
