-- `repair_pairs`: what is right of the spans that were made is right of the pairs.
use Rattle.std.proofs.Common.{◌≡◌, arith}
use Rattle.spans.proofs.Tables.{pairs_repaired}
use Rattle.spans.proofs.repair_pairs.Goals as goal

pub returns : goal.returns
returns c =
    let all : c.loop-k.k ≡ c.min-count.result = omega arith in
    pairs_repaired c.args.pairs.now c.min-count.result c.min-count.ensures c.loop-k.spans (rw all at c.loop-k.invariant) _ _ _ _ _ c.repair_spans.ensures
