use Rattle.std.proofs.Common.{◌≤◌, rules, arith}
use native.Mathlib.Nat.{mul-le-mul_right}
use Rattle.code.specs.Record.{track_length}
use Rattle.code.specs.Image.{image_size, all_tracks}
use Rattle.code.specs.Sizes.{shape}
use Rattle.code.specs.Spans.{table_of}
use Rattle.windows.proofs.Tables.{pair_within, pairs_none, pairs_more}
use Rattle.windows.proofs.flag_pairs.Goals as goal

pub loop-span-init : goal.loop-span-init
loop-span-init c = pairs_none _ _ _ (rw c.track_length-l.ensures c.requires.blank)

pub flag_pair-requires-clause-to_bound : goal.flag_pair-requires-clause-to_bound
flag_pair-requires-clause-to_bound c =
    let sh = shape c.args.z in
    let end = pair_within (image_size sh) (table_of c.args.spans.now) c.requires.fact c.loop-span.span-index (search rules) in
    let most : all_tracks sh ≤ 18 = omega arith in
    rw c.track_length-l.ensures (omega (arith, end, mul-le-mul_right (track_length sh) most))

pub loop-span-preserved : goal.loop-span-preserved
loop-span-preserved c = pairs_more _ _ _ _ _ c.loop-span.invariant c.flag_pair.ensures
