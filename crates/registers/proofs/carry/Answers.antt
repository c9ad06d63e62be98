use mathlib.Core.Path.{◌≡◌, ◌∙◌}
use native.Mathlib.Omega.{arith}
use Rattle.registers.proofs.Tracks.{passing_none, held_none, block_passed, block_held, tail_passed, tail_slid, tail_held}
use Rattle.registers.proofs.carry.Goals as goal

pub loop-block-init : goal.loop-block-init
loop-block-init c = record { passing = passing_none _ _ _ _; held = held_none _ _ _ _ }

pub loop-block-preserved : goal.loop-block-preserved
loop-block-preserved c =
    let i = c.loop-block.invariant in
    let two = c.pass_two.ensures in
    let four = c.pass_two-in-loop-block.ensures in
    let six = c.pass_two-in-loop-block-2.ensures in
    let eight = c.pass_two-r.ensures in
    let bytes = c.block_bytes-bytes.ensures in
    record {
      passing = block_passed _ _ _ _ _ _ _ _ _ _ _ _ _ _ _ _ _ _ _ c.loop-block-test.true bytes i.passing two.passed four.passed six.passed eight.passed;
      held = block_held _ _ _ _ _ _ _ _ _ _ _ _ _ _ _ _ _ _ _ c.loop-block-test.true bytes i.passing two.passed four.passed six.passed eight.passed
          two.held four.held six.held eight.held i.held;
    }

pub returns : goal.returns
returns c =
    let l = c.loop-block in
    let a = c.copy_from_slice.ensures in
    let b = c.copy_from_slice-2.ensures in
    let all : l.block ≡ c.args.blocks = omega arith in
    let size_a = l.auto.a ∙ c.requires.size_a in
    let size_b = l.auto.b ∙ c.requires.size_b in
    let passing = rw all at l.invariant.passing in
    let held = rw all at l.invariant.held in
    record {
      carried = tail_passed _ _ _ _ _ _ _ size_a size_b a.len b.len a.after b.after passing;
      held = tail_held _ _ _ _ _ _ _ size_a size_b a.len b.len a.after b.after passing held;
      tail = tail_slid _ _ _ _ _ _ _ size_a size_b a.len b.len a.after b.after passing;
    }
