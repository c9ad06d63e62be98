-- No check applies, and the record is made.
use mathlib.Core.Path.{refl, ◌∙◌}
use lib.Seq.{length-take-le}
use Rattle.code.specs.Record.{base}
use Rattle.code.proofs.Accepted.{sizes_right}
use Rattle.checks.proofs.Refusing.{size_passes}
use Rattle.codec.proofs.Answering.{encoded}
use Rattle.codec.proofs.encode.Goals as goal

pub returns : goal.returns
returns c =
    let a = c.args in
    let passed = size_passes _ _ _ _ _ c.in_ok-check_sizes.ensures in
    let fits = (sizes_right _ _ _ _ _ passed).fits in
    encoded (base a.blocks) a.blocks a.payload.now a.out.now refl passed _ (c.write_record.auto.out ∙ length-take-le _ _ fits) fits
    (rw c.of_blocks.ensures at c.write_record.ensures)
