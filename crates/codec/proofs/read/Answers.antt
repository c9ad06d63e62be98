-- No check applies, and the image is good.
use mathlib.Core.Path.{◌≡◌, ap}
use Prim.Native.Nat.{◌+◌}
use borrow.Author.Rules.{rules}
use Rattle.code.specs.Record.{base}
use Rattle.code.proofs.Accepted.{image_right}
use Rattle.code.proofs.RoundTrip.{good_bits}
use Rattle.checks.proofs.Refusing.{image_passes}
use Rattle.codec.proofs.Answering.{was_read}
use Rattle.codec.proofs.read.Goals as goal

pub read_data-requires-clause-bits : goal.read_data-requires-clause-bits
read_data-requires-clause-bits c =
    let a = c.args in
    let passed = image_passes _ _ _ _ _ _ c.in_ok-lost.ensures.first in
    let right = image_right _ _ _ _ _ _ (search rules) passed in
    record { bit = good_bits (base a.blocks) a.image.now right.sizes.exact (rw c.of_blocks-z.ensures at c.image_good.ensures.yes_good c.if-not-image_good.false) }

pub returns : goal.returns
returns c =
    let a = c.args in
    let passed = image_passes _ _ _ _ _ _ c.in_ok-lost.ensures.first in
    let z = c.of_blocks-z.result in
    let e = c.of_blocks-z.ensures in
    let width : z.t1 + z.t2 ≡ 14 = ap (λ s. s.t1 + s.t2) e in
    was_read (base a.blocks) a.blocks a.image.now a.out.now passed _ (rw e at (c.image_good.ensures.yes_good c.if-not-image_good.false)) (rw (e, width) at c.read_data.ensures)
