-- `pack`: past the checks, the packed form.
use borrow.Author.Rules.{rules}
use Rattle.code.proofs.Accepted.{image_right}
use Rattle.checks.proofs.Refusing.{image_passes}
use Rattle.packed.proofs.Answering.{was_packed}
use Rattle.packed.proofs.pack.Goals as goal

pub pack_image-requires-clause-bits : goal.pack_image-requires-clause-bits
pack_image-requires-clause-bits c = record { bit = (image_right _ _ _ _ _ _ (search rules) (image_passes _ _ _ _ _ _ c.in_ok-check_image.ensures.first)).cells }

pub returns : goal.returns
returns c =
    let a = c.args in
    let passed = image_passes _ _ _ _ _ _ c.in_ok-check_image.ensures.first in
    was_packed a.blocks a.image.now a.out.now passed (image_right _ _ _ _ _ _ (search rules) passed).sizes.fits _ c.pack_image.ensures
