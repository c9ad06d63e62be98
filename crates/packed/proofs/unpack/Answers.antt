-- `unpack`: past the checks, the image.
use Rattle.code.proofs.Accepted.{sizes_right}
use Rattle.checks.proofs.Refusing.{size_passes}
use Rattle.packed.proofs.Answering.{was_unpacked}
use Rattle.packed.proofs.unpack.Goals as goal

pub returns : goal.returns
returns c =
    let a = c.args in
    let passed = size_passes _ _ _ _ _ c.in_ok-check_sizes.ensures in
    let clear = c.padding_set.ensures.none c.if-padding_set.false in
    was_unpacked a.blocks a.packed.now a.out.now passed clear (sizes_right _ _ _ _ _ passed).fits _ c.unpack_image.ensures
