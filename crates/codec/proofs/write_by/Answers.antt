-- The data tracks are written, and tracks 0 are at hand; then the check tracks of A and of B.
use Rattle.code.specs.declared.sizes.TrackSet.TheVariants.{A, B}
use Rattle.codec.proofs.Making.{filled_image, filled_tails, tails_stay, good_record}
use Rattle.codec.proofs.write_by.Goals as goal

pub write_checks-requires-clause-image : goal.write_checks-requires-clause-image
write_checks-requires-clause-image c = filled_image c.args.z _ _ _ c.write_data.ensures

pub write_checks-requires-clause-bits : goal.write_checks-requires-clause-bits
write_checks-requires-clause-bits c = c.carry.ensures.carried.bits A

pub write_checks-requires-clause-tail_zero : goal.write_checks-requires-clause-tail_zero
write_checks-requires-clause-tail_zero c = filled_tails c.args.z _ _ _ c.write_data.ensures c.requires.sized.positions A

pub write_checks-requires-2-clause-bits : goal.write_checks-requires-2-clause-bits
write_checks-requires-2-clause-bits c = c.carry.ensures.carried.bits B

pub write_checks-requires-2-clause-tail_zero : goal.write_checks-requires-2-clause-tail_zero
write_checks-requires-2-clause-tail_zero c =
    tails_stay c.args.z _ _ _ c.write_data.ensures c.requires.sized.positions _ _ _ c.write_checks.ensures B

pub returns : goal.returns
returns c =
    good_record c.args.z _ _ _ c.write_data.ensures c.requires.is_base _ _ _ _ c.carry.ensures.carried c.write_checks.ensures c.write_checks-2.ensures
