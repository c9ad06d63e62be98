use Rattle.sums.proofs.Padding.{first_part}
use Rattle.sums.proofs.copy_first.Goals as goal

pub returns-then-n-ge80 : goal.returns-then-n-ge80
returns-then-n-ge80 c = rw (c.copy_from_slice-then-n-ge80.ensures.after, c.copy_from_slice.ensures.after) (first_part _ _ c.requires c.if-n-ge80.true)
