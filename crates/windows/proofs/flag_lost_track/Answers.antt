-- `flag_lost_track`: a track is its stretch.
use Rattle.std.proofs.Common.{arith}
use Rattle.windows.proofs.Bits.{one_shifted}
use Rattle.windows.proofs.LostCells.{lost_added}
use Rattle.windows.proofs.flag_lost_track.Goals as goal

pub returns : goal.returns
returns c =
    lost_added c.args.l c.args.image.now c.args.g c.requires.l_in_bounds _ (one_shifted c.args.g (omega arith)) _ _ c.flag_if_lost.ensures
