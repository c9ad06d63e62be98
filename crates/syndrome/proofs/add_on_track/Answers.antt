-- The bit is added on the track's stretch, which comes back.
use Rattle.syndrome.proofs.Adding.{bit_on_track}
use Rattle.syndrome.proofs.add_on_track.Goals as goal

pub returns : goal.returns
returns c = let h = c.requires in bit_on_track _ _ _ _ _ _ h.bits h.l_in_bounds h.p_lt_l h.w_bound c.add_bit.ensures
