-- Track 0 is put, the data tracks are added to it, and the sum is put.
use mathlib.Core.Path.{◌≡◌, ap, ◌∙◌}
use Prim.Native.Nat.{ℕ, suc}
use native.Mathlib.Omega.{arith}
use Rattle.code.specs.Record.{data_tracks}
use Rattle.code.specs.Image.{track_number}
use Rattle.code.specs.Sizes.{shape}
use Rattle.codec.proofs.Checks.{put_image, put_tails, checks_put}
use Rattle.codec.proofs.write_checks.Goals as goal

pub add_data-requires-clause-image : goal.add_data-requires-clause-image
add_data-requires-clause-image c =
    let h = c.requires in put_image _ _ _ _ _ h.image h.bits (rw (h.first_len, c.track_number.ensures.is) at c.put_track.ensures)

pub add_data-requires-clause-tail_zero : goal.add_data-requires-clause-tail_zero
add_data-requires-clause-tail_zero c =
    let h = c.requires in put_tails _ _ _ _ _ (rw (h.first_len, c.track_number.ensures.is) at c.put_track.ensures) h.tail_zero

pub returns : goal.returns
returns c =
    let a = c.args in
    let h = c.requires in
    let track : ℕ → ℕ = track_number (shape a.z) a.s in
    let last : c.track_number-2.result ≡ track (suc (data_tracks (shape a.z) a.s)) =
    c.track_number-2.ensures.is ∙ ap track (omega (arith, c.data_tracks.ensures.is)) in
    checks_put _ _ _ _ _ _ _ h.image h.bits (rw (h.first_len, c.track_number.ensures.is) at c.put_track.ensures)
    c.add_data.ensures (rw (c.add_data.ensures.size ∙ h.first_len, last) at c.put_track-2.ensures)
