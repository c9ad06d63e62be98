-- Each set has a pivot, its highest flagged track. The verticals are charged to the pivots, and an error below the pivot
-- counts on both: a pair.
use Rattle.std.proofs.Math.Logic.{ite}
use Rattle.std.specs.Prelude.{ℕ, ◌+◌, ◌-◌, ◌<◌, ◌≤◌}
use Rattle.std.proofs.Math.Decide.{dec_le}
use Rattle.code.specs.declared.sizes.TrackSet.{TrackSet}
use Rattle.code.specs.declared.sizes.TrackSet.TheVariants.{A, B}
use Rattle.code.specs.Record.{Shape, data_tracks, lag, track_length, back}
use Rattle.code.proofs.OneTrack.{offset}
use Rattle.plans.specs.declared.Form.{Form}
use Rattle.plans.specs.Plans.{pivot}
use Rattle.forms.specs.Streams.{Stream, times, cut}

-- What is left of the diagonal of set d, where D has the diagonals and W the verticals and rule 3 holds before `end`.
unfoldable pub left : Shape → ℕ → (TrackSet → Stream) → (TrackSet → Stream) → Form → TrackSet → Stream
left sh end D W p d m =
    D d m + back (cut end (W A)) m (offset sh d A (pivot p A)) + back (cut end (W B)) m (offset sh d B (pivot p B))

-- Track t of set s, with the pivot j above it.
pub record Below (sh : Shape) (s : TrackSet) (t j : ℕ) : Type 0 where
  pub order : t < j
  pub on_diagonals : t ≤ data_tracks sh s

-- What the diagonal of set d meets of the pair: the error e of track t of set s, there and on the pivot j.
unfoldable pub met : Shape → ℕ → Stream → TrackSet → TrackSet → ℕ → ℕ → Stream
met sh end e d s t j m = back e m (offset sh d s t) + back (cut end e) m (offset sh d s j)

-- A diagonal meets the pair at its point and a gap later. The vertical track is met nowhere: the gap is a whole track.
unfoldable pub gap : Shape → TrackSet → ℕ → ℕ → ℕ
gap sh s t j = ite (dec_le j (data_tracks sh s)) (j - t) (track_length sh)

-- The highest track of the pair on the diagonals.
unfoldable pub top : Shape → TrackSet → ℕ → ℕ → ℕ
top sh s t j = ite (dec_le j (data_tracks sh s)) j t

unfoldable pub point : Shape → TrackSet → TrackSet → ℕ → ℕ → ℕ
point sh A A t j = t
point sh A B t j = lag sh - top sh B t j
point sh B A t j = lag sh - top sh A t j
point sh B B t j = t

-- The pair as one stream.
abbrev pub pair : Shape → ℕ → Stream → TrackSet → ℕ → ℕ → Stream
pair sh end e s t j = times end (gap sh s t j) e
