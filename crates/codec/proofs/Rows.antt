-- The track of a column, and a track that is written.
use mathlib.Core.Path.{◌≡◌, ◌∙◌}
use mathlib.Core.List.{List}
use Prim.Native.Nat.{ℕ, ◌+◌, ◌*◌, ◌-◌, ◌<◌, ◌≤◌}
use native.Mathlib.Omega.{arith}
use borrow.Rule.Slice.PartMut.{put_mid}
use lib.ListN.{length}
use Rattle.code.specs.Record.{Shape, track_length}
use Rattle.code.specs.Image.{image_size}
use Rattle.track.specs.Track.{Copied}
use Rattle.track.proofs.Rows.{part, new_length, new_here, new_there}
use Rattle.codec.specs.Steps.{data_number, TrackPut}
use Rattle.codec.proofs.Columns.{number_room}

-- The track of a column.
module _ (sh : Shape) (p : ℕ) (image : List ℕ) (column : p < sh.t1 + sh.t2) (size : length image ≡ image_size sh) where
  -- The image has it.
  pub track_room : data_number sh p * track_length sh + track_length sh ≤ length image
  track_room = omega (arith, number_room sh p column)

-- A stretch that is written to a track.
pub track_put : (g : ℕ) (stretch before ys : List ℕ) → g * length stretch + length stretch ≤ length before → Copied stretch (part (length stretch) before g) ys →
    TrackPut (length stretch) g stretch before (put_mid (g * length stretch) (g * length stretch + length stretch - g * length stretch) before ys)
track_put g stretch before ys room c = record {
  size = new_length _ before g room ys c.size;
  here = λ m h. new_here _ before g room ys c.size m h ∙ c.copy m h;
  there = new_there _ before g room ys c.size;
}
