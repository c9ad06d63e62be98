-- Document 01, "The record": track numbers, and an image as a list of bytes.
use Rattle.std.specs.Prelude.{ℕ, ◌+◌, ◌*◌, List, get_or}
use Rattle.code.specs.Record.{TrackSet, A, B, Shape, tracks, track_length, Cells}

-- Track number g of track t: t in A, 9 + t in B.
abbrev pub track_number : Shape → TrackSet → ℕ → ℕ
track_number sh A t = t
track_number sh B t = tracks sh A + t

-- The tracks of both sets: 18.
abbrev pub all_tracks : Shape → ℕ
all_tracks sh = tracks sh A + tracks sh B

-- An image has 18 × L bytes.
abbrev pub image_size : Shape → ℕ
image_size sh = all_tracks sh * track_length sh

-- The cells of an image, one a byte: track number g begins at cell g × L. Bytes past the image's size are not read.
abbrev pub cells : Shape → List ℕ → Cells
cells sh image s t m = get_or image (track_number sh s t * track_length sh + m) 0
