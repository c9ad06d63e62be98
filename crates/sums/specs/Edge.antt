-- The first positions, where a diagonal goes back past the start: tracks of which the first cells stand behind zeros.
use Rattle.std.specs.Prelude.{◌≡◌, List, ℕ, ◌+◌, ◌<◌, ◌≤◌, ◌%◌, length, get_or}
use Rattle.code.specs.Record.{Shape, lag, track_length}
use Rattle.code.specs.Image.{all_tracks, image_size, cells}
use Rattle.code.specs.Sizes.{shape}
use Rattle.code.specs.declared.sizes.Sizes.{Sizes}
use Rattle.track.specs.Track.{row, Bits}
use Rattle.syndrome.specs.Syndrome.{Image}
use Rattle.sums.specs.Run.{rule}

-- The same tracks with 80 positions.
abbrev pub edge : Shape → Shape
edge sh = record { t1 = sh.t1; t2 = sh.t2; positions = 80; closing = sh.closing }

-- The first 80 cells, or all where there are fewer, are the source's, and later ones stay.
pub record FirstCopied (source before after : List ℕ) : Type 0 where
  pub size : length after ≡ length before
  pub copy : (i : ℕ) → i < 80 → i < length source → get_or after i 0 ≡ get_or source i 0
  pub later : (i : ℕ) → length source ≤ i → get_or after i 0 ≡ get_or before i 0

-- An image of such tracks and of bits, in which each track begins with as many zeros as a diagonal goes back, and in the first n
-- tracks the cells of an image follow, 80 or all.
pub record Padded (z : Sizes) (n : ℕ) (image padded : List ℕ) : Type 0 where
  pub size : length padded ≡ image_size (edge (shape z))
  pub bits : (i : ℕ) → get_or padded i 0 < 2
  pub lead : (g j : ℕ) → j < lag (shape z) → row (track_length (edge (shape z))) padded g j ≡ 0
  pub cells_of : (g i : ℕ) → g < n → i < 80 → i < track_length (shape z) →
      row (track_length (edge (shape z))) padded g (lag (shape z) + i) ≡ row (track_length (shape z)) image g i

-- An image and its padded tracks.
pub record Padding (z : Sizes) (image padded : List ℕ) : Type 0 where
  pub is_image : Image (shape z) image
  pub is_padded : Padded z (all_tracks (shape z)) image padded

-- Four rows of 64 hold the sums of an image at the positions from p on, as far as it has them.
pub record RunSums (z : Sizes) (image : List ℕ) (p : ℕ) (rows : List ℕ) : Type 0 where
  pub size : length rows ≡ 256
  pub bits : Bits rows
  pub sums : (r k : ℕ) → r < 4 → k < 64 → p + k < track_length (shape z) → row 64 rows r k ≡ rule (shape z) (cells (shape z) image) r (p + k) % 2
