-- What the private functions ask and give.
use Rattle.std.specs.Prelude.{◌≡◌, Bool, true, false, List, ℕ, suc, ◌+◌, ◌*◌, ◌-◌, ◌/◌, ◌%◌, ◌^◌, ◌<◌, ◌≤◌, length, get_or}
use Rattle.std.specs.declared.ops.Range.{Range}
use Rattle.code.specs.Record.{base, track_length}
use Rattle.code.specs.Image.{image_size}
use Rattle.code.specs.Payload.{digits}
use Rattle.code.specs.Packed.{track_bytes, packed_size, padded, PaddingSet}
use Rattle.track.specs.Track.{row}

-- The number of the track at place p of head order.
abbrev pub head_number : ℕ → ℕ
head_number p = p / 2 + 9 * (p % 2)

pub record HeadNumber (p r : ℕ) : Type 0 where
  pub is : r ≡ head_number p
  pub small : r < 18

-- Where the track at place p of head order begins and ends in an image, and its bytes in a packed form.
pub record TrackAt (n p : ℕ) (r : Range ℕ) : Type 0 where
  pub start : r.start ≡ head_number p * track_length (base n)
  pub end : r.end ≡ r.start + track_length (base n)

pub record BytesAt (n p : ℕ) (r : Range ℕ) : Type 0 where
  pub start : r.start ≡ p * track_bytes n
  pub end : r.end ≡ r.start + track_bytes n

-- Room for a packed form of n blocks.
pub record PackedSized (n : ℕ) (packed : List ℕ) : Type 0 where
  pub few : n ≤ 256
  pub size : length packed ≡ packed_size n

-- And for its image.
pub record Sized (n : ℕ) (image packed : List ℕ) : Type 0 where
  pub form : PackedSized n packed
  pub whole : length image ≡ image_size (base n)

-- ## Packing

-- Byte j is the number of the eight cells from 8j on, the most significant first. A cell past the track's end counts as 0.
pub record TrackPacked (stretch before after : List ℕ) : Type 0 where
  pub size : length after ≡ length before
  pub byte : (j : ℕ) → j < length before → get_or after j 0 ≡ digits 8 (λ k. get_or stretch (8 * j + k) 0)

-- The tracks at the first p places are packed.
pub record TracksPacked (n p : ℕ) (image packed : List ℕ) : Type 0 where
  pub sized : Sized n image packed
  pub byte : (q j : ℕ) → q < p → j < track_bytes n →
      row (track_bytes n) packed q j ≡ digits 8 (λ k. padded n (row (track_length (base n)) image (head_number q)) (8 * j + k))

-- ## Unpacking

-- Whether a padding bit is 1.
pub record PaddingTested (n : ℕ) (packed : List ℕ) (r : Bool) : Type 0 where
  pub some : r ≡ true → PaddingSet n packed
  pub none : r ≡ false → ¬ PaddingSet n packed

-- The cells are the first bits of a byte, the most significant first.
pub record LastPut (byte : ℕ) (before after : List ℕ) : Type 0 where
  pub size : length after ≡ length before
  pub cell : (k : ℕ) → k < length before → get_or after k 0 ≡ byte / 2 ^ (8 - suc k) % 2

-- The cells from 8j on are the bits of byte j, the most significant first.
pub record TrackUnpacked (bytes before after : List ℕ) : Type 0 where
  pub size : length after ≡ length before
  pub byte : (j : ℕ) → 8 * j < length before → get_or bytes j 0 < 256
  pub cell : (j k : ℕ) → k < 8 → 8 * j + k < length before → get_or after (8 * j + k) 0 ≡ get_or bytes j 0 / 2 ^ (8 - suc k) % 2

-- The tracks at the first p places are unpacked.
pub record TracksUnpacked (n p : ℕ) (packed image : List ℕ) : Type 0 where
  pub sized : Sized n image packed
  pub byte : (q j : ℕ) → q < p → j < track_bytes n → row (track_bytes n) packed q j < 256
  pub cell : (q j k : ℕ) → q < p → k < 8 → 8 * j + k < track_length (base n) →
      row (track_length (base n)) image (head_number q) (8 * j + k) ≡ row (track_bytes n) packed q j / 2 ^ (8 - suc k) % 2
