-- Document 02, note 1: tracks in head order, packed. Sets have 7 data tracks, whatever the closing.
use Rattle.std.specs.Prelude.{◌≡◌, ℕ, ◌+◌, ◌*◌, ◌%◌, ◌<◌, List, get_or, ltb}
use Rattle.code.specs.Record.{TrackSet, A, B, base, tracks, track_length, Cells}
use Rattle.code.specs.Image.{all_tracks}
use Rattle.code.specs.Payload.{digits}
use Rattle.code.specs.Reach.{pick}

-- Head order is A0, B0, A1, B1, to A8, B8: the place of track t of a set in it, from 0 to 17.
abbrev pub head_place : TrackSet → ℕ → ℕ
head_place A t = 2 * t
head_place B t = 2 * t + 1

-- A track of n blocks takes n + 2 bytes; all tracks take 18(n + 2).
abbrev pub track_bytes : ℕ → ℕ
track_bytes n = n + 2

abbrev pub packed_size : ℕ → ℕ
packed_size n = all_tracks (base n) * track_bytes n

-- The cells of a track, and behind them padding, which is 0. L + 1 is 8(n + 2), so a track has one padding bit, its last.
abbrev pub padded : ℕ → (ℕ → ℕ) → ℕ → ℕ
padded n x m = pick (ltb m (track_length (base n))) (x m) 0

-- Byte j of a track has the eight cells from 8j on, the first cell most significant.
abbrev pub packed_byte : ℕ → Cells → TrackSet → ℕ → ℕ → ℕ
packed_byte n x s t j = digits 8 (λ k. padded n (x s t) (8 * j + k))

-- An image of n blocks has this packed form.
pub record PackedForm (n : ℕ) (x : Cells) (packed : List ℕ) : Type 0 where
  pub byte : (s : TrackSet) (t j : ℕ) → t < tracks (base n) s → j < track_bytes n →
      get_or packed (head_place s t * track_bytes n + j) 0 ≡ packed_byte n x s t j

-- A padding bit, the last bit of the track at some place, is 1.
pub record PaddingSet (n : ℕ) (packed : List ℕ) : Type 0 where
  pub place : ℕ
  pub inside : place < all_tracks (base n)
  pub bit : get_or packed (place * track_bytes n + (n + 1)) 0 % 2 ≡ 1
