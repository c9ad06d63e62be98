-- Sums of 64 positions, and rows that they are put into.
use Rattle.std.specs.Prelude.{◌≡◌, ◌≢◌, List, ℕ, zero, suc, ◌+◌, ◌*◌, ◌<◌, ◌≤◌, ◌%◌, length, get_or}
use Rattle.std.specs.Int.Bits.{bit_xor}
use Rattle.code.specs.Record.{row_of, Shape, lag, track_length, Cells, diagonal, vertical}
use Rattle.code.specs.declared.sizes.TrackSet.{TrackSet}
use Rattle.code.specs.declared.sizes.TrackSet.TheVariants.{A, B}
use Rattle.code.specs.Sizes.{shape}
use Rattle.code.specs.declared.sizes.Sizes.{Sizes}
use Rattle.track.specs.Track.{row}
use Rattle.syndrome.specs.Syndrome.{Image}

-- A run's sums are f at the 64 positions from m on, modulo 2.
pub record SumsOf (f : ℕ → ℕ) (m : ℕ) (run : List ℕ) : Type 0 where
  pub size : length run ≡ 64
  pub at : (k : ℕ) → k < 64 → get_or run k 0 ≡ f (m + k) % 2

-- The 64 cells of a track from `from` on are added to a run's sums.
pub record TrackRun (f : ℕ → ℕ) (from : ℕ) (run after : List ℕ) : Type 0 where
  pub size : length after ≡ 64
  pub at : (k : ℕ) → k < 64 → get_or after k 0 ≡ bit_xor (get_or run k 0) (f (from + k))

-- The tracks of an image have 64 positions from m on, and before m as many as a diagonal goes back.
pub record Within (z : Sizes) (m : ℕ) (image : List ℕ) : Type 0 where
  pub is_image : Image (shape z) image
  pub from : lag (shape z) ≤ m
  pub to : m + 64 ≤ track_length (shape z)

-- The sums that row r holds: the diagonals of A and of B, then their verticals.
abbrev pub rule : Shape → Cells → ℕ → ℕ → ℕ
rule sh x zero = diagonal sh x A
rule sh x (suc zero) = diagonal sh x B
rule sh x (suc (suc zero)) = vertical sh x A
rule sh x (suc (suc (suc r))) = vertical sh x B

-- A run's sums are put into row r of rows of w cells, from q on, and all other cells stay.
pub record RunPut (w r q : ℕ) (run before after : List ℕ) : Type 0 where
  pub size : length after ≡ length before
  pub here : (k : ℕ) → k < 64 → row w after r (q + k) ≡ get_or run k 0
  pub there : (g m : ℕ) → g ≢ r → m < w → row w after g m ≡ row w before g m
  pub early : (m : ℕ) → m < q → row w after r m ≡ row w before r m
  pub late : (m : ℕ) → q + 64 ≤ m → m < w → row w after r m ≡ row w before r m

-- At the 64 positions from q on a set's two rows hold what f has from m on, and all other cells stay.
pub record SetPut (w q : ℕ) (f : ℕ → ℕ → ℕ) (m : ℕ) (s : TrackSet) (before after : List ℕ) : Type 0 where
  pub size : length after ≡ length before
  pub first : (k : ℕ) → k < 64 → row w after (row_of s) (q + k) ≡ f (row_of s) (m + k) % 2
  pub second : (k : ℕ) → k < 64 → row w after (2 + row_of s) (q + k) ≡ f (2 + row_of s) (m + k) % 2
  pub early : (r i : ℕ) → i < q → row w after r i ≡ row w before r i
  pub late : (r i : ℕ) → q + 64 ≤ i → i < w → row w after r i ≡ row w before r i
  pub rest : (r i : ℕ) → r ≢ row_of s → r ≢ 2 + row_of s → i < w → row w after r i ≡ row w before r i

-- So do all four rows.
pub record RowsPut (w q : ℕ) (f : ℕ → ℕ → ℕ) (m : ℕ) (before after : List ℕ) : Type 0 where
  pub size : length after ≡ length before
  pub here : (r k : ℕ) → r < 4 → k < 64 → row w after r (q + k) ≡ f r (m + k) % 2
  pub early : (r i : ℕ) → i < q → row w after r i ≡ row w before r i
  pub late : (r i : ℕ) → q + 64 ≤ i → i < w → row w after r i ≡ row w before r i

-- There the rows hold bits: a record's sums at the positions from p on, as far as it has them. All other cells stay.
pub record SumsPut (w q : ℕ) (sh : Shape) (x : Cells) (p : ℕ) (before after : List ℕ) : Type 0 where
  pub size : length after ≡ length before
  pub bits : (r k : ℕ) → r < 4 → k < 64 → row w after r (q + k) < 2
  pub sums : (r k : ℕ) → r < 4 → k < 64 → p + k < track_length sh → row w after r (q + k) ≡ rule sh x r (p + k) % 2
  pub early : (r i : ℕ) → i < q → row w after r i ≡ row w before r i
  pub late : (r i : ℕ) → q + 64 ≤ i → i < w → row w after r i ≡ row w before r i

-- A run begins at p that has position m and, before m + 64, all later ones of a track of l cells. It ends with the track or before, where
-- that is as long.
pub record RunStart (l m p : ℕ) : Type 0 where
  pub starts : p ≤ m
  pub ends : 64 ≤ l → p + 64 ≤ l
  pub short : l < 64 → p ≡ 0
  pub reaches : (i : ℕ) → i < m + 64 → i < l → i < p + 64

-- The rows hold the sums of a record at the positions before n.
pub record Done (sh : Shape) (x : Cells) (n : ℕ) (syn : List ℕ) : Type 0 where
  pub size : length syn ≡ 4 * track_length sh
  pub sums : (r q : ℕ) → r < 4 → q < n → q < track_length sh → row (track_length sh) syn r q ≡ rule sh x r q % 2
