-- What the private functions ask and give.
use Rattle.std.specs.Prelude.{◌≡◌, ◌≢◌, List, ℕ, suc, ◌+◌, ◌*◌, ◌%◌, ◌<◌, ◌≤◌, ltb, length, get_or}
use Rattle.code.specs.Record.{Shape, data_tracks, track_length, sum, vertical, Good}
use Rattle.code.specs.declared.sizes.TrackSet.{TrackSet}
use Rattle.code.specs.Image.{track_number, image_size, cells}
use Rattle.code.specs.Payload.{digits, payload_size, Carries}
use Rattle.code.specs.Reach.{pick}
use Rattle.code.specs.Sizes.{shape}
use Rattle.code.specs.declared.sizes.Sizes.{Sizes}
use Rattle.track.specs.Track.{row, Bits}
use Rattle.syndrome.specs.Syndrome.{Image}

-- ## Data tracks and columns: column p of a payload is byte p of each block of w bytes

-- A record of n blocks: its sizes, an image of it, and room for its payload.
pub record Sized (z : Sizes) (n : ℕ) (image payload : List ℕ) : Type 0 where
  pub positions : z.positions ≡ 8 * n
  pub whole : length image ≡ image_size (shape z)
  pub room : payload_size (shape z) n ≤ length payload

-- A track of l cells has room for n bytes, and a payload has n blocks of w bytes and a column p.
pub record Column (l n w p : ℕ) (payload : List ℕ) : Type 0 where
  pub cells : 8 * n ≤ l
  pub bytes : n * w ≤ length payload
  pub column : p < w

-- The number of the track along which column p goes.
unfoldable pub data_number : Shape → ℕ → ℕ
data_number sh p = pick (ltb p sh.t1) (p + 1) (p + 3)

-- There it begins, and an image has it.
pub record DataStart (sh : Shape) (p r : ℕ) : Type 0 where
  pub is : r ≡ data_number sh p * track_length sh
  pub room : r + track_length sh ≤ image_size sh

-- The first n bytes of column p are a track's first cells, and the rest of it is 0.
pub record Filled (l n w p : ℕ) (payload : List ℕ) (f : ℕ → ℕ) : Type 0 where
  pub bit : (m : ℕ) → m < l → f m < 2
  pub byte : (b : ℕ) → b < n → get_or payload (b * w + p) 0 ≡ digits 8 (λ k. f (8 * b + k))
  pub rest : (m : ℕ) → 8 * n ≤ m → m < l → f m ≡ 0

-- The first p columns are written to their tracks, and all other tracks are 0.
pub record Filling (sh : Shape) (n p : ℕ) (payload image : List ℕ) : Type 0 where
  pub size : length image ≡ image_size sh
  pub done : (q : ℕ) → q < p → Filled (track_length sh) n (sh.t1 + sh.t2) q payload (row (track_length sh) image (data_number sh q))
  pub rest : (r m : ℕ) → ((q : ℕ) → q < p → r ≢ data_number sh q) → m < track_length sh → row (track_length sh) image r m ≡ 0

-- The first n bytes of column p are read from a track, and all other bytes stay.
pub record ColumnRead (n w p : ℕ) (f : ℕ → ℕ) (before after : List ℕ) : Type 0 where
  pub size : length after ≡ length before
  pub here : (b : ℕ) → b < n → get_or after (b * w + p) 0 ≡ digits 8 (λ k. f (8 * b + k))
  pub there : (b q : ℕ) → q < w → q ≢ p → get_or after (b * w + q) 0 ≡ get_or before (b * w + q) 0
  pub later : (i : ℕ) → n * w ≤ i → get_or after i 0 ≡ get_or before i 0

-- The first p columns are read from their tracks, and the bytes behind the payload stay.
pub record Reading (sh : Shape) (n p : ℕ) (image before after : List ℕ) : Type 0 where
  pub size : length after ≡ length before
  pub done : (b q : ℕ) → b < n → q < p →
      get_or after (b * (sh.t1 + sh.t2) + q) 0 ≡ digits 8 (λ k. row (track_length sh) image (data_number sh q) (8 * b + k))
  pub later : (i : ℕ) → payload_size sh n ≤ i → get_or after i 0 ≡ get_or before i 0

-- ## Check tracks

-- A track of an image becomes a given stretch, and the other tracks stay.
pub record TrackPut (l g : ℕ) (stretch before after : List ℕ) : Type 0 where
  pub size : length after ≡ length before
  pub here : (m : ℕ) → m < l → row l after g m ≡ get_or stretch m 0
  pub there : (r m : ℕ) → r ≢ g → m < l → row l after r m ≡ row l before r m

-- The first n data tracks of a set are added to a stretch modulo 2.
pub record DataAdded (sh : Shape) (s : TrackSet) (n : ℕ) (image before after : List ℕ) : Type 0 where
  pub size : length after ≡ length before
  pub bits : Bits after
  pub summed : (m : ℕ) → m < track_length sh → get_or after m 0 ≡ (get_or before m 0 + sum n (λ c. cells sh image s (suc c) m)) % 2

-- Track 0 of a set becomes a given stretch, the vertical track makes the set's verticals even, and all other tracks stay.
pub record ChecksPut (sh : Shape) (s : TrackSet) (stretch before after : List ℕ) : Type 0 where
  pub image : Image sh after
  pub first : (m : ℕ) → m < track_length sh → cells sh after s 0 m ≡ get_or stretch m 0
  pub even : (m : ℕ) → m < track_length sh → vertical sh (cells sh after) s m % 2 ≡ 0
  pub others : (g m : ℕ) → g ≢ track_number sh s 0 → g ≢ track_number sh s (suc (data_tracks sh s)) → m < track_length sh →
      row (track_length sh) after g m ≡ row (track_length sh) before g m

-- An image is the good record of a payload.
pub record GoodRecord (sh : Shape) (n : ℕ) (payload image : List ℕ) : Type 0 where
  pub good : Good sh (cells sh image)
  pub carries : Carries sh n (cells sh image) payload
