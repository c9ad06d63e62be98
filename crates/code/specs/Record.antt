-- Document 01, "The record": sets, tracks and positions, the four rules, good records.
use Rattle.std.specs.Prelude.{◌≡◌, ℕ, zero, suc, ◌+◌, ◌*◌, ◌-◌, ◌<◌, ◌≤◌, ◌%◌}
-- The two sets of tracks, A and B.
pub use Rattle.code.specs.declared.sizes.TrackSet.{TrackSet}
pub use Rattle.code.specs.declared.sizes.TrackSet.TheVariants.{A, B}

abbrev pub other : TrackSet → TrackSet
other A = B
other B = A

-- The row of a set in a table of both.
abbrev pub row_of : TrackSet → ℕ
row_of A = 0
row_of B = 1

-- The closing of the tail. Document 01's records are closed: rule 3 carries the vertical track through the tail.
-- Where the tail is open, the vertical track is 0 there too, and rule 3 ends with the data.
pub data Closing : Type 0 where
  closed_tail open_tail : Closing

abbrev pub by_closing : Closing → ℕ → ℕ → ℕ
by_closing closed_tail c o = c
by_closing open_tail c o = o

-- What the rules depend on: the data tracks T1 of A and T2 of B, the positions N, and the closing.
pub record Shape : Type 0 where
  pub t1 : ℕ
  pub t2 : ℕ
  pub positions : ℕ
  pub closing : Closing

-- The shape of document 01: n blocks, N = 8n, 7 data tracks a set. Of no blocks (document 02, note 3) a record is its tail.
abbrev pub base : ℕ → Shape
base n = record { t1 = 7; t2 = 7; positions = 8 * n; closing = closed_tail }

-- The data tracks of a set are tracks 1 to T. Track 0 is its diagonal check track and track T + 1 its vertical one.
abbrev pub data_tracks : Shape → TrackSet → ℕ
data_tracks sh A = sh.t1
data_tracks sh B = sh.t2

-- The tracks of a set: 9 in document 01, 0 to 8.
abbrev pub tracks : Shape → TrackSet → ℕ
tracks sh s = suc (suc (data_tracks sh s))

-- The diagonals' lag, 15, which is the tail's length too.
abbrev pub lag : Shape → ℕ
lag sh = sh.t1 + sh.t2 + 1

-- L, the cells of a track.
abbrev pub track_length : Shape → ℕ
track_length sh = sh.positions + lag sh

-- X(m,t) of document 01 is x X t m: set, track, position.
abbrev pub Cells : Type 0
Cells = TrackSet → ℕ → ℕ → ℕ

-- The cell k positions before m; a cell at a negative position counts as 0.
unfoldable pub back : (ℕ → ℕ) → ℕ → ℕ → ℕ
back x m zero = x m
back x zero (suc k) = 0
back x (suc m) (suc k) = back x m k

-- The sum of f t over t < n.
unfoldable pub sum : ℕ → (ℕ → ℕ) → ℕ
sum zero f = 0
sum (suc n) f = sum n f + f n

-- Rules 1 and 2: the diagonal of a set at m, over its own tracks 0 to T and the other set's.
-- A's is the positive diagonal and B's the negative one. The vertical track lies on no diagonal.
unfoldable pub diagonal : Shape → Cells → TrackSet → ℕ → ℕ
diagonal sh x s m =
    sum (suc (data_tracks sh s)) (λ t. back (x s t) m t)
    + sum (suc (data_tracks sh (other s))) (λ t. back (x (other s) t) m (lag sh - t))

-- Rule 3: the vertical of a set at m, over all its tracks.
unfoldable pub vertical : Shape → Cells → TrackSet → ℕ → ℕ
vertical sh x s m = sum (tracks sh s) (λ t. x s t m)

-- Rule 3 holds at the positions before this one.
abbrev pub vertical_end : Shape → ℕ
vertical_end sh = by_closing sh.closing (track_length sh) sh.positions

-- Rule 4 makes the tracks from 1 up to this one, itself not among them, 0 in the tail.
abbrev pub tail_tracks : Shape → TrackSet → ℕ
tail_tracks sh s = by_closing sh.closing (suc (data_tracks sh s)) (tracks sh s)

-- A good record: its cells are 0 or 1 and the four rules hold.
pub record Good (sh : Shape) (x : Cells) : Type 0 where
  pub bits : (s : TrackSet) (t m : ℕ) → t < tracks sh s → m < track_length sh → x s t m < 2
  pub diagonals : (s : TrackSet) (m : ℕ) → m < track_length sh → diagonal sh x s m % 2 ≡ 0
  pub verticals : (s : TrackSet) (m : ℕ) → m < vertical_end sh → vertical sh x s m % 2 ≡ 0
  pub tail : (s : TrackSet) (t m : ℕ) → 1 ≤ t → t < tail_tracks sh s → sh.positions ≤ m → m < track_length sh → x s t m ≡ 0

-- Two records of a shape are the same.
pub record Same (sh : Shape) (x y : Cells) : Type 0 where
  pub cell : (s : TrackSet) (t m : ℕ) → t < tracks sh s → m < track_length sh → x s t m ≡ y s t m

-- The all-zero record.
abbrev pub blank : Cells
blank s t m = 0
