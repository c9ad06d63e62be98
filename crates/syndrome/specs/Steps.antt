-- What the private functions ask and give.
use Rattle.std.specs.Prelude.{◌≡◌, ◌≢◌, Bool, true, false, List, ℕ, ◌+◌, ◌*◌, ◌-◌, ◌<◌, ◌≤◌, ◌%◌, length, get_or, set}
use Rattle.code.specs.Record.{Shape, data_tracks, track_length, Cells, back}
use Rattle.code.specs.declared.sizes.TrackSet.{TrackSet}
use Rattle.track.specs.Track.{Bits}
use Rattle.code.proofs.Linear.{◌⊞◌}
use Rattle.code.proofs.Mono.{mono}
use Rattle.code.proofs.OneTrack.{put}
use Rattle.syndrome.specs.Syndrome.{Holds}

-- A track's stretch of an image, and its cells.
pub record Stretch (l : ℕ) (xs : List ℕ) : Type 0 where
  pub size : length xs ≡ l
  pub bits : (i : ℕ) → get_or xs i 0 < 2

abbrev pub cells_of : List ℕ → ℕ → ℕ
cells_of xs m = get_or xs m 0

-- Four rows of l bits.
pub record Rows (l : ℕ) (syn : List ℕ) : Type 0 where
  pub size : length syn ≡ 4 * l
  pub bits : (i : ℕ) → get_or syn i 0 < 2

-- Such rows, and a place in one of them at which a track is to begin.
pub record Ready (l row off : ℕ) (syn : List ℕ) : Type 0 where
  pub row_small : row < 4
  pub off_small : off ≤ l
  pub rows : Rows l syn

-- The track whose cell at p is w, and whose other cells are 0.
abbrev pub one_cell : ℕ → ℕ → ℕ → ℕ
one_cell w p m = w * mono p m

-- A track is added to one row modulo 2, its first cell at `off`, and the other rows stay.
pub record RowAdded (l row : ℕ) (f : ℕ → ℕ) (off : ℕ) (before after : List ℕ) : Type 0 where
  pub rows : Rows l after
  pub here : (m : ℕ) → m < l → get_or after (row * l + m) 0 ≡ (get_or before (row * l + m) 0 + back f m off) % 2
  pub there : (r m : ℕ) → r ≢ row → m < l → get_or after (r * l + m) 0 ≡ get_or before (r * l + m) 0

-- w is added modulo 2 to cell i.
pub record BitAdded (xs : List ℕ) (i w : ℕ) (after : List ℕ) : Type 0 where
  pub size : length after ≡ length xs
  pub bits : Bits after
  pub zero : w ≡ 0 → after ≡ xs
  pub one : w ≡ 1 → after ≡ set xs i (1 - get_or xs i 0)

-- Syndromes of a record become those of the record to which f is added on one track.
pub record TrackAdded (sh : Shape) (s : TrackSet) (t : ℕ) (f : ℕ → ℕ) (before after : List ℕ) : Type 0 where
  pub rows : Rows (track_length sh) after
  pub holds : (x : Cells) → Holds sh x before → Holds sh (x ⊞ put s t f) after

-- A track is 0 in the tail.
pub record TrackTail (sh : Shape) (x : Cells) (s : TrackSet) (t : ℕ) : Type 0 where
  pub zero : (m : ℕ) → sh.positions ≤ m → m < track_length sh → x s t m ≡ 0

-- r says whether it is.
pub record TrackTested (sh : Shape) (x : Cells) (s : TrackSet) (t : ℕ) (r : Bool) : Type 0 where
  pub yes : r ≡ true → TrackTail sh x s t
  pub no : r ≡ false → TrackTail sh x s t → ⊥

-- All data tracks of a set are, and r says whether.
abbrev pub TailZero : Shape → Cells → TrackSet → Type 0
TailZero sh x s = (t : ℕ) → 1 ≤ t → t ≤ data_tracks sh s → TrackTail sh x s t

pub record TailTested (sh : Shape) (x : Cells) (s : TrackSet) (r : Bool) : Type 0 where
  pub all : r ≡ true → TailZero sh x s
  pub not_all : r ≡ false → TailZero sh x s → ⊥
