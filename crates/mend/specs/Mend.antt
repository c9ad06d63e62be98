-- Between bytes and words: sums loaded, errors added to the output, tails cleared.
use Rattle.std.specs.Prelude.{◌≡◌, ◌≢◌, Bool, true, false, Option, Some, List, ℕ, ◌+◌, ◌*◌, ◌<◌, ◌≤◌, ◌%◌, length, get_or}
use Rattle.code.specs.declared.sizes.TrackSet.{TrackSet}
use Rattle.code.specs.Record.{tracks, track_length, Cells}
use Rattle.code.specs.Image.{cells}
use Rattle.code.specs.Flags.{TrackFlags}
use Rattle.code.specs.Sizes.{shape}
use Rattle.code.specs.declared.sizes.Sizes.{Sizes}
use Rattle.code.proofs.Linear.{plus}
use Rattle.code.proofs.OneTrack.{put}
use Rattle.track.specs.Track.{row}
use Rattle.syndrome.specs.Syndrome.{Image}
use Rattle.plans.specs.declared.Form.{Form}
use Rattle.plans.specs.Plans.{count, v_of, u_of}
use Rattle.forms.specs.Found.{Sums, low_sum}
use Rattle.errors.specs.Rows.{cell, Rows, diagonals, verticals}
use Rattle.mend.specs.declared.Need.{Need}
use Rattle.mend.specs.declared.Need.TheVariants.{Nothing, Track, More}

-- ## Sums

-- Word i of the first q rows has the cells of four rows of 64 from k on, as far as they are before n, and no earlier cell is changed.
pub record RunLoaded (run : List ℕ) (i n k q : ℕ) (before after : List ℕ) : Type 0 where
  pub rows : Rows 4 after
  pub here : (r j : ℕ) → r < q → k + j < 64 → k + j < n → cell after r (64 * i + j) ≡ row 64 run r (k + j)
  pub early : (r m : ℕ) → r < 4 → m < 64 * i → cell after r m ≡ cell before r m

-- Four rows of words have the sums of an image.
pub record SumsIn (z : Sizes) (image words : List ℕ) : Type 0 where
  pub rows : Rows 4 words
  pub sums : Sums (shape z) (cells (shape z) image) (diagonals words) (verticals words)

-- A word past which the first sum that is not 0 comes, of l; or the last word and more, where all are 0.
pub record StartOf (l : ℕ) (rows : List ℕ) (start : ℕ) : Type 0 where
  pub within : start ≤ 33
  pub zero : 0 < start → (r m : ℕ) → r < 4 → m < 64 * (start + 1) → m < l → cell rows r m ≡ 0

-- ## Errors

-- f is added modulo 2 to track number g, of l cells, and no other track is changed.
pub record RowAdded (l g : ℕ) (f : ℕ → ℕ) (before after : List ℕ) : Type 0 where
  pub size : length after ≡ length before
  pub bits : (i : ℕ) → get_or after i 0 < 2
  pub here : (m : ℕ) → m < l → get_or after (g * l + m) 0 ≡ (get_or before (g * l + m) 0 + f m) % 2
  pub there : (k m : ℕ) → k ≢ g → m < l → get_or after (k * l + m) 0 ≡ get_or before (k * l + m) 0

-- A record is added modulo 2.
pub record Added (z : Sizes) (e : Cells) (before after : List ℕ) : Type 0 where
  pub image : Image (shape z) after
  pub cell_at : (s : TrackSet) (t m : ℕ) → t < tracks (shape z) s → m < track_length (shape z) →
      cells (shape z) after s t m ≡ plus (cells (shape z) before) e s t m

-- The errors below the pivots of a form: v's, and u's where there are two.
abbrev pub lower_errors : Form → List ℕ → Cells
lower_errors p found c t m =
    low_sum (count p) (put (v_of p).s (v_of p).t (cell found 1) c t m) (put (u_of p).s (u_of p).t (cell found 0) c t m)

-- ## Tails

-- The tail of track t of set s is 0 now, and no other cell is changed. r says whether it was not.
pub record TailCleared (z : Sizes) (s : TrackSet) (t : ℕ) (before after : List ℕ) (r : Bool) : Type 0 where
  pub image : Image (shape z) after
  pub zero : (m : ℕ) → z.positions ≤ m → m < track_length (shape z) → cells (shape z) after s t m ≡ 0
  pub same : (c : TrackSet) (u m : ℕ) → u < tracks (shape z) c → m < track_length (shape z) → (c ≡ s → u ≡ t → z.positions ≤ m → ⊥) →
      cells (shape z) after c u m ≡ cells (shape z) before c u m
  pub was_zero : r ≡ false → (m : ℕ) → z.positions ≤ m → m < track_length (shape z) → cells (shape z) before s t m ≡ 0
  pub was_not : r ≡ true → ((m : ℕ) → z.positions ≤ m → m < track_length (shape z) → cells (shape z) before s t m ≡ 0) → ⊥

-- Does an extra, none or a track, explain what is needed?
abbrev pub Explained : Need → Option ℕ → Type 0
Explained Nothing e = Unit {0}
Explained (Track t) e = e ≡ Some t
Explained More e = ⊥

-- What is needed with track t besides: no extra explains both but t, and t alone where nothing was needed.
abbrev pub with_track : Need → ℕ → Need
with_track Nothing t = Track t
with_track (Track u) t = More
with_track More t = More

-- Of the tracks of set s from 1 up to n, those that are not flagged are 0 in the tail, but for the extra e.
abbrev pub TailsBut : Sizes → TrackSet → TrackFlags → List ℕ → ℕ → Option ℕ → Type 0
TailsBut z s f image n e = (t m : ℕ) → 1 ≤ t → t < n → f s t ≡ false → e ≢ Some t → z.positions ≤ m → m < track_length (shape z) →
    cells (shape z) image s t m ≡ 0

-- The tails of the tracks of set s from 1 up to n are 0 now. Those that are not flagged were so before, but for an extra, exactly where
-- the extra explains the need.
pub record TailsCleared (z : Sizes) (s : TrackSet) (f : TrackFlags) (n : ℕ) (before after : List ℕ) (need : Need) : Type 0 where
  pub image : Image (shape z) after
  pub zero : (t m : ℕ) → 1 ≤ t → t < n → z.positions ≤ m → m < track_length (shape z) → cells (shape z) after s t m ≡ 0
  pub same : (c : TrackSet) (t m : ℕ) → t < tracks (shape z) c → m < track_length (shape z) → (c ≡ s → 1 ≤ t → t < n → z.positions ≤ m → ⊥) →
      cells (shape z) after c t m ≡ cells (shape z) before c t m
  pub fits : (e : Option ℕ) → Explained need e → TailsBut z s f before n e
  pub fails : (e : Option ℕ) → (Explained need e → ⊥) → TailsBut z s f before n e → ⊥
