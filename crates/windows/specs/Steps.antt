-- What the steps give: runs and stretches that are flagged, lost cells of a track, windows that grow, and codes of words.
use Rattle.std.specs.Prelude.{◌≡◌, ◌≢◌, Bool, true, false, ◌&&◌, ◌||◌, not, List, ℕ, ◌+◌, ◌-◌, ◌*◌, ◌%◌, ◌<◌, ◌≤◌, ltb, length, get_or}
use Rattle.std.specs.Int.Bits.{bit_or}
use Rattle.code.specs.Record.{Shape}
use Rattle.code.specs.Flags.{word_flags, any}
use Rattle.code.specs.Lost.{is_lost}
use Rattle.code.specs.Reach.{pick, flags_code}
use Rattle.flags.specs.Words.{bit_at}

-- ## Stretches

-- Cell i lies in the stretch of the image from one cell to before another.
abbrev pub in_stretch : ℕ → ℕ → ℕ → Bool
in_stretch from to i = not (ltb i from) && ltb i to

-- Every word of a run has a bit more.
pub record RunFlagged (before : List ℕ) (bit : ℕ) (after : List ℕ) : Type 0 where
  pub size : length after ≡ length before
  pub words : (m : ℕ) → m < length before → get_or after m 0 ≡ bit_or (get_or before m 0) bit

-- The cells of a stretch are flagged besides, in tracks of l cells.
pub record StretchFlagged (l : ℕ) (before : List ℕ) (from to : ℕ) (after : List ℕ) : Type 0 where
  pub size : length after ≡ length before
  pub flags : (g m : ℕ) → m < l → bit_at (get_or after m 0) g ≡ bit_at (get_or before m 0) g || in_stretch from to (g * l + m)

-- r is where a stretch that begins at `at` is left for the next track, or ends.
pub record StretchEnd (l at to r : ℕ) : Type 0 where
  pub later : at < r
  pub within : r ≤ to
  pub in_track : at % l + (r - at) ≤ l

-- ## Lost cells

-- The lost cells of a track have a bit more in the words.
pub record TrackFlagged (track before : List ℕ) (bit : ℕ) (after : List ℕ) : Type 0 where
  pub size : length after ≡ length before
  pub words : (m : ℕ) → m < length track → get_or after m 0 ≡ bit_or (get_or before m 0) (pick (is_lost (get_or track m 0)) bit 0)

-- The lost cells of track number g are flagged besides, in tracks of l cells.
pub record LostAdded (l : ℕ) (image : List ℕ) (g : ℕ) (before after : List ℕ) : Type 0 where
  pub size : length after ≡ length before
  pub here : (m : ℕ) → m < l → bit_at (get_or after m 0) g ≡ bit_at (get_or before m 0) g || is_lost (get_or image (g * l + m) 0)
  pub there : (h m : ℕ) → h ≢ g → m < l → bit_at (get_or after m 0) h ≡ bit_at (get_or before m 0) h

-- ## Windows

-- Every word has that of d positions later besides.
pub record Widened (before : List ℕ) (d : ℕ) (after : List ℕ) : Type 0 where
  pub size : length after ≡ length before
  pub words : (m : ℕ) → get_or after m 0 ≡ bit_or (get_or before m 0) (get_or before (m + d) 0)

-- `near` has for each position the flagged cells of its window of w positions.
pub record Joined (words : List ℕ) (w : ℕ) (near : List ℕ) : Type 0 where
  pub size : length near ≡ length words
  pub bits : (g m : ℕ) → bit_at (get_or near m 0) g ≡ any w (λ k. bit_at (get_or words (m + k) 0) g)

-- A word without a code.
pub record WordWithout (sh : Shape) (near : List ℕ) : Type 0 where
  pub position : ℕ
  pub inside : position < length near
  pub code : flags_code sh (word_flags sh (get_or near position 0)) ≡ 0

-- r says whether all words have a code.
pub record AllCoded (sh : Shape) (near : List ℕ) (r : Bool) : Type 0 where
  pub coded : r ≡ true → (m : ℕ) → m < length near → flags_code sh (word_flags sh (get_or near m 0)) ≢ 0
  pub without : r ≡ false → WordWithout sh near
