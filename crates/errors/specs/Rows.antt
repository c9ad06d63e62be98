-- Rows of cells in one list of words: 34 words a row, of which the first is 0, and a last one after all rows.
use Rattle.std.specs.Prelude.{◌≡◌, ◌≢◌, List, ℕ, ◌+◌, ◌*◌, ◌<◌, ◌≤◌, ◌%◌, length, get_or}
use Rattle.code.specs.declared.sizes.TrackSet.{TrackSet}
use Rattle.code.specs.Record.{row_of, Shape, data_tracks, lag, track_length, back}
use Rattle.code.proofs.OneTrack.{offset}
use Rattle.words.specs.Words.{bit, bit_at}
use Rattle.forms.specs.Streams.{Stream, cut}

-- The cells of row r.
unfoldable pub cell : List ℕ → ℕ → Stream
cell ws r = cut 2112 (λ m. bit_at ws (2176 * r + (64 + m)))

pub record Rows (n : ℕ) (ws : List ℕ) : Type 0 where
  pub size : length ws ≡ 34 * n + 1
  pub lead : (r : ℕ) → r < n → get_or ws (34 * r) 0 ≡ 0

-- The diagonals and the verticals of four rows of sums.
abbrev pub diagonals : List ℕ → TrackSet → Stream
diagonals rows d = cell rows (row_of d)

abbrev pub verticals : List ℕ → TrackSet → Stream
verticals rows c = cell rows (2 + row_of c)

-- w has the 64 cells of f, modulo 2, from position `at` - 64 on, as far as they are before position n.
pub record Shown (n : ℕ) (f : Stream) (at w : ℕ) : Type 0 where
  pub cells : (k : ℕ) → k < 64 → at + k < 64 + n → bit w k ≡ back f (at + k) 64 % 2

-- The same k positions later, of the cells before `end`; nothing, where k is a word or more.
pub record Late (ws : List ℕ) (row at k end w : ℕ) : Type 0 where
  pub near : k < 64 → (n : ℕ) → n ≤ 2112 → Shown n (λ m. back (cut end (cell ws row)) m k) at w
  pub far : 64 ≤ k → w ≡ 0

-- w has what the diagonal of set d meets of f before `end`, from position `at` - 64 on, where f is on track t of set s.
abbrev pub Charged : Shape → ℕ → TrackSet → TrackSet → ℕ → Stream → ℕ → ℕ → Type 0
Charged sh end d s t f at w = Shown (track_length sh) (λ m. back (cut end f) m (offset sh d s t)) at w

-- r is how many positions back the diagonal of set d has track t of set s, and a word or more where it has it nowhere.
pub record Delay (sh : Shape) (d s : TrackSet) (t r : ℕ) : Type 0 where
  pub near : t ≤ data_tracks sh s → r ≡ offset sh d s t
  pub small : t ≤ data_tracks sh s → r ≤ lag sh
  pub far : data_tracks sh s < t → r ≡ 64

-- d stands for the gap g: a word or more stands for a whole track.
pub record GapOf (sh : Shape) (g d : ℕ) : Type 0 where
  pub positive : 0 < d
  pub near : d < 64 → d ≡ g
  pub far : 64 ≤ d → track_length sh ≤ g

-- Word i of row r is w now, and no other cell is changed.
pub record Put (n : ℕ) (before : List ℕ) (row i w : ℕ) (after : List ℕ) : Type 0 where
  pub rows : Rows n after
  pub here : (k : ℕ) → k < 64 → cell after row (64 * i + k) ≡ bit w k
  pub early : (m : ℕ) → m < 64 * i → cell after row m ≡ cell before row m
  pub there : (r : ℕ) → r < n → r ≢ row → cell after r ≡ cell before r

-- x is word i of a quotient of R by 1 + D^g, before `most`, of which C has the cells that count again: P before the word, and of the
-- word itself the first n.
pub record Next (R P : Stream) (g n i most x : ℕ) : Type 0 where
  pub cells : (C : Stream) → ((m : ℕ) → m < 64 * i → C m ≡ P m) → ((k : ℕ) → k < 64 → k < n → 64 * i + k < most → C (64 * i + k) ≡ bit x k) →
      ((k : ℕ) → k < 64 → n ≤ k → 64 * i + k < most → C (64 * i + k) ≡ 0) →
      (k : ℕ) → k < 64 → 64 * i + k < most → bit x k ≡ (R (64 * i + k) + back C (64 * i + k) g) % 2
