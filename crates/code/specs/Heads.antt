-- Document 02, note 8: diagonals in head order. Cells arrive A0, B0, A1, B1 and so on.
use Rattle.std.specs.Prelude.{◌≡◌, ℕ, zero, suc, ◌+◌, ◌-◌, ◌<◌, ltb}
use Rattle.code.specs.Record.{TrackSet, A, B, Shape, data_tracks, lag, Cells, back, sum, diagonal}
use Rattle.code.specs.Reach.{pick}

-- How many positions back from m the diagonal of set d has track t of set s: rules 1 and 2.
abbrev pub slope : Shape → TrackSet → TrackSet → ℕ → ℕ
slope sh A A t = t
slope sh A B t = lag sh - t
slope sh B A t = lag sh - t
slope sh B B t = t

-- What track t of set s adds to the diagonal of set d at m. A track past T lies on no diagonal.
unfoldable pub share : Shape → Cells → TrackSet → TrackSet → ℕ → ℕ → ℕ
share sh x d s t m = pick (ltb (data_tracks sh s) t) 0 (back (x s t) m (slope sh d s t))

-- The running sum of the diagonal of set d at m when n tracks of each set have arrived, A's before B's.
unfoldable pub running : Shape → Cells → TrackSet → ℕ → ℕ → ℕ
running sh x d zero m = 0
running sh x d (suc t) m = running sh x d t m + share sh x d A t m + share sh x d B t m

-- The running sum before track t of a set arrives, and after it.
abbrev pub before : Shape → Cells → TrackSet → TrackSet → ℕ → ℕ → ℕ
before sh x d A t m = running sh x d t m
before sh x d B t m = running sh x d t m + share sh x d A t m

abbrev pub after : Shape → Cells → TrackSet → TrackSet → ℕ → ℕ → ℕ
after sh x d s t m = before sh x d s t m + share sh x d s t m

-- What the note says of the diagonal of set d at m, for every record, and so for every image.
pub record HeadOrder (sh : Shape) (x : Cells) (d : TrackSet) (m : ℕ) : Type 0 where
  -- Track 0 of A is the first to be added; track t of B is the next after track t of A, and track t + 1 of A after it.
  pub first : before sh x d A 0 m ≡ 0
  pub then_b : (t : ℕ) → before sh x d B t m ≡ after sh x d A t m
  pub then_a : (t : ℕ) → before sh x d A (suc t) m ≡ after sh x d B t m
  -- After track t of B the running sum is that of tracks 0 to t of both sets.
  pub after_b : (t : ℕ) → after sh x d B t m ≡ sum (suc t) (λ u. share sh x d A u m) + sum (suc t) (λ u. share sh x d B u m)
  -- The whole, when all tracks that lie on the diagonal have arrived, is the sum set after set of rules 1 and 2.
  pub whole : (n : ℕ) → data_tracks sh A < n → data_tracks sh B < n → running sh x d n m ≡ diagonal sh x d m
