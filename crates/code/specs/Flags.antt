-- Document 01, "Flags and reach": flag words, flagged tracks and flagged cells.
use Rattle.std.specs.Prelude.{◌≡◌, Bool, true, false, ◌||◌, ℕ, zero, suc, ◌+◌, ◌/◌, ◌%◌, ◌^◌, ◌<◌, ◌≤◌, eqb}
use Rattle.code.specs.Record.{TrackSet, A, B, other, open_tail, Shape, tracks, track_length, Cells, sum}
use Rattle.code.specs.Image.{track_number}

-- Which tracks are flagged, and which cells: a flagged track is all of its cells.
abbrev pub TrackFlags : Type 0
TrackFlags = TrackSet → ℕ → Bool

abbrev pub CellFlags : Type 0
CellFlags = TrackSet → ℕ → ℕ → Bool

abbrev pub whole : TrackFlags → CellFlags
whole f s t m = f s t

-- Bit g of a flag word flags track number g.
abbrev pub word_flags : Shape → ℕ → TrackFlags
word_flags sh word s t = eqb (word / 2 ^ track_number sh s t % 2) 1

abbrev pub bit : Bool → ℕ
bit true = 1
bit false = 0

-- The flagged tracks of a set.
unfoldable pub flag_count : Shape → TrackFlags → TrackSet → ℕ
flag_count sh f s = sum (tracks sh s) (λ t. bit (f s t))

-- Two records agree on every cell that is not flagged.
pub record AgreeOff (sh : Shape) (flag : CellFlags) (x y : Cells) : Type 0 where
  pub cell : (s : TrackSet) (t m : ℕ) → t < tracks sh s → m < track_length sh → flag s t m ≡ false → x s t m ≡ y s t m

-- What the code can repair: at most three flagged tracks a set and four in all.
-- Where the tail is open, also not three beside track 0 of the other set.
pub record Within (sh : Shape) (f : TrackFlags) : Type 0 where
  pub in_set : (s : TrackSet) → flag_count sh f s ≤ 3
  pub in_all : flag_count sh f A + flag_count sh f B ≤ 4
  pub if_open : sh.closing ≡ open_tail → (s : TrackSet) → flag_count sh f s ≡ 3 → f (other s) 0 ≡ false

-- Is one of f 0 to f (w - 1) true?
unfoldable pub any : ℕ → (ℕ → Bool) → Bool
any zero f = false
any (suc w) f = any w f || f w

-- The tracks with a flagged cell in the window of w positions from m on.
abbrev pub in_window : ℕ → CellFlags → ℕ → TrackFlags
in_window w flag m s t = any w (λ k. flag s t (m + k))
