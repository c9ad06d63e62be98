-- Three pairs of flagged tracks, each pair in one set, carry a good record.
use mathlib.Core.Path.{◌≡◌}
use mathlib.Core.Bool.{true, false}
use mathlib.Core.Logic.{◌≢◌}
use Prim.Native.Nat.{ℕ, ◌+◌, ◌<◌, ◌≤◌, ◌%◌}
use native.Mathlib.Omega.{arith}
use Rattle.code.specs.Record.{TrackSet, Shape, tracks, lag, track_length, Cells, diagonal, vertical, Good}
use Rattle.code.specs.Flags.{TrackFlags}
use Rattle.code.proofs.Linear.{◌⊞◌, bits_of, diagonal_add, vertical_add, good_bits}
use Rattle.code.proofs.OneTrack.{put, put_on, put_off, put_zero, offset, offset_small, diagonal_put, vertical_put}
use Rattle.code.proofs.Determinant.{both, Spans, det, three_pairs, Near, det_clear}

-- The spans of two tracks of a set.
abbrev pub spans_of : Shape → TrackSet → ℕ → ℕ → Spans
spans_of sh s i j d = record { one = offset sh d s i; two = offset sh d s j }

-- A flagged track of a set, and two of one set.
pub record Flagged (sh : Shape) (f : TrackFlags) (s : TrackSet) : Type 0 where
  pub at : ℕ
  pub inside : at < tracks sh s
  pub flag : f s at ≡ true

pub record Pair (sh : Shape) (f : TrackFlags) : Type 0 where
  pub set : TrackSet
  pub one : Flagged sh f set
  pub two : Flagged sh f set

-- Track t of set s is none of a pair.
abbrev pub Apart : {sh : Shape} {f : TrackFlags} → Pair sh f → TrackSet → ℕ → Type 0
Apart p s t = p.set ≡ s → (p.one.at ≢ t) × (p.two.at ≢ t)

module _ {sh : Shape} {f : TrackFlags} (p : Pair sh f) where
  -- The pair's offsets on both diagonals.
  abbrev pub spans : Spans
  spans = spans_of sh p.set p.one.at p.two.at

  -- The record that is g on both tracks and 0 elsewhere.
  pub pair : (ℕ → ℕ) → Cells
  pair g = put p.set p.one.at g ⊞ put p.set p.two.at g

  -- A diagonal meets the pair at its offsets.
  pub pair_diagonal : (g : ℕ → ℕ) (d : TrackSet) (m : ℕ) → m < track_length sh → diagonal sh (pair g) d m ≡ both (spans d) g m
  unfolding pair both
  pair_diagonal g d m b = rw (diagonal_add, diagonal_put sh p.set p.one.at g d m b, diagonal_put sh p.set p.two.at g d m b)

  -- A vertical meets g twice.
  pub pair_vertical : (g : ℕ → ℕ) (s : TrackSet) (m : ℕ) → vertical sh (pair g) s m % 2 ≡ 0
  unfolding pair
  pair_vertical g s m = rw vertical_add (omega (arith, vertical_put sh p.set p.one.at p.two.at g s m p.one.inside p.two.inside))

  -- A diagonal meets the pair at most the lag back.
  pub pair_near : (d : TrackSet) → Near (lag sh) (track_length sh) (spans d)
  pair_near d = record { near_one = offset_small sh d p.set p.one.at; near_two = offset_small sh d p.set p.two.at }

  -- Where g is 0, so is the record.
  pub pair_zero : (g : ℕ → ℕ) (s : TrackSet) (t m : ℕ) → g m ≡ 0 → pair g s t m ≡ 0
  unfolding pair
  pair_zero g s t m z = rw (put_zero p.set p.one.at g s t m z, put_zero p.set p.two.at g s t m z)

  -- Tracks that are not of the pair are 0.
  pub pair_off : (g : ℕ → ℕ) (s : TrackSet) (t m : ℕ) → Apart p s t → pair g s t m ≡ 0
  unfolding pair
  pair_off g s t m a = rw (put_off p.set p.one.at g s t m (λ e. (a e).0), put_off p.set p.two.at g s t m (λ e. (a e).1))

  -- The second track holds g.
  pub pair_two : (g : ℕ → ℕ) (m : ℕ) → p.one.at ≢ p.two.at → pair g p.set p.two.at m ≡ g m
  unfolding pair
  pair_two g m d = rw (put_off p.set p.one.at g p.set p.two.at m (λ e. d), put_on p.set p.two.at g) (omega arith)

  -- Unflagged tracks are not of the pair.
  pub pair_unflagged : (g : ℕ → ℕ) (s : TrackSet) (t m : ℕ) → f s t ≡ false → pair g s t m ≡ 0
  pair_unflagged g s t m e = pair_off g s t m (λ es. (off p.one es, off p.two es))
    where
      off : (c : Flagged sh f p.set) → p.set ≡ s → c.at ≢ t
      off c es et = let z : ◌≡◌ {A = ℕ} 0 1 = cc c.flag in absurd (omega arith)

even_three : (a b c : ℕ) → a % 2 ≡ 0 → b % 2 ≡ 0 → c % 2 ≡ 0 → (a + b + c) % 2 ≡ 0
even_three a b c p q r = omega arith

-- Each of three pairs holds the determinant of the two others.
module _ {sh : Shape} {f : TrackFlags} (p q r : Pair sh f) where
  pub web : Cells
  web = pair p (det (spans q) (spans r)) ⊞ pair q (det (spans p) (spans r)) ⊞ pair r (det (spans p) (spans q))

  -- Diagonals are even, as the determinants cancel.
  web_diagonal : (d : TrackSet) (m : ℕ) → m < track_length sh → diagonal sh web d m % 2 ≡ 0
  unfolding web
  web_diagonal d m b = rw (diagonal_add, diagonal_add, pair_diagonal p _ d m b, pair_diagonal q _ d m b, pair_diagonal r _ d m b) (three_pairs (spans p) (spans q) (spans r) d m)

  -- Verticals are even at every position, as each pair's are.
  web_vertical : (s : TrackSet) (m : ℕ) → vertical sh web s m % 2 ≡ 0
  unfolding web
  web_vertical s m = rw (vertical_add, vertical_add) (even_three _ _ _ (pair_vertical p _ s m) (pair_vertical q _ s m) (pair_vertical r _ s m))

  -- No determinant reaches into the tail.
  web_tail : lag sh + lag sh < sh.positions → (s : TrackSet) (t m : ℕ) → sh.positions ≤ m → m < track_length sh → web s t m ≡ 0
  unfolding web
  web_tail n s t m l b = rw (pair_zero p _ s t m (clear q r), pair_zero q _ s t m (clear p r), pair_zero r _ s t m (clear p q))
    where
      clear : (p q : Pair sh f) → det (spans p) (spans q) m ≡ 0
      clear p q = det_clear (lag sh) (track_length sh) (spans p) (spans q) (pair_near p) (pair_near q) m (omega arith) b

  -- With its cells modulo 2 it is a good record, for either closing of the tail.
  pub web_good : lag sh + lag sh < sh.positions → Good sh (bits_of web)
  web_good n = good_bits sh web web_diagonal (λ s m b. web_vertical s m) (λ s t m h l. web_tail n s t m)

  -- It is 0 on unflagged tracks.
  pub web_unflagged : (s : TrackSet) (t m : ℕ) → f s t ≡ false → web s t m ≡ 0
  unfolding web
  web_unflagged s t m e = rw (pair_unflagged p _ s t m e, pair_unflagged q _ s t m e, pair_unflagged r _ s t m e)

  -- The last track, if it is none of the others, holds the determinant of the first two pairs.
  pub web_last : (m : ℕ) → r.one.at ≢ r.two.at → Apart p r.set r.two.at → Apart q r.set r.two.at →
      web r.set r.two.at m ≡ det (spans p) (spans q) m
  unfolding web
  web_last m d a b = rw (pair_off p _ r.set r.two.at m a, pair_off q _ r.set r.two.at m b, pair_two r _ m d) (omega arith)
