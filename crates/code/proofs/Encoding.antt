-- Each choice of data has a good record.
use mathlib.Core.Path.{◌≡◌, refl, ◌∙◌}
use Prim.Native.Nat.{ℕ, zero, suc, ◌+◌, ◌-◌, ◌<◌, ◌≤◌, ◌%◌}
use native.Mathlib.Decide.{dec_lt}
use native.Mathlib.Omega.{arith}
use Rattle.code.specs.Record.{
  TrackSet,
  other,
  Closing,
  closed_tail,
  open_tail,
  by_closing,
  Shape,
  data_tracks,
  tracks,
  lag,
  track_length,
  vertical_end,
  tail_tracks,
  Cells,
  sum,
  diagonal,
  vertical,
  Good,
}
use Rattle.code.proofs.Sums.{sum_same, shifted_same, shifted_but_one}

-- A good record with the data cells of d.
pub record Encoding (sh : Shape) (d : Cells) : Type 0 where
  pub cells : Cells
  pub good : Good sh cells
  pub data_cells : (s : TrackSet) (t m : ℕ) → 1 ≤ t → t ≤ data_tracks sh s → m < sh.positions → cells s t m ≡ d s t m

-- v where a condition holds, else w.
choose : {P : Type 0} → Dec P → ℕ → ℕ → ℕ
choose (yes h) v w = v
choose (no h) v w = w

-- Which of the two it is.
choose_yes : {P : Type 0} (c : Dec P) (v w : ℕ) → P → choose c v w ≡ v
unfolding choose
choose_yes (yes h) v w p = refl
choose_yes (no h) v w p = absurd (h p)

choose_no : {P : Type 0} (c : Dec P) (v w : ℕ) → ¬ P → choose c v w ≡ w
unfolding choose
choose_no (yes h) v w p = absurd (p h)
choose_no (no h) v w p = refl

-- The choice of two bits is a bit.
choose_bit : {P : Type 0} (c : Dec P) (v w : ℕ) → v < 2 → w < 2 → choose c v w < 2
unfolding choose
choose_bit (yes h) v w p q = p
choose_bit (no h) v w p q = q

-- ## Track 0: the diagonals

-- Two records with the same data tracks, and the same track 0 of the other set before m: the diagonals of s at m differ as
-- the cells of track 0 at m do.
diagonal_but_check : (sh : Shape) (x y : Cells) (s : TrackSet) (m : ℕ) →
    ((r : TrackSet) (t q : ℕ) → 1 ≤ t → t ≤ data_tracks sh r → x r t q ≡ y r t q) →
    ((q : ℕ) → q < m → x (other s) 0 q ≡ y (other s) 0 q) →
    diagonal sh x s m + y s 0 m ≡ diagonal sh y s m + x s 0 m
unfolding diagonal
diagonal_but_check sh x y s m data_same check_same = omega (
  arith,
  shifted_but_one (suc (data_tracks sh s)) (x s) (y s) (λ t. t) m 0 m (omega arith) (omega arith) (λ t q l d e. data_same s t q (omega arith) (omega arith)),
  shifted_same (suc (data_tracks sh (other s))) (x (other s)) (y (other s)) (λ t. lag sh - t) m across,
)
  where
    across : (t q : ℕ) → t < suc (data_tracks sh (other s)) → q + (lag sh - t) ≡ m → x (other s) t q ≡ y (other s) t q
    across zero q l e = check_same q (omega arith)
    across (suc t) q l e = data_same (other s) (suc t) q (omega arith) (omega arith)

-- The cell of track 0 that makes the diagonal at m even, whichever cell is there.
abbrev even_check : Shape → Cells → TrackSet → ℕ → ℕ
even_check sh x s m = (diagonal sh x s m + x s 0 m) % 2

-- Sums that differ as two cells do have the same parity with those cells added.
same_parity : (a b c d : ℕ) → a + d ≡ b + c → (a + c) % 2 ≡ (b + d) % 2
same_parity a b c d e = omega arith

module _ (sh : Shape) (d : Cells) where
  -- A given track 0, and the data tracks, which are 0 in the tail.
  abbrev with_checks : (TrackSet → ℕ → ℕ) → Cells
  with_checks c s zero m = c s m
  with_checks c s (suc t) m = choose (dec_lt m sh.positions) (d s (suc t) m) 0

  -- The data tracks do not depend on track 0.
  same_data : (c e : TrackSet → ℕ → ℕ) (s : TrackSet) (t m : ℕ) → 1 ≤ t → with_checks c s t m ≡ with_checks e s t m
  same_data c e s zero m l = absurd (omega arith)
  same_data c e s (suc t) m l = refl

  -- Track 0 after k rounds. Each round makes one more position right.
  checks : ℕ → TrackSet → ℕ → ℕ
  checks zero s m = 0
  checks (suc k) s m = even_check sh (with_checks (checks k)) s m

  -- Track 0 holds bits.
  checks_bit : (k : ℕ) (s : TrackSet) (m : ℕ) → checks k s m < 2
  unfolding checks
  checks_bit zero s m = omega arith
  checks_bit (suc k) s m = omega arith

  -- The positions before k are right after k rounds.
  checks_settled : (k : ℕ) (s : TrackSet) (m : ℕ) → m < k → checks k s m ≡ checks (suc k) s m
  unfolding checks
  checks_settled zero s m l = absurd (omega arith)
  checks_settled (suc k) s m l = same_parity _ _ _ _ (diagonal_but_check sh (with_checks (checks k)) (with_checks (checks (suc k))) s m
      (λ r t q h h'. same_data (checks k) (checks (suc k)) r t q h)
      (λ q h. checks_settled k (other s) q (omega arith)))

  -- All tracks that lie on diagonals.
  abbrev diagonal_tracks : Cells
  diagonal_tracks = with_checks (checks (track_length sh))

  -- Rules 1 and 2 hold.
  even_diagonal : (s : TrackSet) (m : ℕ) → m < track_length sh → diagonal sh diagonal_tracks s m % 2 ≡ 0
  unfolding checks
  even_diagonal s m b = omega (arith, checks_settled (track_length sh) s m b)

  -- The cells are bits, if the data are.
  tracks_bit : ((s : TrackSet) (t m : ℕ) → d s t m < 2) → (s : TrackSet) (t m : ℕ) → diagonal_tracks s t m < 2
  tracks_bit bits s zero m = checks_bit (track_length sh) s m
  tracks_bit bits s (suc t) m = choose_bit (dec_lt m sh.positions) _ _ (bits s (suc t) m) (omega arith)

  -- The data tracks hold the data.
  tracks_data : (s : TrackSet) (t m : ℕ) → 1 ≤ t → m < sh.positions → diagonal_tracks s t m ≡ d s t m
  tracks_data s zero m l b = absurd (omega arith)
  tracks_data s (suc t) m l b = choose_yes (dec_lt m sh.positions) _ _ b

  -- They are 0 in the tail.
  tracks_tail : (s : TrackSet) (t m : ℕ) → 1 ≤ t → sh.positions ≤ m → diagonal_tracks s t m ≡ 0
  tracks_tail s zero m l b = absurd (omega arith)
  tracks_tail s (suc t) m l b = choose_no (dec_lt m sh.positions) _ _ (omega arith)

-- ## The vertical track

-- Where rule 4 makes the vertical track 0 in the tail, rule 3 ends with the data.
tail_vertical : (sh : Shape) (s : TrackSet) → suc (data_tracks sh s) < tail_tracks sh s → vertical_end sh ≡ sh.positions
tail_vertical sh s = go sh.closing
  where
    go : (c : Closing) → suc (data_tracks sh s) < by_closing c (suc (data_tracks sh s)) (tracks sh s) → by_closing c (track_length sh) sh.positions ≡ sh.positions
    go closed_tail l = absurd (omega arith)
    go open_tail l = refl

module _ (sh : Shape) (x : Cells) where
  -- The cell of the vertical track that makes the vertical at m even, and 0 after the end of rule 3.
  vertical_cell : TrackSet → ℕ → ℕ
  vertical_cell s m = choose (dec_lt m (vertical_end sh)) (sum (suc (data_tracks sh s)) (λ t. x s t m) % 2) 0

  -- x, with its vertical tracks made anew.
  with_vertical : Cells
  with_vertical s t m = choose (dec_lt (data_tracks sh s) t) (vertical_cell s m) (x s t m)

  -- The vertical tracks hold the new cells.
  on_vertical : (s : TrackSet) (t m : ℕ) → data_tracks sh s < t → with_vertical s t m ≡ vertical_cell s m
  unfolding with_vertical
  on_vertical s t m l = choose_yes (dec_lt (data_tracks sh s) t) _ _ l

  -- The other tracks are those of x.
  off_vertical : (s : TrackSet) (t m : ℕ) → t ≤ data_tracks sh s → with_vertical s t m ≡ x s t m
  unfolding with_vertical
  off_vertical s t m l = choose_no (dec_lt (data_tracks sh s) t) _ _ (omega arith)

  -- The cells are bits, if those of x are.
  with_vertical_bit : ((s : TrackSet) (t m : ℕ) → x s t m < 2) → (s : TrackSet) (t m : ℕ) → with_vertical s t m < 2
  unfolding with_vertical vertical_cell
  with_vertical_bit bits s t m = choose_bit (dec_lt (data_tracks sh s) t) _ _ (choose_bit (dec_lt m (vertical_end sh)) _ _ (omega arith) (omega arith)) (bits s t m)

  -- The vertical tracks lie on no diagonal.
  same_diagonal : (s : TrackSet) (m : ℕ) → diagonal sh with_vertical s m ≡ diagonal sh x s m
  same_diagonal s m = omega (
    arith,
    off_vertical s 0 m (omega arith),
    diagonal_but_check sh with_vertical x s m (λ r t q l. off_vertical r t q) (λ q l. off_vertical (other s) 0 q (omega arith)),
  )

  -- Rule 3 holds.
  even_vertical : (s : TrackSet) (m : ℕ) → m < vertical_end sh → vertical sh with_vertical s m % 2 ≡ 0
  unfolding vertical vertical_cell sum
  even_vertical s m b = omega (
    arith,
    on_vertical s (suc (data_tracks sh s)) m (omega arith),
    choose_yes (dec_lt m (vertical_end sh)) (sum (suc (data_tracks sh s)) (λ t. x s t m) % 2) 0 b,
    sum_same (suc (data_tracks sh s)) (λ t. with_vertical s t m) (λ t. x s t m) (λ t l. off_vertical s t m (omega arith)),
  )

  -- Rule 4 holds, if x is 0 in the tail.
  zero_tail : ((s : TrackSet) (t m : ℕ) → 1 ≤ t → sh.positions ≤ m → x s t m ≡ 0) →
      (s : TrackSet) (t m : ℕ) → 1 ≤ t → t < tail_tracks sh s → sh.positions ≤ m → with_vertical s t m ≡ 0
  unfolding vertical_cell
  zero_tail tail s t m l h p = go (dec_lt (data_tracks sh s) t)
    where
      go : Dec (data_tracks sh s < t) → with_vertical s t m ≡ 0
      go (yes k) = on_vertical s t m k ∙ choose_no (dec_lt m (vertical_end sh)) _ _ (omega (arith, tail_vertical sh s (omega arith)))
      go (no k) = off_vertical s t m (omega arith) ∙ tail s t m l p

-- ## The record

-- Each choice of data has a good record.
pub encode : (sh : Shape) (d : Cells) → ((s : TrackSet) (t m : ℕ) → d s t m < 2) → Encoding sh d
encode sh d bits =
    let x = diagonal_tracks sh d in
    record {
      cells = with_vertical sh x;
      good = record {
        bits = λ s t m l b. with_vertical_bit sh x (tracks_bit sh d bits) s t m;
        diagonals = λ s m b. rw (same_diagonal sh x) (even_diagonal sh d s m b);
        verticals = even_vertical sh x;
        tail = λ s t m l h p q. zero_tail sh x (tracks_tail sh d) s t m l h p;
      };
      data_cells = λ s t m l h b. off_vertical sh x s t m h ∙ tracks_data sh d s t m l b;
    }
