-- One position of a decoder: y is a good record and x any working copy that agrees with it before the position and on its
-- clear tracks. The cells of y at the position follow from x's sums.
use mathlib.Core.Path.{◌≡◌, refl}
use mathlib.Core.Logic.{◌≢◌}
use Prim.Native.Nat.{ℕ, ◌+◌, ◌-◌, ◌<◌, ◌≤◌, ◌%◌}
use native.Mathlib.Decide.{dec_lt}
use native.Mathlib.Omega.{arith}
use Rattle.code.specs.Record.{
  TrackSet,
  other,
  Shape,
  data_tracks,
  tracks,
  lag,
  track_length,
  Cells,
  diagonal,
  Good,
}
use Rattle.code.proofs.Cell.{lag_sets, by_own, by_across}
use Rattle.code.proofs.Patterns.{apart}

module _ (sh : Shape) (x y : Cells) (gy : Good sh y) where
  -- The cell is the same in both records, and so are all cells of a set at p.
  abbrev pub Agree : TrackSet → ℕ → ℕ → Type 0
  Agree s t p = x s t p ≡ y s t p

  abbrev pub At : TrackSet → ℕ → Type 0
  At s p = (t : ℕ) → t < tracks sh s → Agree s t p

  -- The positions before m agree.
  module _ (m : ℕ) (before : (s : TrackSet) (t p : ℕ) → t < tracks sh s → p < m → Agree s t p) where
    -- Track 0, by its own diagonal, at any position whose data tracks of higher number lie before it.
    pub check_track : m < track_length sh → (s : TrackSet) → y s 0 m ≡ (x s 0 m + diagonal sh x s m) % 2
    check_track b s = by_own sh x y gy s 0 m m (omega arith) (omega arith) b
        (λ t q k d e. before s t q (omega arith) (omega arith))
        (λ t q k e. before (other s) t q (omega arith) (omega (arith, lag_sets sh s)))

    -- A position of the data, where the records agree on the clear tracks from m up to m + lag - 1.
    module _ (b : m < sh.positions) (Clear : TrackSet → ℕ → Type 0)
        (clear : (s : TrackSet) (t p : ℕ) → t < tracks sh s → Clear s t → m ≤ p → p < m + lag sh → Agree s t p) where
      -- The lowest track that is not clear, by its own set's diagonal.
      pub lowest_cell : (s : TrackSet) (i : ℕ) → i ≤ data_tracks sh s → ((t : ℕ) → t < i → Clear s t) → y s i m ≡ (x s i m + diagonal sh x s (m + i)) % 2
      lowest_cell s i l below = by_own sh x y gy s i m (m + i) l refl (omega (arith, lag_sets sh s)) own
          (λ t q k e. before (other s) t q (omega arith) (omega (arith, lag_sets sh s)))
        where
          own : (t q : ℕ) → t ≤ data_tracks sh s → t ≢ i → q + t ≡ m + i → Agree s t q
          own t q k d e = apart t i d
              (λ u. clear s t q (omega arith) (below t u) (omega arith) (omega (arith, lag_sets sh s)))
              (λ u. before s t q (omega arith) (omega arith))

      -- The highest data track that is not clear, by the diagonal of the other set, which agrees there.
      pub highest_cell : (s : TrackSet) (k : ℕ) → 0 < k → k ≤ data_tracks sh (other s) →
          ((t : ℕ) → k < t → t ≤ data_tracks sh (other s) → Clear (other s) t) →
          ((p : ℕ) → m ≤ p → p < m + lag sh → At s p) → y (other s) k m ≡ (x (other s) k m + diagonal sh x s (m + (lag sh - k))) % 2
      highest_cell s k j l above all = by_across sh x y gy s k m (m + (lag sh - k)) l refl (omega (arith, lag_sets sh s)) own across
        where
          across : (t q : ℕ) → t ≤ data_tracks sh (other s) → t ≢ k → q + (lag sh - t) ≡ m + (lag sh - k) → Agree (other s) t q
          across t q h d e = apart t k d
              (λ u. before (other s) t q (omega arith) (omega (arith, lag_sets sh s)))
              (λ u. clear (other s) t q (omega arith) (above t u h) (omega (arith, lag_sets sh s)) (omega (arith, lag_sets sh s)))

          own : (t q : ℕ) → t ≤ data_tracks sh s → q + t ≡ m + (lag sh - k) → Agree s t q
          own t q h e = go (dec_lt q m)
            where
              go : Dec (q < m) → Agree s t q
              go (yes u) = before s t q (omega arith) u
              go (no u) = all q (omega arith) (omega (arith, lag_sets sh s)) t (omega arith)
