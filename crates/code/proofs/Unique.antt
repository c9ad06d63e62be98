-- Two good records that agree on all cells that are not flagged are the same.
use mathlib.Core.Path.{◌≡◌, sym, ◌∙◌, ap}
use mathlib.Core.Logic.{inr, ⊎_elim, ◌≢◌}
use mathlib.Core.Bool.{false}
use Prim.Native.Nat.{ℕ, zero, suc, ◌+◌, ◌-◌, ◌<◌, ◌≤◌, ◌%◌}
use native.Mathlib.Decide.{dec_lt}
use native.Mathlib.Omega.{arith}
use Rattle.code.specs.Record.{
  TrackSet,
  A,
  B,
  other,
  open_tail,
  Shape,
  data_tracks,
  tracks,
  lag,
  track_length,
  vertical_end,
  tail_tracks,
  Cells,
  diagonal,
  vertical,
  Good,
  Same,
}
use Rattle.code.specs.Flags.{TrackFlags, CellFlags, whole, AgreeOff, Within, in_window}
use Rattle.code.proofs.Cell.{
  lag_sets,
  vertical_data,
  vertical_within,
  tail_data,
  Closed,
  by_rule_3,
  by_rule_4,
  closed,
  by_vertical,
}
use Rattle.code.proofs.Solving.{Agree, At, check_track, lowest_cell, highest_cell}
use Rattle.code.proofs.Patterns.{but_for, One, Two, Three, Pattern, few, three, none_flagged, pattern_of}

module _ (sh : Shape) (x y : Cells) (gx : Good sh x) (gy : Good sh y) where
  -- ## One cell

  -- A cell that follows from a sum of x is x's own, since the sum is even.
  even_sum : (s : TrackSet) (t p v : ℕ) → t < tracks sh s → p < track_length sh → v % 2 ≡ 0 → y s t p ≡ (x s t p + v) % 2 → Agree sh x y gy s t p
  even_sum s t p v l b e h = omega (arith, gx.bits s t p l b)

  -- By rule 4.
  from_tail : (s : TrackSet) (t p : ℕ) → 1 ≤ t → t < tail_tracks sh s → sh.positions ≤ p → p < track_length sh → Agree sh x y gy s t p
  from_tail s t p k l low b = gx.tail s t p k l low b ∙ sym (gy.tail s t p k l low b)

  -- ## One position

  -- If all tracks but one agree at p, all do.
  fill : (s : TrackSet) (i p : ℕ) → p < vertical_end sh → ((t : ℕ) → t < tracks sh s → t ≢ i → Agree sh x y gy s t p) → At sh x y gy s p
  fill s i p b h t = but_for (λ u. u < tracks sh s → Agree sh x y gy s u p) i
      (λ l. even_sum s i p (vertical sh x s p) l (omega (arith, vertical_within sh)) (gx.verticals s p b) (by_vertical sh x y gy s i p l b h)) t (λ d l. h t l d)

  -- The positions before m agree.
  module _ (m : ℕ) (before : (s : TrackSet) (t p : ℕ) → t < tracks sh s → p < m → Agree sh x y gy s t p) where
    -- A position of the tail: track 0 by its own diagonal, the data tracks by rule 4, the vertical track by rule 3 or 4.
    at_tail : sh.positions ≤ m → m < track_length sh → (s : TrackSet) → At sh x y gy s m
    at_tail low b s = go (closed sh)
      where
        known : (t : ℕ) → t < tail_tracks sh s → Agree sh x y gy s t m
        known zero l = even_sum s 0 m (diagonal sh x s m) (omega arith) b (gx.diagonals s m b) (check_track sh x y gy m before b s)
        known (suc t) l = from_tail s (suc t) m (omega arith) l low b

        go : Closed sh → At sh x y gy s m
        go (by_rule_3 e) = fill s (suc (data_tracks sh s)) m (omega arith) (λ t k d. known t (omega (arith, tail_data sh s)))
        go (by_rule_4 o e r) = λ t k. known t (omega (arith, r s))

    -- A position of the data, where the records agree on the clear tracks from m up to m + lag - 1.
    module _ (b : m < sh.positions) (Clear : TrackSet → ℕ → Type 0)
        (clear : (s : TrackSet) (t p : ℕ) → t < tracks sh s → Clear s t → m ≤ p → p < m + lag sh → Agree sh x y gy s t p) where
      lowest : (s : TrackSet) (i : ℕ) → i ≤ data_tracks sh s → ((t : ℕ) → t < i → Clear s t) → Agree sh x y gy s i m
      lowest s i l below =
          let inside : m + i < track_length sh = omega (arith, lag_sets sh s) in
          even_sum s i m (diagonal sh x s (m + i)) (omega arith) (omega arith) (gx.diagonals s (m + i) inside) (lowest_cell sh x y gy m before b Clear clear s i l below)

      highest : (s : TrackSet) (k : ℕ) → 0 < k → k ≤ data_tracks sh (other s) →
          ((t : ℕ) → k < t → t ≤ data_tracks sh (other s) → Clear (other s) t) →
          ((p : ℕ) → m ≤ p → p < m + lag sh → At sh x y gy s p) → Agree sh x y gy (other s) k m
      highest s k j l above all =
          let inside : m + (lag sh - k) < track_length sh = omega (arith, lag_sets sh s) in
          even_sum (other s) k m (diagonal sh x s (m + (lag sh - k))) (omega arith) (omega arith) (gx.diagonals s (m + (lag sh - k)) inside)
          (highest_cell sh x y gy m before b Clear clear s k j l above all)

      -- All tracks but one are clear: they all agree wherever rule 3 holds in the window.
      by_one : (s : TrackSet) → One (data_tracks sh s) (Clear s) → (p : ℕ) → m ≤ p → p < m + lag sh → p < vertical_end sh → At sh x y gy s p
      by_one s o p l h v = fill s o.y p v (λ t k d. clear s t p k (o.rest t k d) l h)

      -- In the whole window: past the end of rule 3 all tracks but track 0 are 0, and track 0 is clear.
      by_one_all : (s : TrackSet) (o : One (data_tracks sh s) (Clear s)) → (sh.closing ≡ open_tail → o.y ≢ 0) →
          (p : ℕ) → m ≤ p → p < m + lag sh → At sh x y gy s p
      by_one_all s o z p l h = go (dec_lt p (vertical_end sh)) (closed sh)
        where
          go : Dec (p < vertical_end sh) → Closed sh → At sh x y gy s p
          go (yes v) c t k = by_one s o p l h v t k
          go (no v) (by_rule_3 e) t k = absurd (omega arith)
          go (no v) (by_rule_4 c e r) zero k = clear s 0 p k (o.rest 0 k (λ q. z c (sym q))) l h
          go (no v) (by_rule_4 c e r) (suc t) k = from_tail s (suc t) p (omega arith) (omega (arith, r s)) (omega arith) (omega arith)

      -- All tracks but two are clear.
      by_two : (s : TrackSet) → Two (data_tracks sh s) (Clear s) → At sh x y gy s m
      by_two s c = fill s c.j m (omega (arith, vertical_data sh)) (λ t k d.
          but_for (λ u. Agree sh x y gy s u m) c.i (lowest s c.i c.fits c.below) t (λ e.
          clear s t m k (c.rest t k e d) (omega arith) (omega arith)))

      -- All tracks but three are clear, and the other set agrees in the window.
      by_three : (s : TrackSet) → ((p : ℕ) → m ≤ p → p < m + lag sh → At sh x y gy s p) → Three (data_tracks sh (other s)) (Clear (other s)) → At sh x y gy (other s) m
      by_three s all c = fill (other s) c.j m (omega (arith, vertical_data sh)) (λ t k d.
          but_for (λ u. Agree sh x y gy (other s) u m) c.i (lowest (other s) c.i (omega arith) c.below) t (λ e.
          but_for (λ u. Agree sh x y gy (other s) u m) c.k (highest s c.k (omega arith) c.fits c.above all) t (λ f.
          clear (other s) t m k (c.rest t k e d f) (omega arith) (omega arith))))

      -- Every pattern.
      by_pattern : Pattern sh Clear → (s : TrackSet) → At sh x y gy s m
      by_pattern (few c) s = ⊎_elim (λ o. by_one s o m (omega arith) (omega arith) (omega (arith, vertical_data sh))) (by_two s) (c s)
      by_pattern (three A o z c) A = by_one_all A o z m (omega arith) (omega arith)
      by_pattern (three A o z c) B = by_three A (by_one_all A o z) c
      by_pattern (three B o z c) A = by_three B (by_one_all B o z) c
      by_pattern (three B o z c) B = by_one_all B o z m (omega arith) (omega arith)

  -- ## All positions

  -- Where at each data position few tracks are not clear, two records that agree on the clear tracks in its window agree.
  module _ (Clear : ℕ → TrackSet → ℕ → Type 0)
      (clear : (m : ℕ) → m < sh.positions → (s : TrackSet) (t p : ℕ) → t < tracks sh s → Clear m s t → m ≤ p → p < m + lag sh → Agree sh x y gy s t p)
      (pattern : (m : ℕ) → m < sh.positions → Pattern sh (Clear m)) where
    -- One position after the other.
    all_before : (m : ℕ) → m ≤ track_length sh → (s : TrackSet) (t p : ℕ) → t < tracks sh s → p < m → Agree sh x y gy s t p
    all_before zero l s t p k h = absurd (omega arith)
    all_before (suc m) l s t p k h = step (all_before m (omega arith))
      where
        step : ((s : TrackSet) (t p : ℕ) → t < tracks sh s → p < m → Agree sh x y gy s t p) → Agree sh x y gy s t p
        step before = but_for (Agree sh x y gy s t) m (here (dec_lt m sh.positions)) p (λ d. before s t p k (omega arith))
          where
            here : Dec (m < sh.positions) → Agree sh x y gy s t m
            here (yes b) = by_pattern m before b (Clear m) (clear m b) (pattern m b) s t k
            here (no b) = at_tail m before (omega arith) l s t k

    -- Up to the track's end.
    unique_by_patterns : Same sh x y
    unique_by_patterns = record { cell = λ s t p k h. all_before (track_length sh) (omega arith) s t p k h }

-- ## The theorems

module _ (sh : Shape) (x y : Cells) (gx : Good sh x) (gy : Good sh y) where
  -- Flagged cells: in each window of w ≥ lag positions few tracks have a flagged cell.
  pub unique : (w : ℕ) → lag sh ≤ w → (flag : CellFlags) →
      ((m : ℕ) → m < sh.positions → Within sh (in_window w flag m)) → AgreeOff sh flag x y → Same sh x y
  unique w long flag c h = unique_by_patterns sh x y gx gy (λ m s t. in_window w flag m s t ≡ false)
      (λ m b s t p l e u v. h.cell s t p l (omega arith)
      (ap (flag s t) (omega arith) ∙ none_flagged w (λ k. flag s t (m + k)) e (p - m) (omega arith)))
      (λ m b. pattern_of sh (in_window w flag m) (c m b))

  -- Flagged tracks.
  pub unique_tracks : (f : TrackFlags) → Within sh f → AgreeOff sh (whole f) x y → Same sh x y
  unique_tracks f c h = unique_by_patterns sh x y gx gy (λ m s t. f s t ≡ false)
      (λ m b s t p l e u v. h.cell s t p l (omega arith) e) (λ m b. pattern_of sh f c)

  -- The data fix a good record.
  pub unique_data : ((s : TrackSet) (t p : ℕ) → 1 ≤ t → t ≤ data_tracks sh s → p < sh.positions → x s t p ≡ y s t p) → Same sh x y
  unique_data h = unique_by_patterns sh x y gx gy (λ m s t. (1 ≤ t) × (t ≤ data_tracks sh s))
      (λ m b s t p l c u v. known s t p c.0 c.1 (omega arith) (dec_lt p sh.positions))
      (λ m b. few (λ s. inr (record {
        i = 0;
        j = suc (data_tracks sh s);
        fits = omega arith;
        below = λ t l. absurd (omega arith);
        rest = λ t l d e. (omega arith, omega arith);
      })))
    where
      known : (s : TrackSet) (t p : ℕ) → 1 ≤ t → t ≤ data_tracks sh s → p < track_length sh → Dec (p < sh.positions) → x s t p ≡ y s t p
      known s t p k l b (yes c) = h s t p k l c
      known s t p k l b (no c) = from_tail sh x y gx gy s t p k (omega (arith, tail_data sh s)) (omega arith) b
