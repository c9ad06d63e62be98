-- One rule, one cell: what a rule of a good record says of one cell, if all other cells of the rule are known.
use mathlib.Core.Path.{◌≡◌, refl}
use mathlib.Core.Logic.{◌≢◌}
use Prim.Native.Nat.{ℕ, suc, ◌+◌, ◌-◌, ◌<◌, ◌≤◌, ◌%◌}
use native.Mathlib.Omega.{arith}
use Rattle.code.specs.Record.{
  TrackSet,
  A,
  B,
  other,
  Closing,
  closed_tail,
  open_tail,
  by_closing,
  Shape,
  data_tracks,
  tracks,
  lag,
  track_length,
  vertical_end,
  tail_tracks,
  Cells,
  diagonal,
  vertical,
  Good,
}
use Rattle.code.proofs.Sums.{sum_but_one, shifted_same, shifted_but_one}

pub lag_sets : (sh : Shape) (s : TrackSet) → data_tracks sh s + data_tracks sh (other s) + 1 ≡ lag sh
lag_sets sh A = refl
lag_sets sh B = omega arith

-- What holds of both closings' numbers holds of the closing's.
by_each : (P : ℕ → Type 0) (c : Closing) (v w : ℕ) → P v → P w → P (by_closing c v w)
by_each P closed_tail v w p q = p
by_each P open_tail v w p q = q

-- Rule 3 covers the data, and ends with the track at the latest.
pub vertical_data : (sh : Shape) → sh.positions ≤ vertical_end sh
vertical_data sh = by_each (λ v. sh.positions ≤ v) sh.closing _ _ (omega arith) (omega arith)

pub vertical_within : (sh : Shape) → vertical_end sh ≤ track_length sh
vertical_within sh = by_each (λ v. v ≤ track_length sh) sh.closing _ _ (omega arith) (omega arith)

-- Rule 4 covers the data tracks, and no more than the tracks.
pub tail_data : (sh : Shape) (s : TrackSet) → data_tracks sh s < tail_tracks sh s
tail_data sh s = by_each (λ v. data_tracks sh s < v) sh.closing _ _ (omega arith) (omega arith)

pub tail_within : (sh : Shape) (s : TrackSet) → tail_tracks sh s ≤ tracks sh s
tail_within sh s = by_each (λ v. v ≤ tracks sh s) sh.closing _ _ (omega arith) (omega arith)

-- What the closings have in common: the vertical track of the tail follows from rule 3 or is 0 by rule 4.
pub data Closed (sh : Shape) : Type 0 where
  by_rule_3 : vertical_end sh ≡ track_length sh → Closed sh
  by_rule_4 : sh.closing ≡ open_tail → vertical_end sh ≡ sh.positions → ((s : TrackSet) → tail_tracks sh s ≡ tracks sh s) → Closed sh

pub closed : (sh : Shape) → Closed sh
closed sh = go sh.closing refl
  where
    go : (c : Closing) → sh.closing ≡ c → Closed sh
    go closed_tail e = by_rule_3 (rw e)
    go open_tail e = by_rule_4 e (rw e) (λ s. rw e)

-- y is good, and x is any record: where the two agree on all other cells of a rule, the sum of that rule in x, added to
-- x's cell modulo 2, is y's cell.
module _ (sh : Shape) (x y : Cells) (gy : Good sh y) where
  pub by_vertical : (s : TrackSet) (i p : ℕ) → i < tracks sh s → p < vertical_end sh →
      ((t : ℕ) → t < tracks sh s → t ≢ i → x s t p ≡ y s t p) → y s i p ≡ (x s i p + vertical sh x s p) % 2
  unfolding vertical
  by_vertical s i p l b h = omega (
    arith,
    gy.verticals s p b,
    gy.bits s i p l (omega (arith, vertical_within sh)),
    sum_but_one (tracks sh s) i (λ t. x s t p) (λ t. y s t p) l h,
  )

  -- A cell of set s by its own set's diagonal at m.
  pub by_own : (s : TrackSet) (i p m : ℕ) → i ≤ data_tracks sh s → p + i ≡ m → m < track_length sh →
      ((t q : ℕ) → t ≤ data_tracks sh s → t ≢ i → q + t ≡ m → x s t q ≡ y s t q) →
      ((t q : ℕ) → t ≤ data_tracks sh (other s) → q + (lag sh - t) ≡ m → x (other s) t q ≡ y (other s) t q) →
      y s i p ≡ (x s i p + diagonal sh x s m) % 2
  unfolding diagonal
  by_own s i p m l e b own across = omega (
    arith,
    gy.diagonals s m b,
    gy.bits s i p (omega arith) (omega arith),
    shifted_but_one (suc (data_tracks sh s)) (x s) (y s) (λ t. t) m i p (omega arith) e (λ t q k. own t q (omega arith)),
    shifted_same (suc (data_tracks sh (other s))) (x (other s)) (y (other s)) (λ t. lag sh - t) m (λ t q k. across t q (omega arith)),
  )

  -- A cell of the other set by the diagonal of set s at m.
  pub by_across : (s : TrackSet) (i p m : ℕ) → i ≤ data_tracks sh (other s) → p + (lag sh - i) ≡ m → m < track_length sh →
      ((t q : ℕ) → t ≤ data_tracks sh s → q + t ≡ m → x s t q ≡ y s t q) →
      ((t q : ℕ) → t ≤ data_tracks sh (other s) → t ≢ i → q + (lag sh - t) ≡ m → x (other s) t q ≡ y (other s) t q) →
      y (other s) i p ≡ (x (other s) i p + diagonal sh x s m) % 2
  unfolding diagonal
  by_across s i p m l e b own across = omega (
    arith,
    gy.diagonals s m b,
    gy.bits (other s) i p (omega arith) (omega arith),
    shifted_same (suc (data_tracks sh s)) (x s) (y s) (λ t. t) m (λ t q k. own t q (omega arith)),
    shifted_but_one (suc (data_tracks sh (other s))) (x (other s)) (y (other s)) (λ t. lag sh - t) m i p (omega arith) e (λ t q k. across t q (omega arith)),
  )
