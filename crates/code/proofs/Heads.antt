-- Diagonals in head order: document 02, note 8.
use mathlib.Core.Path.{◌≡◌, refl, sym, ap, ◌∙◌}
use Prim.Native.Nat.{ℕ, zero, suc, ◌+◌, ◌<◌, ◌≤◌}
use native.Mathlib.Decide.{ℕ_discrete}
use native.Mathlib.Omega.{arith}
use borrow.Author.Tests.{lt-ltb, le-ltb}
use Rattle.code.specs.Record.{TrackSet, A, B, Shape, data_tracks, Cells, back, sum, diagonal}
use Rattle.code.specs.Heads.{slope, share, running, HeadOrder}
use Rattle.code.proofs.Sums.{sum_same}

-- A track up to T adds the cell that the diagonal has of it.
pub share_on : (sh : Shape) (x : Cells) (d s : TrackSet) (t m : ℕ) → t ≤ data_tracks sh s → share sh x d s t m ≡ back (x s t) m (slope sh d s t)
unfolding share
share_on sh x d s t m h = rw (le-ltb _ _ h)

-- A track past T adds nothing.
pub share_off : (sh : Shape) (x : Cells) (d s : TrackSet) (t m : ℕ) → data_tracks sh s < t → share sh x d s t m ≡ 0
unfolding share
share_off sh x d s t m h = rw (lt-ltb _ _ h)

-- Terms that are 0 add nothing to a sum.
sum_past : (n k : ℕ) (f : ℕ → ℕ) → k ≤ n → ((t : ℕ) → k ≤ t → f t ≡ 0) → sum n f ≡ sum k f
unfolding sum
sum_past zero k f h z = let e : 0 ≡ k = omega arith in ap (λ n. sum n f) e
sum_past (suc n) k f h z = go (sum_past n k f) (ℕ_discrete k (suc n))
  where
    go : (k ≤ n → ((t : ℕ) → k ≤ t → f t ≡ 0) → sum n f ≡ sum k f) → Dec (k ≡ suc n) → sum (suc n) f ≡ sum k f
    go rest (yes e) = ap (λ n. sum n f) (sym e)
    go rest (no d) = omega (arith, rest (omega arith) z, z n (omega arith))

module _ (sh : Shape) (x : Cells) (d : TrackSet) (m : ℕ) where
  -- The running sum is that of the tracks that have arrived, set after set.
  in_sets : (n : ℕ) → running sh x d n m ≡ sum n (λ u. share sh x d A u m) + sum n (λ u. share sh x d B u m)
  unfolding running sum
  in_sets zero = refl
  in_sets (suc n) = omega (arith, in_sets n)

  -- What the tracks of a set add in all.
  set_whole : (s : TrackSet) (n : ℕ) → data_tracks sh s < n → sum n (λ u. share sh x d s u m) ≡ sum (suc (data_tracks sh s)) (λ t. back (x s t) m (slope sh d s t))
  set_whole s n h = sum_past n (suc (data_tracks sh s)) (λ u. share sh x d s u m) (omega arith) (λ t k. share_off sh x d s t m (omega arith))
      ∙ sum_same (suc (data_tracks sh s)) _ _ (λ t k. share_on sh x d s t m (omega arith))

-- Head order and the order of rules 1 and 2 have one sum.
in_head_order : (sh : Shape) (x : Cells) (d : TrackSet) (m n : ℕ) → data_tracks sh A < n → data_tracks sh B < n → running sh x d n m ≡ diagonal sh x d m
unfolding diagonal
in_head_order sh x A m n a b = omega (arith, in_sets sh x A m n, set_whole sh x A m A n a, set_whole sh x A m B n b)
in_head_order sh x B m n a b = omega (arith, in_sets sh x B m n, set_whole sh x B m A n a, set_whole sh x B m B n b)

-- What the note says, of every record, set and position.
pub head_order : (sh : Shape) (x : Cells) (d : TrackSet) (m : ℕ) → HeadOrder sh x d m
unfolding running
head_order sh x d m = record {
  first = refl;
  then_b = λ t. refl;
  then_a = λ t. refl;
  after_b = λ t. in_sets sh x d m (suc t);
  whole = in_head_order sh x d m;
}
