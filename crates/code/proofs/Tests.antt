-- Tests that antt computes, and what they show of a record.
use mathlib.Core.Path.{◌≡◌, ap₂, ◌∙◌}
use mathlib.Core.Logic.{by_cases}
use mathlib.Core.Bool.{Bool, true, ◌&&◌}
use Prim.Native.Nat.{ℕ, zero, suc, ◌+◌, ◌-◌, ◌<◌, ◌≤◌, ◌%◌}
use native.Mathlib.Decide.{ℕ_discrete}
use native.Mathlib.Omega.{arith}
use lib.Dec.{T, eqb, ltb, eqb→eq, ltb→lt}
use Rattle.code.specs.Record.{TrackSet, A, B, Shape, tracks, lag, track_length, vertical_end, tail_tracks, Cells, diagonal, vertical, Good}
use Rattle.code.proofs.Table.{and_left, and_right}

-- f holds of all numbers below n.
unfoldable pub every : ℕ → (ℕ → Bool) → Bool
every zero f = true
every (suc n) f = f n && every n f

pub every_at : (n : ℕ) (f : ℕ → Bool) → T (every n f) → (i : ℕ) → i < n → T (f i)
unfolding every
every_at zero f t i h = absurd (omega arith)
every_at (suc n) f t i h = by_cases (ℕ_discrete i n)
    (λ e. rw e (and_left (f n) _ t))
    (λ d. every_at n f (and_right (f n) _ t) i (omega arith))

abbrev pub both_sets : (TrackSet → Bool) → Bool
both_sets f = f A && f B

pub both_at : (f : TrackSet → Bool) → T (both_sets f) → (s : TrackSet) → T (f s)
both_at f t A = and_left (f A) (f B) t
both_at f t B = and_right (f A) (f B) t

-- The rules of one set.
module _ (sh : Shape) (x : Cells) where
  abbrev bits_test : TrackSet → Bool
  bits_test s = every (tracks sh s) (λ t. every (track_length sh) (λ m. ltb (x s t m) 2))

  abbrev diagonal_test : TrackSet → Bool
  diagonal_test s = every (track_length sh) (λ m. eqb (diagonal sh x s m % 2) 0)

  abbrev vertical_test : TrackSet → Bool
  vertical_test s = every (vertical_end sh) (λ m. eqb (vertical sh x s m % 2) 0)

  abbrev tail_test : TrackSet → Bool
  tail_test s = every (tail_tracks sh s - 1) (λ t. every (lag sh) (λ m. eqb (x s (suc t) (sh.positions + m)) 0))

  abbrev pub good_test : Bool
  good_test = (both_sets bits_test && both_sets diagonal_test) && (both_sets vertical_test && both_sets tail_test)

  -- A record that passes the test is good.
  pub tested_good : T good_test → Good sh x
  tested_good t = record {
    bits = λ s u m l b. ltb→lt _ _ (every_at _ _ (every_at _ _ (both_at bits_test (and_left (both_sets bits_test) _ first) s) u l) m b);
    diagonals = λ s m b. eqb→eq _ _ (every_at _ _ (both_at diagonal_test (and_right (both_sets bits_test) _ first) s) m b);
    verticals = λ s m b. eqb→eq _ _ (every_at _ _ (both_at vertical_test (and_left (both_sets vertical_test) _ second) s) m b);
    tail = λ s u m l b p q. tail_at s u m l p (eqb→eq _ _
        (every_at (lag sh) _ (every_at (tail_tracks sh s - 1) _ (both_at tail_test (and_right (both_sets vertical_test) _ second) s) (u - 1) (omega arith))
        (m - sh.positions) (omega arith)));
  }
    where
      -- The test counts tracks from 1 and positions from the end of the data.
      tail_at : (s : TrackSet) (u m : ℕ) → 1 ≤ u → sh.positions ≤ m → x s (suc (u - 1)) (sh.positions + (m - sh.positions)) ≡ 0 → x s u m ≡ 0
      tail_at s u m l p e = ap₂ (x s) (omega arith) (omega arith) ∙ e

      first : T (both_sets bits_test && both_sets diagonal_test)
      first = and_left (both_sets bits_test && both_sets diagonal_test) _ t

      second : T (both_sets vertical_test && both_sets tail_test)
      second = and_right (both_sets bits_test && both_sets diagonal_test) _ t
