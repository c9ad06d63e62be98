-- What the sums of a record say of its errors on flagged tracks.
use mathlib.Core.Path.{◌≡◌, sym, ap}
use mathlib.Core.List.{List, [], ◌∷◌}
use Prim.Native.Nat.{ℕ, zero, suc, ◌+◌, ◌-◌, ◌<◌, ◌≤◌, ◌%◌}
use native.Mathlib.Decide.{ℕ_discrete}
use native.Mathlib.Omega.{arith}
use Rattle.code.specs.declared.sizes.TrackSet.{TrackSet}
use Rattle.code.specs.declared.sizes.TrackSet.TheVariants.{A, B}
use Rattle.code.specs.Record.{Shape, data_tracks, tracks, lag, track_length, vertical_end, tail_tracks, Cells, back, sum, diagonal, vertical, Good}
use Rattle.code.proofs.Sums.{back_early, back_zero, sum_same, sum_zero}
use Rattle.code.proofs.Cell.{vertical_within}
use Rattle.code.proofs.Linear.{◌⊞◌, plus, diagonal_add, vertical_add, diagonal_mod, vertical_mod}
use Rattle.code.proofs.OneTrack.{offset, offset_vertical, offset_both}
use Rattle.plans.specs.Lists.{Falls, Off}
use Rattle.forms.specs.Flagged.{total, Flagged}

-- ## A sum with few terms

off_above : (ts : List ℕ) (t n : ℕ) → Falls t ts → t ≤ n → Off n ts
off_above [] t n o l = tt
off_above (u ∷ us) t n o l = (omega arith, off_above us u n o.1 (omega arith))

sum_at : (n : ℕ) (ts : List ℕ) (f : ℕ → ℕ) → Falls n ts → ((t : ℕ) → t < n → Off t ts → f t ≡ 0) → sum n f ≡ total ts f
unfolding sum
sum_at n [] f o h = sum_zero n f (λ t l. h t l tt)
sum_at zero (t ∷ ts) f o h = absurd (omega arith)
sum_at (suc n) (t ∷ ts) f o h = go (ℕ_discrete t n) (sum_at n ts f) (sum_at n (t ∷ ts) f)
  where
    go : Dec (t ≡ n) → (Falls n ts → ((u : ℕ) → u < n → Off u ts → f u ≡ 0) → sum n f ≡ total ts f) →
        (Falls n (t ∷ ts) → ((u : ℕ) → u < n → Off u (t ∷ ts) → f u ≡ 0) → sum n f ≡ total (t ∷ ts) f) → sum (suc n) f ≡ total (t ∷ ts) f
    go (yes e) here rest = omega (arith, ap f e, here (rw (sym e) o.1) (λ u l q. h u (omega arith) (omega arith, q)))
    go (no d) here rest = omega (
      arith,
      h n (omega arith) (omega arith, off_above ts t n o.1 (omega arith)),
      rest (omega arith, o.1) (λ u l q. h u (omega arith) q),
    )

-- ## A diagonal over all tracks: the vertical track is met nowhere

module _ (sh : Shape) (z : Cells) (m : ℕ) (b : m < track_length sh) where
  abbrev over : TrackSet → TrackSet → ℕ
  over d s = sum (tracks sh s) (λ t. back (z s t) m (offset sh d s t))

  over_set : (d s : TrackSet) (k : ℕ → ℕ) → ((t : ℕ) → t ≤ data_tracks sh s → offset sh d s t ≡ k t) →
      sum (suc (data_tracks sh s)) (λ t. back (z s t) m (k t)) ≡ over d s
  unfolding sum
  over_set d s k h = omega (
    arith,
    sum_same (suc (data_tracks sh s)) (λ t. back (z s t) m (k t)) (λ t. back (z s t) m (offset sh d s t)) (λ t l. ap (back (z s t) m) (sym (h t (omega arith)))),
    back_early (z s (suc (data_tracks sh s))) m (offset sh d s (suc (data_tracks sh s))) (omega (arith, offset_vertical sh d s (suc (data_tracks sh s)) (omega arith))),
  )

  diagonal_over : (d : TrackSet) → diagonal sh z d m ≡ over d A + over d B
  unfolding diagonal
  diagonal_over A = omega (arith, over_set A A (λ t. t) (λ t l. (offset_both sh A t l).0), over_set A B (λ t. lag sh - t) (λ t l. (offset_both sh B t l).1))
  diagonal_over B = omega (arith, over_set B B (λ t. t) (λ t l. (offset_both sh B t l).0), over_set B A (λ t. lag sh - t) (λ t l. (offset_both sh A t l).1))

-- ## y is a good record, x any that agrees with it but on flagged tracks

module _ (sh : Shape) (x y : Cells) (gy : Good sh y) where
  clear : (s : TrackSet) (ts : List ℕ) → Flagged sh x y s ts → (t p : ℕ) → t < tracks sh s → Off t ts → p < track_length sh → plus x y s t p ≡ 0
  clear s ts fl t p l o b = omega (arith, fl.agree t p l o b)

  -- Where rule 4 makes the tail 0 there are no errors, if x is 0 there.
  pub tail_clear : (s : TrackSet) (t m : ℕ) → 1 ≤ t → t < tail_tracks sh s → sh.positions ≤ m → m < track_length sh → x s t m ≡ 0 → plus x y s t m ≡ 0
  tail_clear s t m k l low b z = omega (arith, gy.tail s t m k l low b)

  -- The vertical of x is that of its errors.
  pub vertical_errors : (s : TrackSet) (ts : List ℕ) → Flagged sh x y s ts → (m : ℕ) → m < vertical_end sh →
      (vertical sh x s m + total ts (λ t. plus x y s t m)) % 2 ≡ 0
  unfolding vertical
  vertical_errors s ts fl m b = omega (
    arith,
    vertical_mod sh (x ⊞ y) s m,
    vertical_add sh x y s m,
    gy.verticals s m b,
    sum_at (tracks sh s) ts (λ t. plus x y s t m) fl.order (λ t l o. clear s ts fl t m l o (omega (arith, vertical_within sh))),
  )

  -- And so is either diagonal, over the flagged tracks of both sets.
  pub diagonal_errors : (d : TrackSet) (ts : TrackSet → List ℕ) → ((c : TrackSet) → Flagged sh x y c (ts c)) → (m : ℕ) → m < track_length sh →
      (diagonal sh x d m + (total (ts A) (λ t. back (plus x y A t) m (offset sh d A t)) + total (ts B) (λ t. back (plus x y B t) m (offset sh d B t)))) % 2 ≡ 0
  diagonal_errors d ts fl m b = omega (
    arith,
    diagonal_mod sh (x ⊞ y) d m,
    diagonal_add sh x y d m,
    gy.diagonals d m b,
    diagonal_over sh (plus x y) m b d,
    few A,
    few B,
  )
    where
      few : (c : TrackSet) → sum (tracks sh c) (λ t. back (plus x y c t) m (offset sh d c t)) ≡ total (ts c) (λ t. back (plus x y c t) m (offset sh d c t))
      few c = sum_at (tracks sh c) (ts c) _ (fl c).order
          (λ t l o. back_zero (plus x y c t) m (offset sh d c t) (λ p e. clear c (ts c) (fl c) t p l o (omega arith)))
