-- Where all sums are 0 there are no errors: the words before the start.
use mathlib.Core.Path.{◌≡◌, refl, sym, ap, ◌∙◌}
use mathlib.Core.List.{List}
use Prim.Native.Nat.{ℕ, ◌+◌, ◌*◌, ◌<◌, ◌≤◌, ◌%◌}
use native.Mathlib.Omega.{arith}
use Rattle.code.specs.declared.sizes.TrackSet.{TrackSet}
use Rattle.code.specs.declared.sizes.TrackSet.TheVariants.{A, B}
use Rattle.code.specs.Record.{other, track_length, row_of}
use Rattle.code.specs.Sizes.{shape}
use Rattle.code.specs.declared.sizes.Sizes.{Sizes}
use Rattle.code.proofs.Sums.{back_zero}
use Rattle.code.proofs.Cell.{lag_sets}
use Rattle.code.proofs.OneTrack.{offset}
use Rattle.plans.specs.declared.Form.{Form}
use Rattle.plans.specs.Plans.{pivot, count, v_of, u_of}
use Rattle.forms.specs.Streams.{Stream, cut}
use Rattle.forms.specs.Forms.{left, met, gap, point}
use Rattle.forms.specs.Found.{extent, only_in, ahead, across, stride, residue, pivot_sum}
use Rattle.forms.proofs.Shifts.{cut_zero}
use Rattle.forms.proofs.Lows.{low_zero, Ordered, form_order}
use Rattle.forms.proofs.Strides.{Strides, extent_fits, form_strides}
use Rattle.errors.specs.Rows.{cell, diagonals, verticals}
use Rattle.errors.specs.Steps.{ComputedIn, TestedIn, PivotsIn, Given, Quiet, Fresh}
use Rattle.errors.proofs.Numbers.{data_seven}
use Rattle.errors.proofs.Tails.{at_zero_none}
use Rattle.errors.proofs.Pivoting.{residue_left}

module _ (z : Sizes) (end : ℕ) (p : Form) (rows found : List ℕ) (given : Given z end p rows found) (start : ℕ)
    (quiet : Quiet z rows start) (fresh : Fresh found start) where
  abbrev D : TrackSet → Stream
  D = diagonals rows

  abbrev W : TrackSet → Stream
  W = verticals rows

  abbrev s : TrackSet
  s = (v_of p).s

  abbrev q : TrackSet
  q = (u_of p).s

  sum_zero : 0 < start → (d : TrackSet) (m : ℕ) → m < 64 * (start + 1) → m < track_length (shape z) → D d m ≡ 0
  sum_zero n A m h b = quiet.zero n 0 m (omega arith) h b
  sum_zero n B m h b = quiet.zero n 1 m (omega arith) h b

  vertical_zero : 0 < start → (c : TrackSet) (m : ℕ) → m < 64 * (start + 1) → m < track_length (shape z) → W c m ≡ 0
  vertical_zero n A m h b = quiet.zero n 2 m (omega arith) h b
  vertical_zero n B m h b = quiet.zero n 3 m (omega arith) h b

  left_zero : 0 < start → (d : TrackSet) (m : ℕ) → m < 64 * (start + 1) → m < track_length (shape z) → left (shape z) end D W p d m ≡ 0
  unfolding left
  left_zero n d m h b = omega (
    arith,
    sum_zero n d m h b,
    back_zero (cut end (W A)) m (offset (shape z) d A (pivot p A)) (λ r e. cut_zero end (W A) r (λ k. vertical_zero n A r (omega arith) (omega arith))),
    back_zero (cut end (W B)) m (offset (shape z) d B (pivot p B)) (λ r e. cut_zero end (W B) r (λ k. vertical_zero n B r (omega arith) (omega arith))),
  )

  met_zero : (x : Stream) → ((m : ℕ) → m < 64 * start → x m ≡ 0) → (d c : TrackSet) (t j m : ℕ) →
      ((r : ℕ) → r + offset (shape z) d c t ≡ m → r < 64 * start) → ((r : ℕ) → r + offset (shape z) d c j ≡ m → r < 64 * start) → met (shape z) end x d c t j m ≡ 0
  unfolding met
  met_zero x none d c t j m at_t at_j = omega (
    arith,
    back_zero x m (offset (shape z) d c t) (λ r e. none r (at_t r e)),
    back_zero (cut end x) m (offset (shape z) d c j) (λ r e. cut_zero end x r (λ k. none r (at_j r e))),
  )

  order : Ordered (shape z) (pivot p) (count p) s (v_of p).t q (u_of p).t
  order = form_order (shape z) p given.sized

  numbers : 2 ≤ count p → Strides (shape z) s (v_of p).t (pivot p s) q (u_of p).t (pivot p q) (extent (shape z) end (u_of p).t)
  numbers = form_strides (shape z) end p given.sized given.end_small

  point_small : (d c : TrackSet) (t j : ℕ) → t ≤ 7 → point (shape z) d c t j ≤ 15
  unfolding point
  point_small A A t j h = omega arith
  point_small A B t j h = omega arith
  point_small B A t j h = omega arith
  point_small B B t j h = omega arith

  error_zero : (r : ℕ) → r < 5 → (m : ℕ) → m < 64 * start → cell found r m ≡ 0
  error_zero r h m l = fresh.zero r m h l

  -- Nothing is left of the diagonals.
  residue_zero : (U : Stream) → ((m : ℕ) → m < 64 * start → U m ≡ 0) → (d : TrackSet) (m : ℕ) → m < 64 * start → m < track_length (shape z) →
      residue (shape z) end p D W U (cell found 1) d m ≡ 0
  unfolding residue
  residue_zero U none d m l b = omega (
    arith,
    left_zero (omega arith) d m (omega arith) b,
    low_zero (count p) (met (shape z) end (cell found 1) d s (v_of p).t (pivot p s) m) (met (shape z) end U d q (u_of p).t (pivot p q) m)
        (λ h. met_zero (cell found 1) (error_zero 1 (omega arith)) d s (v_of p).t (pivot p s) m (λ r e. omega arith) (λ r e. omega arith))
        (λ h. met_zero U none d q (u_of p).t (pivot p q) m (λ r e. omega arith) (λ r e. omega arith)),
  )

  -- So the equations hold before the start.
  pub start_computed : ComputedIn z end p rows found (64 * start)
  start_computed = record {
    pair = λ h m l b. let n = numbers h in
        let bu = order.u_below h in
        let bv = order.v_below (omega arith) in
        let a = point_small (other s) q (u_of p).t (pivot p q) (omega (arith, data_seven z q)) in
        omega (
          arith,
          error_zero 4 (omega arith) m l,
          left_zero (omega arith) (other s) (m + ahead (shape z) end p) (omega arith) (omega arith),
          back_zero (left (shape z) end D W p s) (m + ahead (shape z) end p + (v_of p).t) (across (shape z) end p)
              (λ r e. left_zero (omega arith) s r (omega (arith, data_seven z s)) (omega arith)),
          back_zero (cell found 4) m (stride (shape z) end p) (λ r e. error_zero 4 (omega arith) r (omega arith)),
        );
    upper = λ h m l b. omega (
      arith,
      error_zero 0 (omega arith) m l,
      error_zero 4 (omega arith) m l,
      back_zero (cell found 0) m (gap (shape z) q (u_of p).t (pivot p q)) (λ r e. error_zero 0 (omega arith) r (omega arith)),
    );
    upper_end = λ h m l b e. error_zero 0 (omega arith) m l ∙ sym (at_zero_none (u_of p).t _
        (ap (λ v. v % 2) (residue_zero (cut end (cell found 0)) (λ r k. cut_zero end (cell found 0) r (λ n. error_zero 0 (omega arith) r k)) q m l b)));
    lower = λ h m l b. let bv = order.v_below h in
        omega (
          arith,
          error_zero 1 (omega arith) m l,
          left_zero (omega arith) s (m + (v_of p).t) (omega (arith, data_seven z s)) (omega (arith, extent_fits (shape z) (track_length (shape z)) (v_of p).t (omega arith) (omega (arith, lag_sets (shape z) s)))),
          low_zero (count p) 0 (met (shape z) end (cell found 0) s q (u_of p).t (pivot p q) (m + (v_of p).t)) (λ k. refl)
              (λ k. let n = numbers k in met_zero (cell found 0) (error_zero 0 (omega arith)) s q (u_of p).t (pivot p q) (m + (v_of p).t) (λ r e. omega arith) (λ r e. omega arith)),
          back_zero (cut end (cell found 1)) m (gap (shape z) s (v_of p).t (pivot p s)) (λ r e. cut_zero end (cell found 1) r (λ k. error_zero 1 (omega arith) r (omega arith))),
        );
    lower_end = λ h m l b. error_zero 1 (omega arith) m l;
  }

  -- All tests are passed there.
  sums_zero : (c : TrackSet) (m : ℕ) → m < 64 * start → m < track_length (shape z) →
      pivot_sum (shape z) end p D W (cell found 0) (cell found 1) c m ≡ 0
  unfolding pivot_sum
  sums_zero c m l b = omega (
    arith,
    vertical_zero (omega arith) c m (omega arith) b,
    low_zero (count p) (only_in s c (cell found 1 m)) (only_in q c (cell found 0 m))
        (λ h. ap (only_in s c) (error_zero 1 (omega arith) m l) ∙ only_zero s c) (λ h. ap (only_in q c) (error_zero 0 (omega arith) m l) ∙ only_zero q c),
  )
    where
      only_zero : (c d : TrackSet) → only_in c d 0 ≡ 0
      only_zero A A = refl
      only_zero A B = refl
      only_zero B A = refl
      only_zero B B = refl

  pub start_tested : TestedIn z end p rows found (64 * start)
  start_tested = record {
    diagonals = λ d m l b. ap (λ v. v % 2) (residue_zero (cell found 0) (error_zero 0 (omega arith)) d m l b);
    verticals = λ c m l b f. ap (λ v. v % 2) (sums_zero c m l (omega (arith, given.end_small)));
  }

  pub start_pivots : PivotsIn z end p rows found (64 * start)
  start_pivots c m l = pivot_row c ∙ sym (cut_zero end (λ r. pivot_sum (shape z) end p D W (cell found 0) (cell found 1) c r % 2) m
      (λ k. ap (λ v. v % 2) (sums_zero c m l (omega (arith, given.end_small)))))
    where
      pivot_row : (c : TrackSet) → cell found (2 + row_of c) m ≡ 0
      pivot_row A = error_zero 2 (omega arith) m l
      pivot_row B = error_zero 3 (omega arith) m l

  -- ## Pivots alone: nothing is wrong up to a word past the start

  module _ (none : count p ≡ 0) (pos : 0 < start) (after : List ℕ) (zero : (c : TrackSet) (m : ℕ) → m < 64 * (start + 1) → cell after (2 + row_of c) m ≡ 0) where
    bare_sum : (c : TrackSet) (m : ℕ) → m < 64 * (start + 1) → m < track_length (shape z) → pivot_sum (shape z) end p D W (cell after 0) (cell after 1) c m ≡ 0
    unfolding pivot_sum
    bare_sum c m l b = omega (arith, vertical_zero pos c m l b, low_zero (count p) (only_in s c (cell after 1 m)) (only_in q c (cell after 0 m)) (λ h. absurd (omega arith)) (λ h. absurd (omega arith)))

    bare_residue : (d : TrackSet) (m : ℕ) → m < 64 * (start + 1) → m < track_length (shape z) → residue (shape z) end p D W (cell after 0) (cell after 1) d m ≡ 0
    bare_residue d m l b = residue_left (shape z) end p D W (cell after 0) (cell after 1) d none m ∙ left_zero pos d m l b

    pub bare_tested : TestedIn z end p rows after (64 * (start + 1))
    bare_tested = record {
      diagonals = λ d m l b. ap (λ v. v % 2) (bare_residue d m l b);
      verticals = λ c m l b f. ap (λ v. v % 2) (bare_sum c m l (omega (arith, given.end_small)));
    }

    pub bare_pivots : PivotsIn z end p rows after (64 * (start + 1))
    bare_pivots c m l = zero c m l ∙ sym (cut_zero end (λ r. pivot_sum (shape z) end p D W (cell after 0) (cell after 1) c r % 2) m
        (λ k. ap (λ v. v % 2) (bare_sum c m l (omega (arith, given.end_small)))))
