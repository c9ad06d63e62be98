-- The sums of padded tracks are those of the image.
use mathlib.Core.Path.{◌≡◌, sym, ◌∙◌}
use mathlib.Core.Logic.{by_cases}
use mathlib.Core.List.{List}
use Prim.Native.Nat.{ℕ, zero, suc, ◌+◌, ◌-◌, ◌<◌, ◌≤◌}
use native.Mathlib.Decide.{dec_lt}
use native.Mathlib.Omega.{arith}
use lib.ListN.{length, get_or, get_or-eq_default}
use Rattle.code.specs.Record.{tracks, lag, track_length, back, sum, diagonal, vertical}
use Rattle.code.specs.declared.sizes.TrackSet.{TrackSet}
use Rattle.code.specs.declared.sizes.TrackSet.TheVariants.{A, B}
use Rattle.code.specs.Image.{all_tracks, cells}
use Rattle.code.specs.Sizes.{shape}
use Rattle.code.specs.declared.sizes.Sizes.{Sizes}
use Rattle.code.proofs.Sums.{back_at, back_early, sum_same}
use Rattle.code.proofs.Places.{number_lt}
use Rattle.track.specs.Track.{row}
use Rattle.syndrome.proofs.Table.{by_rows}
use Rattle.sums.specs.Run.{rule, SumsPut}
use Rattle.sums.specs.Edge.{edge, Padded, Padding, RunSums}

module _ (z : Sizes) (image padded : List ℕ) (p : Padded z (all_tracks (shape z)) image padded) (q : ℕ) (first : q < 80) (within : q < track_length (shape z)) where
  -- A padded track, and the image's.
  abbrev late : ℕ → ℕ → ℕ
  late = row (track_length (edge (shape z))) padded

  abbrev plain : ℕ → ℕ → ℕ
  plain = row (track_length (shape z)) image

  -- At most a lag back from position q, behind the zeros, a padded track has the image's cell, and a zero where that one has none.
  row_back : (g o : ℕ) → g < all_tracks (shape z) → o ≤ lag (shape z) → back (late g) (lag (shape z) + q) o ≡ back (plain g) q o
  row_back g o h k = by_cases (dec_lt q o)
      (λ b. let e : lag (shape z) + q - o + o ≡ lag (shape z) + q = omega arith in back_at (late g) (lag (shape z) + q - o) o _ e ∙ p.lead g _ (omega arith) ∙ sym (back_early (plain g) q o b))
      (λ b. let e : lag (shape z) + (q - o) + o ≡ lag (shape z) + q = omega arith in back_at (late g) (lag (shape z) + (q - o)) o _ e ∙ p.cells_of g (q - o) h (omega arith) (omega arith) ∙ sym (back_at (plain g) (q - o) o q (omega arith)))

  -- So it is in each track of a set.
  track_back : (s : TrackSet) (t o : ℕ) → t < tracks (shape z) s → o ≤ lag (shape z) →
      back (cells (edge (shape z)) padded s t) (lag (shape z) + q) o ≡ back (cells (shape z) image s t) q o
  track_back A t o h = row_back t o (number_lt (shape z) A t h)
  track_back B t o h = row_back (tracks (shape z) A + t) o (number_lt (shape z) B t h)

  -- A set's first n tracks, each read as far back as k says, have the same sum.
  tracks_sum : (s : TrackSet) (n : ℕ) (k : ℕ → ℕ) → n ≤ tracks (shape z) s → ((t : ℕ) → t < n → k t ≤ lag (shape z)) →
      sum n (λ t. back (cells (edge (shape z)) padded s t) (lag (shape z) + q) (k t)) ≡ sum n (λ t. back (cells (shape z) image s t) q (k t))
  tracks_sum s n k fits small = sum_same n _ _ (λ t h. track_back s t (k t) (omega arith) (small t h))

  -- Diagonals and verticals are such sums.
  diagonal_same : (s : TrackSet) →
      diagonal (edge (shape z)) (cells (edge (shape z)) padded) s (lag (shape z) + q) ≡ diagonal (shape z) (cells (shape z) image) s q
  unfolding diagonal
  diagonal_same A = omega (
    arith,
    tracks_sum A (suc z.t1) (λ t. t) (omega arith) (λ t h. omega arith),
    tracks_sum B (suc z.t2) (λ t. lag (shape z) - t) (omega arith) (λ t h. omega arith),
  )
  diagonal_same B = omega (
    arith,
    tracks_sum B (suc z.t2) (λ t. t) (omega arith) (λ t h. omega arith),
    tracks_sum A (suc z.t1) (λ t. lag (shape z) - t) (omega arith) (λ t h. omega arith),
  )

  vertical_same : (s : TrackSet) →
      vertical (edge (shape z)) (cells (edge (shape z)) padded) s (lag (shape z) + q) ≡ vertical (shape z) (cells (shape z) image) s q
  unfolding vertical back
  vertical_same A = tracks_sum A (tracks (shape z) A) (λ t. 0) (omega arith) (λ t h. omega arith)
  vertical_same B = tracks_sum B (tracks (shape z) B) (λ t. 0) (omega arith) (λ t h. omega arith)

-- Behind the zeros the sums of the padded tracks are the image's.
pub padded_rule : (z : Sizes) (image padded : List ℕ) → Padded z (all_tracks (shape z)) image padded → (r q : ℕ) → q < 80 → q < track_length (shape z) →
    rule (edge (shape z)) (cells (edge (shape z)) padded) r (lag (shape z) + q) ≡ rule (shape z) (cells (shape z) image) r q
padded_rule z image padded p zero q f w = diagonal_same z image padded p q f w A
padded_rule z image padded p (suc zero) q f w = diagonal_same z image padded p q f w B
padded_rule z image padded p (suc (suc zero)) q f w = vertical_same z image padded p q f w A
padded_rule z image padded p (suc (suc (suc r))) q f w = vertical_same z image padded p q f w B

-- Four rows of 64 into which sums are put hold the sums of a run.
pub run_sums : (z : Sizes) (image : List ℕ) (p : ℕ) (before rows : List ℕ) → length before ≡ 256 → SumsPut 64 0 (shape z) (cells (shape z) image) p before rows →
    RunSums z image p rows
run_sums z image p before rows size put = record {
  size = put.size ∙ size;
  bits = record { bit = λ i. by_cases (dec_lt i 256) (by_rows 64 (λ i. get_or rows i 0 < 2) (λ r k h b. let e : 0 + k ≡ k = omega arith in rw e at (put.bits r k h b)) i) (late i) };
  sums = λ r k h b w. let e : 0 + k ≡ k = omega arith in rw e at (put.sums r k h b w);
}
  where
    late : (i : ℕ) → ¬ (i < 256) → get_or rows i 0 < 2
    late i h = rw (get_or-eq_default rows 0 {n = i} (omega (arith, put.size))) (omega arith)

-- Those of the padded tracks are, near the start.
pub padded_near : (z : Sizes) (image padded : List ℕ) → Padding z image padded → (p : ℕ) → p < lag (shape z) → (r k : ℕ) → k < 64 → p + k < track_length (shape z) →
    rule (edge (shape z)) (cells (edge (shape z)) padded) r (lag (shape z) + p + k) ≡ rule (shape z) (cells (shape z) image) r (p + k)
padded_near z image padded g p h r k b w =
    let e : lag (shape z) + p + k ≡ lag (shape z) + (p + k) = omega arith in
    rw e (padded_rule z image padded g.is_padded r (p + k) (omega arith) w)
