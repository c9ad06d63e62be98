-- What the tests for 0 say of a record.
use mathlib.Core.Path.{◌≡◌, sym, ap, subst, ◌∙◌}
use mathlib.Core.Logic.{by_cases}
use mathlib.Core.Bool.{Bool, true, false, true≢false}
use mathlib.Core.List.{List}
use Prim.Native.Nat.{ℕ, zero, suc, ◌+◌, ◌*◌, ◌-◌, ◌<◌, ◌≤◌}
use native.Mathlib.Decide.{dec_lt}
use native.Mathlib.Omega.{arith}
use borrow.Rule.Slice.PartMut.{mid_len}
use lib.ListN.{length, get_or, take, drop, get_or-eq_default}
use Rattle.std.specs.Prelude.{MatchBool}
use Rattle.std.specs.List.{range_with_len, AllWithin, HoldsAt}
use Rattle.std.proofs.lemmas.List.FromFn.{length-range_with_len, get_or-range_with_len}
use Rattle.code.specs.Record.{Shape, data_tracks, track_length, Cells, Good}
use Rattle.code.specs.declared.sizes.TrackSet.{TrackSet}
use Rattle.code.specs.declared.sizes.TrackSet.TheVariants.{A, B}
use Rattle.code.specs.Image.{track_number, cells}
use Rattle.code.specs.Sizes.{shape}
use Rattle.code.specs.declared.sizes.Sizes.{Sizes}
use Rattle.code.proofs.Closings.{is_closed, closed_end, closed_tracks}
use Rattle.track.specs.Track.{Zeros}
use Rattle.syndrome.specs.Syndrome.{Kept, Tested}
use Rattle.syndrome.specs.Steps.{TrackTail, TrackTested, TailZero, TailTested}
use Rattle.syndrome.proofs.Table.{by_rows}
use Rattle.track.proofs.Parts.{part_at}

-- The tail of track number g, as a part of the image.
abbrev pub tail_of : Sizes → ℕ → List ℕ → List ℕ
tail_of z g out =
    let l = track_length (shape z) in
    take (g * l + l - (g * l + z.positions)) (drop (g * l + z.positions) out)

-- What `track_zero` gives.
pub track_tested : (z : Sizes) (s : TrackSet) (t : ℕ) (out : List ℕ) (r : Bool) →
    let g = track_number (shape z) s t in
    let l = track_length (shape z) in
    g * l + l ≤ length out → Zeros (tail_of z g out) r → TrackTested (shape z) (cells (shape z) out) s t r
track_tested z s t out r room zeros = record {
  yes = λ e. record {
    zero = λ m h b.
        let k : z.positions + (m - z.positions) ≡ m = omega arith in
        rw (sym k) (sym (at (m - z.positions) (omega arith)) ∙ zeros.all e (m - z.positions));
  };
  no = λ e h.
      zeros.not_all e (λ i b.
      let k : z.positions + i < l = omega (arith, mid_len (g * l + z.positions) (g * l + l) out room) in
      at i k ∙ h.zero (z.positions + i) (omega arith) k);
}
  where
    g : ℕ
    g = track_number (shape z) s t

    l : ℕ
    l = track_length (shape z)

    at : (i : ℕ) → z.positions + i < l → get_or (tail_of z g out) i 0 ≡ cells (shape z) out s t (z.positions + i)
    at i h = part_at out (g * l + z.positions) (g * l + l - (g * l + z.positions)) i (omega arith) ∙ ap (λ j. get_or out j 0) (omega arith)

-- What `tail_zero` gives: all n data tracks from 1 on pass, or one of them does not.
pub tail_tested : (sh : Shape) (x : Cells) (s : TrackSet) (n : ℕ) (r : Bool) → n + 1 - 1 ≡ data_tracks sh s →
    MatchBool r (AllWithin (TrackTail sh x s) (range_with_len 1 (n + 1 - 1)) 0 (length (range_with_len 1 (n + 1 - 1))))
    ((k : ℕ) × (k < length (range_with_len 1 (n + 1 - 1))) × HoldsAt (λ t. TrackTail sh x s t → ⊥) (range_with_len 1 (n + 1 - 1)) k) → TailTested sh x s r
tail_tested sh x s n true e m = record {
  all = λ _ t h k.
      let i : get_or (range_with_len 1 (n + 1 - 1)) (t - 1) 0 ≡ t = get_or-range_with_len 1 (n + 1 - 1) (t - 1) 0 (omega arith) ∙ omega arith in
      subst (TrackTail sh x s) i (m (t - 1) 0 (omega arith) (omega (arith, length-range_with_len 1 (n + 1 - 1))));
  not_all = λ f. absurd (true≢false f);
}
tail_tested sh x s n false e (k, l, h) = record {
  all = λ f. absurd (true≢false (sym f));
  not_all = λ _ g.
      let b : k < n + 1 - 1 = omega (arith, length-range_with_len 1 (n + 1 - 1)) in
      let i : get_or (range_with_len 1 (n + 1 - 1)) k 0 ≡ 1 + k = get_or-range_with_len 1 (n + 1 - 1) k 0 b in
      h 0 (subst (TrackTail sh x s) (sym i) (g (1 + k) (omega arith) (omega arith)));
}

-- A record that fails a test.
pub not_good : (sh : Shape) (x : Cells) → (Good sh x → ⊥) → Tested sh x false
not_good sh x h = record { yes_good = λ e. absurd (true≢false (sym e)); not_good = λ e. h }

module _ (z : Sizes) (out syn : List ℕ) (kept : Kept z out syn) (closed : z.closed ≡ true) where
  -- The syndromes of a good record are 0.
  good_sums : Good (shape z) (cells (shape z) out) → (i : ℕ) → i < length syn → get_or syn i 0 ≡ 0
  good_sums g i h = by_rows (track_length (shape z)) (λ i. get_or syn i 0 ≡ 0) at i (omega (arith, kept.holds.size))
    where
      at : (r m : ℕ) → r < 4 → m < track_length (shape z) → get_or syn (r * track_length (shape z) + m) 0 ≡ 0
      at zero m k b = kept.holds.diagonals A m b ∙ g.diagonals A m b
      at (suc zero) m k b = kept.holds.diagonals B m b ∙ g.diagonals B m b
      at (suc (suc zero)) m k b = kept.holds.verticals A m b ∙ g.verticals A m (omega (arith, closed_end (shape z) (is_closed z closed)))
      at (suc (suc (suc zero))) m k b = kept.holds.verticals B m b ∙ g.verticals B m (omega (arith, closed_end (shape z) (is_closed z closed)))
      at (suc (suc (suc (suc r)))) m k b = absurd (omega arith)

  -- The part that is tested: all four rows.
  abbrev rows : List ℕ
  rows = take (4 * track_length (shape z) - 0) (drop 0 syn)

  rows_at : (i : ℕ) → i < 4 * track_length (shape z) → get_or rows i 0 ≡ get_or syn i 0
  rows_at i h = part_at syn 0 (4 * track_length (shape z) - 0) i (omega arith) ∙ ap (λ j. get_or syn j 0) (omega arith)

  -- Where it passes the test all syndromes are 0; where it fails the record is not good.
  pub sums_zero : {r : Bool} → Zeros rows r → r ≡ true → (i : ℕ) → get_or syn i 0 ≡ 0
  sums_zero zeros e i = by_cases (dec_lt i (4 * track_length (shape z)))
      (λ h. sym (rows_at i h) ∙ zeros.all e i)
      (λ n. get_or-eq_default syn 0 {n = i} (omega (arith, kept.holds.size)))

  pub sums_not : {r : Bool} → Zeros rows r → r ≡ false → Good (shape z) (cells (shape z) out) → ⊥
  sums_not zeros e g = zeros.not_all e (λ i h.
      let k : i < 4 * track_length (shape z) = omega (arith, mid_len 0 (4 * track_length (shape z)) syn (omega (arith, kept.holds.size))) in
      rows_at i k ∙ good_sums g i (omega (arith, kept.holds.size)))

  -- The tail of a good record is 0.
  pub good_tail : Good (shape z) (cells (shape z) out) → (s : TrackSet) → TailZero (shape z) (cells (shape z) out) s
  good_tail g s t h k = record { zero = λ m p q. g.tail s t m h (omega (arith, closed_tracks (shape z) (is_closed z closed) s)) p q }

  -- So much makes a record good.
  pub makes_good : ((i : ℕ) → get_or syn i 0 ≡ 0) → TailZero (shape z) (cells (shape z) out) A → TailZero (shape z) (cells (shape z) out) B → Good (shape z) (cells (shape z) out)
  makes_good sums a b = let tail : (s : TrackSet) → TailZero (shape z) (cells (shape z) out) s = elim [ A ↦ a | B ↦ b ] in record {
    bits = λ s t m h k. kept.image.bits _;
    diagonals = λ s m k. sym (kept.holds.diagonals s m k) ∙ sums _;
    verticals = λ s m k. sym (kept.holds.verticals s m (omega (arith, closed_end (shape z) (is_closed z closed)))) ∙ sums _;
    tail = λ s t m h k p q. (tail s t h (omega (arith, closed_tracks (shape z) (is_closed z closed) s))).zero m p q;
  }
