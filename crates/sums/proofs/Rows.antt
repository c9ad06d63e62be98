-- Rows of sums: a run that is put into a row, all four rows of a run, and all positions.
use mathlib.Core.Path.{◌≡◌, refl, ap, ◌∙◌}
use mathlib.Core.Logic.{by_cases}
use mathlib.Core.List.{List}
use Prim.Native.Nat.{ℕ, zero, suc, ◌+◌, ◌*◌, ◌-◌, ◌<◌, ◌≤◌, ◌%◌}
use native.Mathlib.Nat.{mod-lt}
use native.Mathlib.Decide.{dec_lt, ℕ_discrete}
use native.Mathlib.Omega.{arith}
use borrow.Rule.Slice.PartMut.{put_mid, mid_len, same_len_mid}
use lib.Arith.{digits_lt}
use lib.ListN.{length, get_or, get_or-eq_default}
use Rattle.code.specs.Record.{row_of, Shape, track_length, Cells, diagonal, vertical}
use Rattle.code.specs.declared.sizes.TrackSet.{TrackSet}
use Rattle.code.specs.declared.sizes.TrackSet.TheVariants.{A, B}
use Rattle.track.specs.Track.{row}
use Rattle.track.proofs.Parts.{put_before, put_in, put_after}
use Rattle.code.proofs.Places.{row_end}
use Rattle.syndrome.specs.Syndrome.{Holds}
use Rattle.syndrome.proofs.Table.{by_rows}
use Rattle.sums.specs.Run.{SumsOf, rule, RunPut, SetPut, RowsPut, SumsPut, RunStart, Done}

-- The 64 cells of a row from p on are within four rows.
pub run_room : (l r p : ℕ) (syn : List ℕ) → length syn ≡ 4 * l → r < 4 → p + 64 ≤ l → r * l + p + 64 ≤ length syn
run_room l r p syn size h b = omega (arith, row_end l r 4 h)

-- A run's sums that are copied to those cells are put into the row.
module _ (l r p : ℕ) (run syn : List ℕ) (size : length syn ≡ 4 * l) (small : r < 4) (ends : p + 64 ≤ l) (sums : length run ≡ 64) where
  abbrev a : ℕ
  a = r * l + p

  room : a + 64 ≤ length syn
  room = run_room l r p syn size small ends

  pub run_put : RunPut l r p run syn (put_mid a (a + 64 - a) syn run)
  run_put =
      let fits : length run ≡ a + 64 - a = omega (arith, sums) in
      record {
        size = same_len_mid a (a + 64 - a) syn run (omega (arith, sums, mid_len a (a + 64) syn room));
        here = λ k h.
            let e : r * l + (p + k) ≡ a + k = omega arith in
            rw e (put_in syn run a 64 room fits k h);
        there = λ q m d h. by_cases (dec_lt q r)
            (λ b. put_before syn run a 64 room fits (q * l + m) (omega (arith, digits_lt b h)))
            (λ b. put_after syn run a 64 room fits (q * l + m) (omega (arith, row_end l r q (omega arith))));
        early = λ m h. put_before syn run a 64 room fits (r * l + m) (omega arith);
        late = λ m h b. put_after syn run a 64 room fits (r * l + m) (omega arith);
      }

-- The two rows of a set are put one after the other.
set_put : (l p : ℕ) (f : ℕ → ℕ → ℕ) (m : ℕ) (s : TrackSet) (before mid after run next : List ℕ) → p + 64 ≤ l →
    SumsOf (f (row_of s)) m run → RunPut l (row_of s) p run before mid → SumsOf (f (2 + row_of s)) m next → RunPut l (2 + row_of s) p next mid after →
    SetPut l p f m s before after
set_put l p f m s before mid after run next ends u a v b = record {
  size = b.size ∙ a.size;
  first = λ k h. b.there (row_of s) (p + k) (omega arith) (omega arith) ∙ a.here k h ∙ u.at k h;
  second = λ k h. b.here k h ∙ v.at k h;
  early = λ r i h. by_cases (ℕ_discrete r (row_of s))
      (λ e. rw e (b.there (row_of s) i (omega arith) (omega arith) ∙ a.early i h))
      (λ d. by_cases (ℕ_discrete r (2 + row_of s))
      (λ e. rw e (b.early i h ∙ a.there (2 + row_of s) i (omega arith) (omega arith)))
      (λ g. b.there r i g (omega arith) ∙ a.there r i d (omega arith)));
  late = λ r i h k. by_cases (ℕ_discrete r (row_of s))
      (λ e. rw e (b.there (row_of s) i (omega arith) k ∙ a.late i h k))
      (λ d. by_cases (ℕ_discrete r (2 + row_of s))
      (λ e. rw e (b.late i h k ∙ a.there (2 + row_of s) i (omega arith) k))
      (λ g. b.there r i g k ∙ a.there r i d k));
  rest = λ r i d g k. b.there r i g k ∙ a.there r i d k;
}

-- The rules of a set's rows.
diagonal_rule : (sh : Shape) (x : Cells) (s : TrackSet) → diagonal sh x s ≡ rule sh x (row_of s)
diagonal_rule sh x A = refl
diagonal_rule sh x B = refl

vertical_rule : (sh : Shape) (x : Cells) (s : TrackSet) → vertical sh x s ≡ rule sh x (2 + row_of s)
vertical_rule sh x A = refl
vertical_rule sh x B = refl

pub rules_put : (l p : ℕ) (sh : Shape) (x : Cells) (m : ℕ) (s : TrackSet) (before mid after run next : List ℕ) → p + 64 ≤ l →
    SumsOf (diagonal sh x s) m run → RunPut l (row_of s) p run before mid → SumsOf (vertical sh x s) m next → RunPut l (2 + row_of s) p next mid after →
    SetPut l p (rule sh x) m s before after
rules_put l p sh x m s before mid after run next ends u a v b =
    set_put l p (rule sh x) m s before mid after run next ends (rw (diagonal_rule sh x s) at u) a (rw (vertical_rule sh x s) at v) b

-- And both sets.
pub rows_put : (l p : ℕ) (f : ℕ → ℕ → ℕ) (m : ℕ) (before mid after : List ℕ) → p + 64 ≤ l → SetPut l p f m A before mid → SetPut l p f m B mid after →
    RowsPut l p f m before after
rows_put l p f m before mid after ends a b = record {
  size = b.size ∙ a.size;
  here = here;
  early = λ r i h. b.early r i h ∙ a.early r i h;
  late = λ r i h k. b.late r i h k ∙ a.late r i h k;
}
  where
    here : (r k : ℕ) → r < 4 → k < 64 → row l after r (p + k) ≡ f r (m + k) % 2
    here zero k h c = b.rest 0 (p + k) (omega arith) (omega arith) (omega arith) ∙ a.first k c
    here (suc zero) k h c = b.first k c
    here (suc (suc zero)) k h c = b.rest 2 (p + k) (omega arith) (omega arith) (omega arith) ∙ a.second k c
    here (suc (suc (suc zero))) k h c = b.second k c
    here (suc (suc (suc (suc r)))) k h c = absurd (omega arith)

-- What `put_sums` gives: where f, from some position on, is the record's rule, as far as a track goes.
pub sums_put : (w q : ℕ) (sh : Shape) (x : Cells) (p : ℕ) (f : ℕ → ℕ → ℕ) (from : ℕ) (before after : List ℕ) →
    ((r k : ℕ) → r < 4 → k < 64 → p + k < track_length sh → f r (from + k) ≡ rule sh x r (p + k)) → RowsPut w q f from before after →
    SumsPut w q sh x p before after
sums_put w q sh x p f from before after same put = record {
  size = put.size;
  bits = λ r k h c. rw (put.here r k h c) (mod-lt _ (omega arith));
  sums = λ r k h c b. put.here r k h c ∙ ap (λ v. v % 2) (same r k h c b);
  early = put.early;
  late = put.late;
}

-- Rows done before m, and sums put at the 64 positions from p on, which begin no later than m and go on as far as a track has positions
-- before m + 64: the rows are done before n, which is m + 64.
pub done_more : (sh : Shape) (x : Cells) (m n p : ℕ) (before after : List ℕ) → n ≡ m + 64 → 64 ≤ track_length sh → Done sh x m before → RunStart (track_length sh) m p →
    SumsPut (track_length sh) p sh x p before after → Done sh x n after
done_more sh x m n p before after next long done at put = record {
  size = put.size ∙ done.size;
  sums = λ r q h b t. by_cases (dec_lt q p)
      (λ w. put.early r q w ∙ done.sums r q h (omega (arith, at.starts)) t)
      (λ w.
      let k : q - p < 64 = omega (arith, at.reaches q (omega arith) t) in
      let e : p + (q - p) ≡ q = omega arith in
      rw e at (put.sums r (q - p) h k (omega arith)));
}

-- When all positions are done, the rows hold the syndromes.
pub done_holds : (sh : Shape) (x : Cells) (n : ℕ) (syn : List ℕ) → Done sh x n syn → track_length sh ≤ n → Holds sh x syn
done_holds sh x n syn done all = record {
  size = done.size;
  bits = λ i. by_cases (dec_lt i (4 * track_length sh)) (by_rows (track_length sh) (λ i. get_or syn i 0 < 2) bit i) (late i);
  diagonals = diagonals;
  verticals = verticals;
}
  where
    at : (r m : ℕ) → r < 4 → m < track_length sh → row (track_length sh) syn r m ≡ rule sh x r m % 2
    at r m h b = done.sums r m h (omega arith) b

    bit : (r m : ℕ) → r < 4 → m < track_length sh → row (track_length sh) syn r m < 2
    bit r m h b = rw (at r m h b) (mod-lt _ (omega arith))

    late : (i : ℕ) → ¬ (i < 4 * track_length sh) → get_or syn i 0 < 2
    late i h = rw (get_or-eq_default syn 0 {n = i} (omega (arith, done.size))) (omega arith)

    diagonals : (s : TrackSet) (m : ℕ) → m < track_length sh → row (track_length sh) syn (row_of s) m ≡ diagonal sh x s m % 2
    diagonals A m h = at 0 m (omega arith) h
    diagonals B m h = at 1 m (omega arith) h

    verticals : (s : TrackSet) (m : ℕ) → m < track_length sh → row (track_length sh) syn (2 + row_of s) m ≡ vertical sh x s m % 2
    verticals A m h = at 2 m (omega arith) h
    verticals B m h = at 3 m (omega arith) h
