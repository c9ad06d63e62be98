-- The other way round: a table of numbers that was gathered from spans, as many as are looked at, says of them what they say themselves.
use Rattle.std.proofs.Common.{◌≡◌, List, [], ℕ, ◌<◌, ◌≤◌, sym, ap, subst, ◌∙◌, length, get_or, take, arith}
use Rattle.std.proofs.lemmas.List.{length-take-le, get_or-take}
use mathlib.Core.Logic.{by_cases}
use native.Mathlib.Decide.{dec_lt}
use lib.ListN.{get_or-eq_default}
use Rattle.code.specs.Spans.{Table, no_span, table_of}
use Rattle.code.specs.Calls.{Result}
use Rattle.code.specs.Promises.{SpansRepaired}
use Rattle.code.specs.declared.Span.{Span}
use Rattle.code.proofs.Stretches.{spans_long}
use Rattle.spans.specs.Table.{pairs_table, span_of}

-- How many of n spans are looked at: r, which is all of them, or 65.
pub record Looked (n r : ℕ) : Type 0 where
  pub few : r ≤ n
  pub most : r ≤ 65
  pub all : (k : ℕ) → k < n → k < 65 → k < r

-- The first 65 spans as pairs of numbers: one more than a table may have.
pub record PairsOf (spans : List Span) (r : List (List ℕ)) : Type 0 where
  pub size : length r ≡ 65
  pub pair_at : (k : ℕ) → k < 65 → k < length spans → span_of (get_or r k []) ≡ get_or spans k no_span

module _ (spans : List Span) (table : List (List ℕ)) (r : ℕ) (looked : Looked (length spans) r) (g : PairsOf spans table) where
  -- As many pairs as were looked at.
  count_is : length (take r table) ≡ r
  count_is = length-take-le r table (omega (arith, looked.most, g.size))

  -- Each is its span's, and past them there is none.
  pair_is : (k : ℕ) → length spans ≤ r → span_of (get_or (take r table) k []) ≡ get_or spans k no_span
  pair_is k all = by_cases (dec_lt k r)
      (λ l. ap span_of (get_or-take r table k [] l) ∙ g.pair_at k (omega (arith, looked.most)) (omega (arith, looked.few)))
      (λ l. ap span_of (get_or-eq_default (take r table) [] {n = k} (omega (arith, count_is))) ∙ sym (get_or-eq_default spans no_span {n = k} (omega arith)))

  same_table : length spans ≤ 64 → pairs_table (take r table) ≡ table_of spans
  same_table few =
      let all : length spans ≤ r = by_cases (dec_lt r (length spans)) (λ l. absurd (omega (arith, looked.all r l (omega arith)))) (λ l. omega arith) in
      let count : length (take r table) ≡ length spans = omega (arith, count_is, looked.few) in
      λ i. record {
        count = count i;
        offset = λ k. ap (λ (s : Span). s.offset) (pair_is k all) i;
        size = λ k. ap (λ (s : Span). s.length) (pair_is k all) i;
      }

  -- Where there are more than 64 spans, there are more than 64 pairs.
  still_long : 64 < length spans → 64 < length (take r table)
  still_long h = omega (arith, count_is, looked.all 64 h (omega arith))

  pub spans_repaired : (n : ℕ) (image before : List ℕ) (q : Result) (after : List ℕ) →
      SpansRepaired n (pairs_table (take r table)) image before q after → SpansRepaired n (table_of spans) image before q after
  spans_repaired n image before q after c = by_cases (dec_lt 64 (length spans))
      (λ h. spans_long n (pairs_table (take r table)) (table_of spans) image before (still_long h) h q after c)
      (λ h. subst (λ (t : Table). SpansRepaired n t image before q after) (same_table (omega arith)) c)
