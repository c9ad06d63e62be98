-- Tables of pairs of numbers, and the spans that are made of them.
use Rattle.std.proofs.Common.{◌≡◌, List, [], ℕ, ◌≤◌, min, sym, ap, subst, ◌∙◌, length, get_or, take, arith}
use Rattle.std.proofs.lemmas.List.{length-take-le, get_or-take}
use mathlib.Core.Logic.{by_cases}
use native.Mathlib.Decide.{dec_lt}
use lib.ListN.{get_or-eq_default}
use Rattle.code.specs.Spans.{Table, no_span, table_of}
use Rattle.code.specs.Calls.{Result}
use Rattle.code.specs.Promises.{SpansRepaired}
use Rattle.code.specs.declared.Span.{Span}
use Rattle.code.proofs.Stretches.{spans_long}
use Rattle.spans.specs.Table.{pairs_table, span_of, SpansOf}

module _ (pairs : List (List ℕ)) (n : ℕ) (n_is : n ≡ min (length pairs) 65) (spans : List Span) (g : SpansOf pairs n spans) where
  -- As many spans as pairs that were looked at.
  count_is : length (take n spans) ≡ n
  count_is = length-take-le n spans (omega (arith, g.size))

  -- Each is its pair's, and past them there is none.
  span_is : (k : ℕ) → length pairs ≤ n → get_or (take n spans) k no_span ≡ span_of (get_or pairs k [])
  span_is k all = by_cases (dec_lt k n)
      (λ l. get_or-take n spans k no_span l ∙ g.pair_at k l)
      (λ l. get_or-eq_default (take n spans) no_span {n = k} (omega (arith, count_is)) ∙ sym (ap span_of (get_or-eq_default pairs [] {n = k} (omega arith))))

  same_table : length pairs ≤ 64 → table_of (take n spans) ≡ pairs_table pairs
  same_table few =
      let all : length pairs ≤ n = omega arith in
      let count : length (take n spans) ≡ length pairs = omega (arith, count_is) in
      λ i. record {
        count = count i;
        offset = λ k. ap (λ (s : Span). s.offset) (span_is k all) i;
        size = λ k. ap (λ (s : Span). s.length) (span_is k all) i;
      }

  -- What is right of the spans is right of the pairs: where there are more than 64, there are more than 64 spans too.
  pub pairs_repaired : (blocks : ℕ) (image before : List ℕ) (q : Result) (after : List ℕ) →
      SpansRepaired blocks (table_of (take n spans)) image before q after → SpansRepaired blocks (pairs_table pairs) image before q after
  pairs_repaired blocks image before q after c = by_cases (dec_lt 64 (length pairs))
      (λ h. spans_long blocks (table_of (take n spans)) (pairs_table pairs) image before (omega (arith, count_is)) h q after c)
      (λ h. subst (λ (t : Table). SpansRepaired blocks t image before q after) (same_table (omega arith)) c)
