-- Tables of pairs that are given as numbers.
use Rattle.std.specs.Prelude.{◌≡◌, List, [], ℕ, ◌<◌, length, get_or}
use Rattle.code.specs.Spans.{Table, no_span}
use Rattle.code.specs.declared.Span.{Span}

-- A table of pairs of numbers, offset and length.
abbrev pub pairs_table : List (List ℕ) → Table
pairs_table pairs = record { count = length pairs; offset = λ k. get_or (get_or pairs k []) 0 0; size = λ k. get_or (get_or pairs k []) 1 0 }

-- The span of two numbers.
abbrev pub span_of : List ℕ → Span
span_of pair = record { offset = get_or pair 0 0; length = get_or pair 1 0 }

-- The first n pairs as spans.
pub record SpansOf (pairs : List (List ℕ)) (n : ℕ) (spans : List Span) : Type 0 where
  pub size : length spans ≡ 65
  pub pair_at : (k : ℕ) → k < n → get_or spans k no_span ≡ span_of (get_or pairs k [])
