-- Tables of pairs: right ones, pair after pair, and the cells that their pairs flag.
use mathlib.Core.Path.{◌≡◌, refl, sym, ap, ◌∙◌}
use mathlib.Core.Logic.{◌≢◌, by_cases}
use mathlib.Core.Bool.{Bool, false, ◌||◌, true≢false}
use mathlib.Core.List.{List}
use Prim.Native.Nat.{ℕ, zero, suc, ◌+◌, ◌*◌, ◌<◌, ◌≤◌}
use native.Mathlib.Decide.{dec_lt}
use native.Mathlib.Numerals.{add-one}
use native.Mathlib.Omega.{arith}
use lib.ListN.{length, get_or}
use Rattle.code.specs.Flags.{any}
use Rattle.code.specs.Spans.{Table, in_pair, Broken, too_long, empty, beyond, too_early}
use Rattle.flags.specs.Words.{bit_at}
use Rattle.windows.specs.Steps.{StretchFlagged}
use Rattle.windows.specs.Windows.{TableTested, Blank}
use Rattle.windows.proofs.Bits.{no_bit}

-- ## The test

module _ (cells : ℕ) (table : Table) where
  abbrev pub end_of : ℕ → ℕ
  end_of k = table.offset k + table.size k

  -- The first n pairs are right, and the last of them ends at `end`.
  pub record Right (n end : ℕ) : Type 0 where
    pub some : (k : ℕ) → k < n → table.size k ≢ 0
    pub within : (k : ℕ) → k < n → end_of k ≤ cells
    pub order : (k : ℕ) → suc k < n → end_of k ≤ table.offset (suc k)
    pub first : n ≡ 0 → end ≡ 0
    pub last : (k : ℕ) → suc k ≡ n → end ≡ end_of k

  -- The next pair, from a cell on and of a size.
  module _ (n end : ℕ) (r : Right n end) where
    -- Its offset before the previous pair's end.
    pub early_broken : n < table.count → table.offset n < end → Broken cells table
    early_broken l h = go n r l h
      where
        go : (m : ℕ) → Right m end → m < table.count → table.offset m < end → Broken cells table
        go zero q l h = absurd (omega (arith, q.first refl))
        go (suc m) q l h = too_early m l (omega (arith, q.last m refl))

  -- A table whose pairs are all right.
  pub not_broken : (n end : ℕ) → Right n end → table.count ≤ n → n ≤ 64 → Broken cells table → ⊥
  not_broken n end r all few (too_long h) = omega arith
  not_broken n end r all few (empty k l e) = r.some k (omega arith) e
  not_broken n end r all few (beyond k l h) = omega (arith, r.within k (omega arith))
  not_broken n end r all few (too_early k l h) = omega (arith, r.order k (omega arith))

  -- What the test says.
  pub says_broken : Broken cells table → TableTested cells table false
  says_broken b = record { yes_right = λ e. absurd (true≢false (sym e)); not_right = λ e. b }

  -- The pairs of a table that is not broken end within the image.
  pub pair_within : (Broken cells table → ⊥) → (k : ℕ) → k < table.count → end_of k ≤ cells
  pair_within right k l = by_cases (dec_lt cells (end_of k)) (λ h. absurd (right (beyond k l h))) (λ d. omega arith)

-- ## The flagged cells

-- The cells of the first n pairs are flagged, and no other.
pub record PairsFlagged (l : ℕ) (table : Table) (n : ℕ) (words : List ℕ) : Type 0 where
  pub size : length words ≡ l
  pub flags : (g m : ℕ) → m < l → bit_at (get_or words m 0) g ≡ any n (in_pair table (g * l + m))

pub pairs_none : (l : ℕ) (table : Table) (words : List ℕ) → Blank l words → PairsFlagged l table 0 words
unfolding any
pairs_none l table words b = record {
  size = b.size;
  flags = λ g m h. ap (λ (v : ℕ). bit_at v g) (b.none m) ∙ no_bit g;
}

pub pairs_more : (l : ℕ) (table : Table) (n : ℕ) (words after : List ℕ) →
    PairsFlagged l table n words → StretchFlagged l words (table.offset n) (table.offset n + table.size n) after → PairsFlagged l table (n + 1) after
unfolding any
pairs_more l table n words after p s = rw (add-one n) (record {
  size = s.size ∙ p.size;
  flags = λ g m h. s.flags g m h ∙ ap (λ (b : Bool). b || in_pair table (g * l + m) n) (p.flags g m h);
})
