-- Rows of cells in words: their cells are bits of words, they are loaded, and their first words are 0.
use mathlib.Core.Path.{◌≡◌, refl, sym, ap, ◌∙◌}
use mathlib.Core.Logic.{by_cases}
use mathlib.Core.List.{List}
use Prim.Native.Nat.{ℕ, zero, suc, ◌+◌, ◌*◌, ◌-◌, ◌/◌, ◌%◌, ◌^◌, ◌<◌, ◌≤◌}
use native.Mathlib.Decide.{dec_lt, ℕ_discrete}
use native.Mathlib.Omega.{arith}
use lib.Bits.{bit_or, or_add_and, xor_add_and}
use lib.ListN.{length, get_or}
use Rattle.code.specs.declared.sizes.TrackSet.{TrackSet}
use Rattle.code.specs.declared.sizes.TrackSet.TheVariants.{A, B}
use Rattle.code.specs.Record.{track_length, diagonal, vertical}
use Rattle.code.specs.Image.{cells}
use Rattle.code.specs.Sizes.{shape}
use Rattle.code.specs.declared.sizes.Sizes.{Sizes}
use Rattle.sums.specs.Run.{rule, RunStart}
use Rattle.sums.specs.Edge.{RunSums}
use Rattle.words.specs.Words.{bit, bit_at, First}
use Rattle.words.proofs.Bit.{bit_zero, bit_shr}
use Rattle.forms.proofs.Shifts.{cut_out}
use Rattle.track.specs.Track.{row}
use Rattle.track.proofs.Rows.{row_end, part, part_row}
use Rattle.errors.specs.Rows.{cell, Rows, diagonals, verticals, Put}
use Rattle.errors.proofs.Cells.{cell_index}
use Rattle.mend.specs.Mend.{RunLoaded, SumsIn, StartOf}

-- ## Cells

-- A cell of a row is a bit of one of its words; past them it is 0.
pub cell_word : (ws : List ℕ) (r i k m : ℕ) → i < 33 → k < 64 → 64 * i + k ≡ m → cell ws r m ≡ bit (get_or ws (34 * r + 1 + i) 0) k
cell_word ws r i k m h b e = cell_index ws r i k m (34 * r + 1 + i) h b e refl

pub cell_past : (ws : List ℕ) (r m : ℕ) → 2112 ≤ m → cell ws r m ≡ 0
unfolding cell
cell_past ws r m h = cut_out 2112 (λ n. bit_at ws (2176 * r + (64 + n))) m h

-- ## Loading

-- The next row has its word.
pub run_more : (run : List ℕ) (i n k q w : ℕ) (before now after : List ℕ) → RunLoaded run i n k q before now → q < 4 → Put 4 now q i w after →
    ((j : ℕ) → k + j < 64 → k + j < n → bit w j ≡ row 64 run q (k + j)) → RunLoaded run i n k (q + 1) before after
run_more run i n k q w before now after l few p is = record {
  rows = p.rows;
  here = λ r j h b c. here r j h b c (ℕ_discrete r q);
  early = λ r m h b. early r m h b (ℕ_discrete r q) ∙ l.early r m h b;
}
  where
    here : (r j : ℕ) → r < q + 1 → k + j < 64 → k + j < n → Dec (r ≡ q) → cell after r (64 * i + j) ≡ row 64 run r (k + j)
    here r j h b c (yes e) = rw e (p.here j (omega arith) ∙ is j b c)
    here r j h b c (no d) = ap (λ f. f (64 * i + j)) (p.there r (omega arith) d) ∙ l.here r j (omega arith) b c

    early : (r m : ℕ) → r < 4 → m < 64 * i → Dec (r ≡ q) → cell after r m ≡ cell now r m
    early r m h b (yes e) = rw e (p.early m b)
    early r m h b (no d) = ap (λ f. f m) (p.there r h d)

-- A row's 64 cells as a word, of which the first n are kept and those before k dropped.
pub run_word : (run : List ℕ) (n k q v x : ℕ) → length run ≡ 256 → q < 4 → ((j m : ℕ) → j < 64 → 0 * 64 + j ≡ m → bit v j ≡ get_or (part 64 run q) m 0) → First v n x →
    (j : ℕ) → k + j < 64 → k + j < n → bit (x / 2 ^ k) j ≡ row 64 run q (k + j)
run_word run n k q v x size h is first j b c =
    bit_shr x k j ∙ first.cells (k + j) c ∙ is (k + j) (k + j) b (omega arith) ∙ part_row 64 run q (omega (arith, row_end 64 q 4 h)) (k + j) b

-- ## Sums

-- The rows have the sums of an image before position n.
pub record SumsTo (z : Sizes) (image : List ℕ) (n : ℕ) (rows : List ℕ) : Type 0 where
  pub rows_are : Rows 4 rows
  pub sums : (r m : ℕ) → r < 4 → m < n → m < track_length (shape z) → cell rows r m ≡ rule (shape z) (cells (shape z) image) r m % 2

-- One run more.
pub sums_more : (z : Sizes) (image run : List ℕ) (i p : ℕ) (before after : List ℕ) → SumsTo z image (64 * i) before → RunStart (track_length (shape z)) (64 * i) p →
    RunSums z image p run → RunLoaded run i (track_length (shape z) - p) (64 * i - p) 4 before after → SumsTo z image (64 * (i + 1)) after
sums_more z image run i p before after s at run_is l = record { rows_are = l.rows; sums = λ r m h b c. by_cases (dec_lt m (64 * i)) (old r m h c) (new r m h b c) }
  where
    old : (r m : ℕ) → r < 4 → m < track_length (shape z) → m < 64 * i → cell after r m ≡ rule (shape z) (cells (shape z) image) r m % 2
    old r m h c e = l.early r m h e ∙ s.sums r m h e c

    new : (r m : ℕ) → r < 4 → m < 64 * (i + 1) → m < track_length (shape z) → ¬ (m < 64 * i) → cell after r m ≡ rule (shape z) (cells (shape z) image) r m % 2
    new r m h b c e =
        let starts : p ≤ 64 * i = at.starts in
        let near : m < p + 64 = at.reaches m (omega arith) c in
        let j : 64 * i + (m - 64 * i) ≡ m = omega arith in
        let k : 64 * i - p + (m - 64 * i) ≡ m - p = omega arith in
        let q : p + (m - p) ≡ m = omega arith in
        ap (cell after r) (sym j) ∙ l.here r (m - 64 * i) h (omega arith) (omega arith) ∙ ap (row 64 run r) k
        ∙ (run_is.sums r (m - p) h (omega arith) (omega arith) ∙ ap (λ v. rule (shape z) (cells (shape z) image) r v % 2) q)

-- When all positions are done, the rows have the sums.
pub sums_in : (z : Sizes) (image : List ℕ) (n : ℕ) (rows : List ℕ) → SumsTo z image n rows → track_length (shape z) ≤ n → SumsIn z image rows
sums_in z image n rows s all = record { rows = s.rows_are; sums = record { diagonals = diagonal_in; verticals = vertical_in } }
  where
    diagonal_in : (d : TrackSet) (m : ℕ) → m < track_length (shape z) → diagonals rows d m ≡ diagonal (shape z) (cells (shape z) image) d m % 2
    diagonal_in A m h = s.sums 0 m (omega arith) (omega arith) h
    diagonal_in B m h = s.sums 1 m (omega arith) (omega arith) h

    vertical_in : (c : TrackSet) (m : ℕ) → m < track_length (shape z) → verticals rows c m ≡ vertical (shape z) (cells (shape z) image) c m % 2
    vertical_in A m h = s.sums 2 m (omega arith) (omega arith) h
    vertical_in B m h = s.sums 3 m (omega arith) (omega arith) h

-- ## First words

-- The first n words of four rows are 0.
pub record Clear (n : ℕ) (rows : List ℕ) : Type 0 where
  pub words : (r i : ℕ) → r < 4 → i < n → get_or rows (34 * r + 1 + i) 0 ≡ 0

-- Numbers whose bits together are 0 are 0.
or_zero : (a b : ℕ) → bit_or a b ≡ 0 → (a ≡ 0) × (b ≡ 0)
or_zero a b e = (omega (arith, or_add_and a b, xor_add_and a b), omega (arith, or_add_and a b, xor_add_and a b))

-- The next word of all rows is 0.
pub clear_more : (n : ℕ) (rows : List ℕ) → Clear n rows →
    bit_or (bit_or (bit_or (get_or rows (1 + n) 0) (get_or rows (35 + n) 0)) (get_or rows (69 + n) 0)) (get_or rows (103 + n) 0) ≡ 0 →
    Clear (n + 1) rows
clear_more n rows w e = record { words = λ r i h b. go r i h b (ℕ_discrete i n) }
  where
    d : (bit_or (bit_or (get_or rows (1 + n) 0) (get_or rows (35 + n) 0)) (get_or rows (69 + n) 0) ≡ 0) × (get_or rows (103 + n) 0 ≡ 0)
    d = or_zero _ _ e

    c : (bit_or (get_or rows (1 + n) 0) (get_or rows (35 + n) 0) ≡ 0) × (get_or rows (69 + n) 0 ≡ 0)
    c = or_zero _ _ d.0

    b : (get_or rows (1 + n) 0 ≡ 0) × (get_or rows (35 + n) 0 ≡ 0)
    b = or_zero _ _ c.0

    at : (r : ℕ) → r < 4 → get_or rows (34 * r + 1 + n) 0 ≡ 0
    at zero h = ap (λ (k : ℕ). get_or rows k 0) (omega arith) ∙ b.0
    at (suc zero) h = ap (λ (k : ℕ). get_or rows k 0) (omega arith) ∙ b.1
    at (suc (suc zero)) h = ap (λ (k : ℕ). get_or rows k 0) (omega arith) ∙ c.1
    at (suc (suc (suc zero))) h = ap (λ (k : ℕ). get_or rows k 0) (omega arith) ∙ d.1
    at (suc (suc (suc (suc k)))) h = absurd (omega arith)

    go : (r i : ℕ) → r < 4 → i < n + 1 → Dec (i ≡ n) → get_or rows (34 * r + 1 + i) 0 ≡ 0
    go r i h b (yes s) = rw s (at r h)
    go r i h b (no d) = w.words r i h (omega arith)

-- Cells of words that are 0 are 0.
pub start_of : (l n start : ℕ) (rows : List ℕ) → Clear n rows → l ≤ 2112 → start ≤ 33 →
    (0 < start → (m : ℕ) → m < 64 * (start + 1) → m < l → m < 64 * n) → StartOf l rows start
start_of l n start rows w small within past = record {
  within = within;
  zero = λ p r m h b c.
      let i : m < 64 * n = past p m b c in
      cell_word rows r (m / 64) (m % 64) m (omega arith) (omega arith) (omega arith) ∙ ap (λ x. bit x (m % 64)) (w.words r (m / 64) h (omega arith)) ∙ bit_zero (m % 64);
}
