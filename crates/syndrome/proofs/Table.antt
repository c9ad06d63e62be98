-- The four rows of l cells.
use mathlib.Core.Path.{◌≡◌, subst, ◌∙◌}
use mathlib.Core.Logic.{◌≢◌, by_cases}
use mathlib.Core.List.{List}
use Prim.Native.Nat.{ℕ, ◌+◌, ◌*◌, ◌/◌, ◌%◌, ◌<◌}
use native.Mathlib.Nat.{div-add-mod', div-lt_iff_lt-mul, mod-lt}
use native.Mathlib.Decide.{dec_lt, ℕ_discrete}
use native.Mathlib.Omega.{arith}
use lib.Arith.{digits_lt}
use lib.ListN.{length, get_or, get_or-eq_default}
use Rattle.code.specs.Record.{back}
use Rattle.syndrome.specs.Steps.{Rows, RowAdded}

-- A cell of a row is within the rows.
pub row_in : (l row m : ℕ) (syn : List ℕ) → Rows l syn → row < 4 → m < l → row * l + m < length syn
row_in l row m syn r h k = omega (arith, digits_lt h k, r.size)

-- What holds of each cell of each row holds of each cell.
pub by_rows : (l : ℕ) (P : ℕ → Type 0) → ((r m : ℕ) → r < 4 → m < l → P (r * l + m)) → (i : ℕ) → i < 4 * l → P i
by_rows l P h i b =
    let some : 0 < l = omega arith in
    subst P (div-add-mod' i l) (h (i / l) (i % l) ((div-lt_iff_lt-mul some).1 b) (mod-lt i some))

-- Rows of which one is added to are rows of bits again.
pub row_added : (l row : ℕ) (f : ℕ → ℕ) (off : ℕ) (before after : List ℕ) → Rows l before → length after ≡ length before →
    ((m : ℕ) → m < l → get_or after (row * l + m) 0 ≡ (get_or before (row * l + m) 0 + back f m off) % 2) →
    ((r m : ℕ) → r ≢ row → m < l → get_or after (r * l + m) 0 ≡ get_or before (r * l + m) 0) → RowAdded l row f off before after
row_added l row f off before after rows size here there = record {
  rows = record { size = size ∙ rows.size; bits = λ i. by_cases (dec_lt i (4 * l)) (by_rows l (λ i. get_or after i 0 < 2) bit i) (late i) };
  here = here;
  there = there;
}
  where
    bit : (r m : ℕ) → r < 4 → m < l → get_or after (r * l + m) 0 < 2
    bit r m h k = by_cases (ℕ_discrete r row)
        (λ e. rw (e, here m k) (mod-lt _ (omega arith)))
        (λ d. rw (there r m d k) (rows.bits (r * l + m)))

    late : (i : ℕ) → ¬ (i < 4 * l) → get_or after i 0 < 2
    late i n = rw (get_or-eq_default after 0 {n = i} (omega (arith, rows.size))) (omega arith)
