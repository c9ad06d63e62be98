-- Images with listed ones, as cells: what the examples compute with.
use mathlib.Core.Path.{◌≡◌, ap, ◌∙◌}
use mathlib.Core.Logic.{by_cases}
use mathlib.Core.Bool.{Bool, true, false}
use mathlib.Core.List.{List, [], ◌∷◌, ◌++◌}
use Prim.Native.Nat.{ℕ, ◌+◌, ◌*◌, ◌-◌, ◌<◌, ◌≤◌}
use native.Mathlib.Decide.{ℕ_discrete, dec_lt}
use native.Mathlib.Omega.{arith}
use borrow.Author.Tests.{eq-eqb, ne_eqb}
use lib.Dec.{eqb}
use lib.ListN.{length, get_or, drop, length-append, length-drop, length-set, length-replicate, get_or-replicate, get_or-append, get_or-eq_default}
use lib.Seq.{get_or-set_same, get_or-set_other, get_or-append-add, get_or-drop}
use Rattle.code.specs.Record.{base, Cells, Same}
use Rattle.code.specs.Image.{track_number, cells}
use Rattle.code.specs.Reach.{pick}
use Rattle.code.specs.Calls.{Stays}
use Rattle.code.specs.Examples.{ones}
use Rattle.code.proofs.Places.{cell_lt}

-- 1 at a listed index and 0 elsewhere.
unfoldable pub spot : List ℕ → ℕ → ℕ
spot [] i = 0
spot (j ∷ js) i = pick (eqb i j) 1 (spot js i)

abbrev pub spots : List ℕ → Cells
spots is s t m = spot is (track_number (base 1) s t * 23 + m)

pub length_ones : (is : List ℕ) → length (ones is) ≡ 414
unfolding ones
length_ones [] = length-replicate {A = ℕ} 414 0
length_ones (i ∷ is) = length-set (ones is) i 1 ∙ length_ones is

pub ones_at : (is : List ℕ) (i : ℕ) → i < 414 → get_or (ones is) i 0 ≡ spot is i
unfolding ones spot
ones_at [] i h = get_or-replicate 414 i 0 0 h
ones_at (j ∷ js) i h = by_cases (ℕ_discrete i j)
    (λ e. rw (eq-eqb i j e, e) (get_or-set_same (ones js) j 1 0 (omega (arith, length_ones js))))
    (λ d. rw (ne_eqb i j d) (get_or-set_other (ones js) j i 1 0 d ∙ ones_at js i h))

spot_bit : (is : List ℕ) (i : ℕ) → spot is i < 2
unfolding spot
spot_bit [] i = omega arith
spot_bit (j ∷ js) i = go (eqb i j) (spot_bit js i)
  where
    go : (b : Bool) → spot js i < 2 → pick b 1 (spot js i) < 2
    go true h = omega arith
    go false h = h

pub ones_bit : (is : List ℕ) (i : ℕ) → get_or (ones is) i 0 < 2
ones_bit is i = by_cases (dec_lt i 414)
    (λ h. rw (ones_at is i h) (spot_bit is i))
    (λ h. rw (get_or-eq_default (ones is) 0 {n = i} (omega (arith, length_ones is))) (omega arith))

-- The cells of such an image, and of an output that begins with it.
pub ones_cells : (is rest : List ℕ) → Same (base 1) (cells (base 1) (ones is ++ rest)) (spots is)
ones_cells is rest = record {
  cell = λ s t m l b.
      let h = cell_lt (base 1) s t m l b in
      get_or-append (ones is) rest 0 _ (omega (arith, length_ones is)) ∙ ones_at is _ h;
}

pub image_cells : (is : List ℕ) → Same (base 1) (cells (base 1) (ones is)) (spots is)
image_cells is = record { cell = λ s t m l b. ones_at is _ (cell_lt (base 1) s t m l b) }

pub ones_stay : (is before : List ℕ) → 414 ≤ length before → Stays 414 before (ones is ++ drop 414 before)
ones_stay is before h = record {
  lengths = omega (arith, length-append (ones is) (drop 414 before), length_ones is, length-drop 414 before);
  later = λ i l. rw (at i l) (get_or-append-add (ones is) (drop 414 before) (i - 414) 0 ∙ get_or-drop 414 before (i - 414) 0 ∙ ap (λ (k : ℕ). get_or before k 0) (omega (arith, length_ones is)));
}
  where
    at : (i : ℕ) → 414 ≤ i → i ≡ length (ones is) + (i - 414)
    at i l = omega (arith, length_ones is)
