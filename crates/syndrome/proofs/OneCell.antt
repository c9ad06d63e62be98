-- A bit that is added to a cell: one cell, in a row of the syndromes and in a working copy.
use mathlib.Core.Path.{◌≡◌, refl, sym, ap, ◌∙◌}
use mathlib.Core.Logic.{by_cases}
use mathlib.Core.List.{List}
use Prim.Native.Nat.{ℕ, zero, suc, ◌+◌, ◌*◌, ◌-◌, ◌/◌, ◌%◌, ◌<◌, ◌≤◌}
use native.Mathlib.Decide.{ℕ_discrete}
use native.Mathlib.Omega.{arith}
use native.Mathlib.Nat.{mul-zero, mul_left_comm}
use lib.Arith.{digits_div}
use lib.ListN.{length, get_or, set}
use lib.Seq.{get_or-set_same, get_or-set_other}
use Rattle.code.specs.Record.{track_length, back}
use Rattle.code.specs.declared.sizes.TrackSet.{TrackSet}
use Rattle.code.specs.Image.{track_number, cells}
use Rattle.code.specs.Sizes.{shape}
use Rattle.code.specs.declared.sizes.Sizes.{Sizes}
use Rattle.code.proofs.Mono.{mono, mono_hit, mono_miss, back_mono}
use Rattle.code.proofs.OneTrack.{mono_same, put, put_number}
use Rattle.code.proofs.Linear.{◌⊞◌}
use Rattle.code.proofs.Places.{cell_lt}
use Rattle.syndrome.specs.Steps.{Rows, one_cell, RowAdded, BitAdded, TrackAdded}
use Rattle.syndrome.specs.Syndrome.{Kept, IsCell, CellAdded, index}
use Rattle.syndrome.proofs.Table.{row_in, row_added}
use Rattle.syndrome.proofs.Law.{holds_same}

-- D^i is added to a list of bits whose cell i is turned over.
pub turned_at : (xs : List ℕ) (i : ℕ) → i < length xs → ((j : ℕ) → get_or xs j 0 < 2) → (j : ℕ) →
    get_or (set xs i (1 - get_or xs i 0)) j 0 ≡ (get_or xs j 0 + mono i j) % 2
turned_at xs i h bits j = by_cases (ℕ_discrete j i)
    (λ e. rw (e, get_or-set_same xs i (1 - get_or xs i 0) 0 h, mono_hit i i refl) (omega (arith, bits i)))
    (λ d. rw (get_or-set_other xs i j (1 - get_or xs i 0) 0 d, mono_miss i j (λ e. d (sym e))) (omega (arith, bits j)))

-- In a table a single cell is met in its row and column.
mono_table : (l a b p q : ℕ) → p < l → q < l → mono (a * l + p) (b * l + q) ≡ mono a b * mono p q
mono_table l a b p q h k = by_cases (ℕ_discrete a b)
    (λ e. rw (mono_hit a b e) (mono_same _ _ p q (λ i. omega (arith, ap (λ x. x * l) e)) (λ i. omega (arith, ap (λ x. x * l) e)) ∙ omega arith))
    (λ d. rw (mono_miss a b d) (mono_miss _ _ (λ i. d (sym (digits_div a h) ∙ ap (λ x. x / l) i ∙ digits_div b k)) ∙ omega arith))

-- A bit w is added to cell i: so is the track whose one cell is w at i.
added_at : (xs after : List ℕ) (i w : ℕ) → i < length xs → ((j : ℕ) → get_or xs j 0 < 2) → w < 2 → BitAdded xs i w after → (j : ℕ) →
    get_or after j 0 ≡ (get_or xs j 0 + one_cell w i j) % 2
added_at xs after i zero h bits k b j = rw (b.zero refl) (omega (arith, bits j))
added_at xs after i (suc zero) h bits k b j = rw (b.one refl, turned_at xs i h bits j) (omega arith)
added_at xs after i (suc (suc w)) h bits k b j = absurd (omega arith)

-- Shifted by k, the one cell is at p + k.
back_one : (w p m k : ℕ) → back (one_cell w p) m k ≡ one_cell w (p + k) m
unfolding back
back_one w p m k = times m k ∙ ap (λ v. w * v) (back_mono p m k)
  where
    times : (m k : ℕ) → back (one_cell w p) m k ≡ w * back (mono p) m k
    times m zero = refl
    times zero (suc k) = sym (mul-zero w)
    times (suc m) (suc k) = times m k

module _ (l row p off w : ℕ) (syn : List ℕ) (rows : Rows l syn) (h : row < 4) where
  -- What `add_sum` gives where the row has the sum.
  pub bit_row : (i : ℕ) (after : List ℕ) → w < 2 → p + off < l → i ≡ row * l + (p + off) → BitAdded syn i w after → RowAdded l row (one_cell w p) off syn after
  bit_row i after k b e a = row_added l row _ off syn after rows a.size
      (λ m c. at row m ∙ rw (mono_table l row row (p + off) m b c, mono_hit row row refl, back_one w p m off) (omega arith))
      (λ r m d c. at r m ∙ rw (mono_table l row r (p + off) m b c, mono_miss row r (λ e. d (sym e))) (omega (arith, rows.bits (r * l + m))))
    where
      at : (r m : ℕ) → get_or after (r * l + m) 0 ≡ (get_or syn (r * l + m) 0 + one_cell w (row * l + (p + off)) (r * l + m)) % 2
      at r m = added_at syn after _ w (row_in l row (p + off) syn rows h b) rows.bits k (rw e at a) (r * l + m)

  -- And where it has not.
  pub past_row : l ≤ p + off → RowAdded l row (one_cell w p) off syn syn
  past_row b = row_added l row _ off syn syn rows refl
      (λ m k. rw (back_one w p m off, mono_miss (p + off) m (omega arith), mul-zero w) (omega (arith, rows.bits (row * l + m))))
      (λ r m d k. refl)

module _ (z : Sizes) (s : TrackSet) (t p w : ℕ) (out syn : List ℕ) (kept : Kept z out syn) (cell : IsCell z s t p) (bit : w < 2) where
  -- The cell is one of the image.
  index_in : index z s t p < length out
  index_in = omega (arith, cell_lt (shape z) s t p cell.track_small cell.position_small, kept.image.size)

  -- What `add_any` and `add_cell` give.
  pub cell_added : (o n : List ℕ) → BitAdded out (index z s t p) w o → TrackAdded (shape z) s t (one_cell w p) syn n → CellAdded z s t p w out o n
  cell_added o n b a = record {
    kept = record {
      image = record { size = b.size ∙ kept.image.size; bits = b.bits.bit };
      holds = holds_same (shape z) (cells (shape z) out ⊞ put s t (one_cell w p)) _ n
          (record {
            cell = λ u v m h k. rw (
              added_at out o (index z s t p) w index_in kept.image.bits bit b (track_number (shape z) u v * track_length (shape z) + m),
              mono_table (track_length (shape z)) (track_number (shape z) s t) (track_number (shape z) u v) p m cell.position_small k,
              put_number (shape z) s t (one_cell w p) u v m cell.track_small h,
              mul_left_comm w (mono (track_number (shape z) s t) (track_number (shape z) u v)) (mono p m),
            ) (omega arith);
          })
          (a.holds (cells (shape z) out) kept.holds);
    };
    zero = b.zero;
    one = b.one;
  }
