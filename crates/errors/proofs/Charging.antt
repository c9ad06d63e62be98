-- Words of the cells of rows, as they are and charged to the diagonals.
use mathlib.Core.Path.{◌≡◌, refl, sym, ap, subst, ◌∙◌}
use mathlib.Core.Logic.{by_cases}
use mathlib.Core.List.{List}
use Prim.Native.Nat.{ℕ, ◌+◌, ◌*◌, ◌-◌, ◌<◌, ◌≤◌, ◌%◌}
use native.Mathlib.Decide.{dec_le, dec_lt}
use native.Mathlib.Omega.{arith}
use lib.ListN.{get_or}
use lib.Bits.{bit_xor}
use Rattle.code.specs.declared.sizes.TrackSet.{TrackSet}
use Rattle.code.specs.declared.sizes.TrackSet.TheVariants.{A, B}
use Rattle.code.specs.Record.{row_of, Shape, data_tracks, lag, track_length, back}
use Rattle.code.proofs.OneTrack.{offset, offset_vertical}
use Rattle.code.proofs.Sums.{back_at, back_early, back_same, back_zero, back_back}
use Rattle.words.specs.Words.{Window, First}
use Rattle.words.proofs.Bit.{bit_lt, bit_zero}
use Rattle.forms.specs.Streams.{Stream, cut}
use Rattle.forms.specs.Forms.{left, met}
use Rattle.forms.proofs.Shifts.{cut_in, cut_out}
use Rattle.plans.specs.declared.Form.{Form}
use Rattle.plans.specs.Plans.{pivot}
use Rattle.errors.specs.Rows.{cell, diagonals, verticals, Shown, Late, Charged, Delay}
use Rattle.errors.proofs.Cells.{cell_at, lead_bit}
use Rattle.errors.proofs.Shown.{shown_xor, shown_back}

-- A window has the cells of a row.
pub shown_row : (ws : List ℕ) (row at w : ℕ) → get_or ws (34 * row) 0 ≡ 0 → Window ws (2176 * row + at) w →
    (n : ℕ) → n ≤ 2112 → Shown n (cell ws row) at w
shown_row ws row at w z p n b = record {
  cells = λ k l h. by_cases (dec_le 64 (at + k))
      (λ g. omega (
        arith,
        p.cells k (2176 * row + (at + k)) l (omega arith),
        cell_at ws row (at + k - 64) (2176 * row + (at + k)) (omega arith) (omega arith),
        back_at (cell ws row) (at + k - 64) 64 (at + k) (omega arith),
        bit_lt w k,
      ))
      (λ g. omega (
        arith,
        p.cells k (2176 * row + (at + k)) l (omega arith),
        lead_bit ws row (at + k) (2176 * row + (at + k)) z (omega arith) refl,
        back_early (cell ws row) (at + k) 64 (omega arith),
      ));
}

-- A stream that is 0 from position `at` - 64 on.
pub shown_none : (n : ℕ) (f : Stream) (at : ℕ) → ((m : ℕ) → at ≤ m + 64 → m < n → f m ≡ 0) → Shown n f at 0
shown_none n f at z = record {
  cells = λ k l h. bit_zero k ∙ sym (ap (λ v. v % 2) (back_zero f (at + k) 64 (λ p e. z p (omega arith) (omega arith))));
}

-- The first cells of a word are those before `end`.
pub shown_first : (n : ℕ) (f : Stream) (at end v w : ℕ) → Shown n f at v → First v (end + 64 - at) w → Shown n (cut end f) at w
shown_first n f at end v w p q = record {
  cells = λ k l h. by_cases (dec_lt k (end + 64 - at))
      (λ g. q.cells k g ∙ p.cells k l h ∙ ap (λ v. v % 2) (back_same f (cut end f) (at + k) 64 (λ m e. sym (cut_in end f m (omega arith)))))
      (λ g. q.none k (omega arith) ∙ sym (ap (λ v. v % 2) (back_zero (cut end f) (at + k) 64 (λ m e. cut_out end f m (omega arith)))));
}

-- The same cells, k positions later.
pub shown_later : (n : ℕ) (f : Stream) (at w c : ℕ) → c ≤ at → Shown n f (at - c) w → Shown n (λ m. back f m c) at w
shown_later n f at w c g p = record {
  cells = λ k l h. shown_back n f (at - c) w p k (at + k) (c + 64) l (omega arith) (omega arith) ∙ ap (λ v. v % 2) (sym (back_back f (at + k) c 64));
}

-- What is read at a track's delay is charged to the diagonal.
pub charged_at : (ws : List ℕ) (sh : Shape) (row end : ℕ) (d s : TrackSet) (t at r w : ℕ) → lag sh < 64 → track_length sh ≤ 2112 →
    Delay sh d s t r → Late ws row at r end w → Charged sh end d s t (cell ws row) at w
charged_at ws sh row end d s t at r w a b p q = by_cases (dec_le t (data_tracks sh s))
    (λ l. subst (λ k. Shown (track_length sh) (λ m. back (cut end (cell ws row)) m k) at w) (p.near l) (q.near (omega (arith, p.small l)) (track_length sh) b))
    (λ l. subst (λ v. Charged sh end d s t (cell ws row) at v) (sym (q.far (omega (arith, p.far (omega arith)))))
    (shown_none (track_length sh) _ at (λ m g h. back_early _ m _ (omega (arith, offset_vertical sh d s t (omega arith))))))

-- The same of a track by another name.
pub charged_as : (sh : Shape) (end : ℕ) (d : TrackSet) (f : Stream) (at w : ℕ) (s r : TrackSet) (t u : ℕ) → s ≡ r → t ≡ u →
    Charged sh end d s t f at w → Charged sh end d r u f at w
charged_as sh end d f at w s r t u e k h = rw (← e, ← k) h

-- What is left of the diagonal of set d.
pub left_at : (rows : List ℕ) (sh : Shape) (end : ℕ) (p : Form) (d : TrackSet) (at x y z : ℕ) → Shown (track_length sh) (cell rows (row_of d)) at x →
    Charged sh end d A (pivot p A) (cell rows 2) at y → Charged sh end d B (pivot p B) (cell rows 3) at z →
    Shown (track_length sh) (left sh end (diagonals rows) (verticals rows) p d) at (bit_xor (bit_xor x y) z)
unfolding left
left_at rows sh end p d at x y z f g e = shown_xor _ _ _ at _ _ (shown_xor _ _ _ at _ _ f g) e

-- What the diagonal of set d meets of a pair.
pub met_at : (found : List ℕ) (sh : Shape) (end row : ℕ) (d s : TrackSet) (t j at r x y : ℕ) → r ≤ at → r ≡ offset sh d s t →
    Shown (track_length sh) (cell found row) (at - r) x → Charged sh end d s j (cell found row) at y →
    Shown (track_length sh) (met sh end (cell found row) d s t j) at (bit_xor x y)
unfolding met
met_at found sh end row d s t j at r x y l e f g = shown_xor _ _ _ at _ _
    (subst (λ k. Shown (track_length sh) (λ m. back (cell found row) m k) at x) e (shown_later _ (cell found row) at x r l f)) g
