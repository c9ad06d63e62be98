-- u's error past `end`: of track 0 what is left of its own diagonal, and of a data track nothing.
use mathlib.Core.Path.{◌≡◌, refl, sym, ap, ◌∙◌}
use mathlib.Core.Logic.{◌≢◌, by_cases}
use mathlib.Core.List.{List}
use Prim.Native.Nat.{ℕ, zero, suc, ◌+◌, ◌*◌, ◌-◌, ◌<◌, ◌≤◌, ◌%◌}
use native.Mathlib.Decide.{dec_lt}
use native.Mathlib.Omega.{arith}
use lib.Bits.{bit_xor}
use lib.ListN.{get_or}
use Rattle.code.specs.declared.sizes.TrackSet.{TrackSet}
use Rattle.code.specs.declared.sizes.TrackSet.TheVariants.{A, B}
use Rattle.code.specs.Record.{Shape, lag, track_length}
use Rattle.code.specs.Sizes.{shape}
use Rattle.code.specs.declared.sizes.Sizes.{Sizes}
use Rattle.code.proofs.Cell.{lag_sets}
use Rattle.code.proofs.OneTrack.{offset, offset_both}
use Rattle.plans.specs.declared.Form.{Form}
use Rattle.plans.specs.Plans.{count, v_of, u_of}
use Rattle.words.specs.Words.{bit, First}
use Rattle.words.proofs.Bit.{bit_lt, bit_of_xor}
use Rattle.forms.specs.Streams.{Stream, cut}
use Rattle.forms.specs.Forms.{left}
use Rattle.forms.specs.Found.{extent, at_zero, lower_row, residue}
use Rattle.forms.proofs.Shifts.{cut_in, cut_out}
use Rattle.forms.proofs.Lows.{low_same, form_order}
use Rattle.forms.proofs.Pivots.{met_same}
use Rattle.forms.proofs.Strides.{extent_fits, form_strides}
use Rattle.errors.specs.Rows.{cell, diagonals, verticals, Shown, Put}
use Rattle.errors.specs.Steps.{Given, TailPut}
use Rattle.errors.proofs.Cells.{cell_index}
use Rattle.errors.proofs.Shown.{shown_at}
use Rattle.errors.proofs.Words.{put_later, in_word, word_cases}

-- No track reaches past its end.
pub extent_within : (sh : Shape) (w t : ℕ) → w ≤ track_length sh → extent sh w t ≤ track_length sh
extent_within sh w zero l = l
extent_within sh w (suc t) l = omega arith

-- ## Track 0, or a data track

-- The extent of track 0.
extent_zero : (sh : Shape) (w t : ℕ) → t ≡ 0 → extent sh w t ≡ w
extent_zero sh w zero e = refl
extent_zero sh w (suc t) e = absurd (omega arith)

-- What counts of track 0, of a data track, and where there is nothing.
at_zero_zero : (t x : ℕ) → t ≡ 0 → at_zero t x ≡ x
at_zero_zero zero x e = refl
at_zero_zero (suc t) x e = absurd (omega arith)

at_zero_data : (t x : ℕ) → t ≢ 0 → at_zero t x ≡ 0
at_zero_data zero x d = absurd (d refl)
at_zero_data (suc t) x d = refl

pub at_zero_none : (t x : ℕ) → x ≡ 0 → at_zero t x ≡ 0
at_zero_none zero x e = e
at_zero_none (suc t) x e = refl

-- The diagonal of the other set meets track 0 a lag later.
offset_zero : (sh : Shape) (s q : TrackSet) (t : ℕ) → t ≡ 0 → q ≢ s → offset sh s q t ≡ lag sh
offset_zero sh A A t e d = absurd (d refl)
offset_zero sh A B t e d = omega (arith, (offset_both sh B t (omega arith)).1)
offset_zero sh B A t e d = omega (arith, (offset_both sh A t (omega arith)).1)
offset_zero sh B B t e d = absurd (d refl)

module _ (z : Sizes) (end : ℕ) (p : Form) (rows : List ℕ) where
  abbrev s : TrackSet
  s = (v_of p).s

  abbrev q : TrackSet
  q = (u_of p).s

  -- ## What is left of the diagonals, and with the errors of u and v taken off

  abbrev R : TrackSet → Stream
  R = left (shape z) end (diagonals rows) (verticals rows) p

  abbrev residues : Stream → Stream → TrackSet → Stream
  residues = residue (shape z) end p (diagonals rows) (verticals rows)

  -- It is the same for errors that are the same where the diagonal meets them.
  residue_same : (U U' E E' : Stream) (d : TrackSet) (m : ℕ) → ((o : ℕ) → o + offset (shape z) d q (u_of p).t ≡ m → U o ≡ U' o) →
      ((o : ℕ) → o < end → o ≤ m → U o ≡ U' o) → ((o : ℕ) → o ≤ m → E o ≡ E' o) → residues U E d m ≡ residues U' E' d m
  unfolding residue
  residue_same U U' E E' d m on_track on_pivot lower = ap (λ v. R d m + v) (low_same (count p) _ _ _ _
      (λ b. met_same (shape z) end E E' d _ _ _ m (λ o e. lower o (omega arith)) (λ o l e. lower o (omega arith)))
      (λ b. met_same (shape z) end U U' d _ _ _ m on_track (λ o l e. on_pivot o l (omega arith))))

  -- No error past the position is met.
  pub residue_early : (U U' E E' : Stream) (d : TrackSet) (m : ℕ) → ((o : ℕ) → o ≤ m → U o ≡ U' o) → ((o : ℕ) → o ≤ m → E o ≡ E' o) →
      residues U E d m ≡ residues U' E' d m
  residue_early U U' E E' d m upper lower = residue_same U U' E E' d m (λ o e. upper o (omega arith)) (λ o l. upper o) lower

  -- v's diagonal meets u's error before the position that it is read for, and of track 0 none from `end` on.
  pub lower_row_same : (found : List ℕ) → Given z end p rows found → (U U' : Stream) (m : ℕ) → m < extent (shape z) (track_length (shape z)) (v_of p).t →
      ((o : ℕ) → o < m → ((u_of p).t ≡ 0 → o < end) → U o ≡ U' o) →
      lower_row (shape z) end p (diagonals rows) (verticals rows) U m ≡ lower_row (shape z) end p (diagonals rows) (verticals rows) U' m
  lower_row_same found given U U' m l same = ap (λ v. R s (m + (v_of p).t) + v) (low_same (count p) 0 _ 0 _ (λ h. refl) (λ h.
      let order = form_order (shape z) p given.sized in
      let low = order.v_below (omega arith) in
      let fits = extent_fits (shape z) (track_length (shape z)) (v_of p).t (omega arith) (omega (arith, lag_sets (shape z) s)) in
      let t = form_strides (shape z) end p given.sized given.end_small h in
      met_same (shape z) end U U' _ _ _ _ (m + (v_of p).t)
      (λ o e. same o (omega arith)
      (λ u. omega (arith, given.end_data, offset_zero (shape z) s q (u_of p).t u (λ d. omega (arith, order.rising h d)))))
      (λ o n e. same o (omega arith) (λ u. n))))

  -- ## Word i of u's tail

  module _ (i : ℕ) (found : List ℕ) (none : (m : ℕ) → 64 * i ≤ m → m < 64 * (i + 1) → extent (shape z) end (u_of p).t ≤ m → cell found 0 m ≡ 0) where
    -- Of track 0 the cells from `end` on of r are put, where f has those before it.
    module _ (r f : ℕ) (after : List ℕ) (track : (u_of p).t ≡ 0) (short : i < 33) (far : end < 64 * i + 64)
        (shown : Shown (track_length (shape z)) (residues (cell found 0) (cell found 1) q) (64 * i + 64) r) (first : First r (end - 64 * i) f)
        (put : Put 5 found 0 i (bit_xor (get_or found (1 + i) 0) (bit_xor r f)) after) where
      -- The cells of the word, and those before `end`.
      put_cells : (k : ℕ) → k < 64 → cell after 0 (64 * i + k) ≡ (cell found 0 (64 * i + k) + (bit r k + bit f k)) % 2
      put_cells k b = put.here k b ∙ omega (
        arith,
        bit_of_xor (get_or found (1 + i) 0) (bit_xor r f) k,
        bit_of_xor r f k,
        cell_index found 0 i k (64 * i + k) (1 + i) short b refl (omega arith),
      )

      stays : (m : ℕ) → m < end → cell after 0 m ≡ cell found 0 m
      stays m l = word_cases i (λ m. m < end → cell after 0 m ≡ cell found 0 m)
          (λ m b l. put.early m b)
          (λ k b l. put_cells k b ∙ omega (
            arith,
            first.cells k (omega arith),
            cell_index found 0 i k (64 * i + k) (1 + i) short b refl (omega arith),
            bit_lt (get_or found (1 + i) 0) k,
          ))
          m (omega arith) l

      -- u's own diagonal meets it at the position itself, where it was 0.
      own_diagonal : (m : ℕ) → 64 * i ≤ m → m < 64 * (i + 1) → end ≤ m →
          residues (cell found 0) (cell found 1) q m ≡ residues (cut end (cell after 0)) (cell after 1) q m
      own_diagonal m a b e =
          let at = (offset_both (shape z) q (u_of p).t (omega arith)).0 in
          residue_same _ _ _ _ q m
          (λ o h. none o (omega arith) (omega arith) (omega (arith, extent_zero (shape z) end (u_of p).t track)) ∙ sym (cut_out end (cell after 0) o (omega arith)))
          (λ o l h. sym (cut_in end (cell after 0) o l ∙ stays o l))
          (λ o h. ap (λ x. x o) (sym (put.there 1 (omega arith) (omega arith))))

      pub tail_put : TailPut z end p rows found i after
      tail_put = record {
        later = put_later found 0 i _ after put;
        others = put.there;
        same = λ m l. stays m (omega (arith, extent_zero (shape z) end (u_of p).t track));
        tail = in_word i
            (λ m. m < track_length (shape z) → extent (shape z) end (u_of p).t ≤ m →
            cell after 0 m ≡ at_zero (u_of p).t (residues (cut end (cell after 0)) (cell after 1) q m % 2))
            (λ k b l e.
            let h = extent_zero (shape z) end (u_of p).t track in
            put_cells k b ∙ omega (
              arith,
              none (64 * i + k) (omega arith) (omega arith) e,
              first.none k (omega arith),
              shown_at _ _ _ r shown k (64 * i + k) b (omega arith) l,
              own_diagonal (64 * i + k) (omega arith) (omega arith) (omega arith),
              at_zero_zero (u_of p).t (residues (cut end (cell after 0)) (cell after 1) q (64 * i + k) % 2) track,
            ));
      }

    -- The cells of word i and before it stay, but for those of track 0 from `end` on.
    pub tail_same : (after : List ℕ) → TailPut z end p rows found i after →
        (m : ℕ) → m < 64 * (i + 1) → m < track_length (shape z) → ((u_of p).t ≡ 0 → m < end) → cell found 0 m ≡ cell after 0 m
    tail_same after put m b l inside = by_cases (dec_lt m (extent (shape z) end (u_of p).t))
        (λ e. sym (put.same m e))
        (λ e. by_cases (dec_lt m (64 * i))
        (λ a. sym (put.later.early 0 m (omega arith) a))
        (λ a. none m (omega arith) b (omega arith) ∙ sym (put.tail m (omega arith) b l (omega arith)
        ∙ at_zero_data (u_of p).t _ (λ t. omega (arith, inside t, extent_zero (shape z) end (u_of p).t t)))))
