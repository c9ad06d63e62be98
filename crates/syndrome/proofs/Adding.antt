-- A bit is added to a cell and to the sums that it stands in.
use mathlib.Core.Path.{◌≡◌, refl, sym, ap, ◌∙◌}
use mathlib.Core.List.{List}
use Prim.Native.Nat.{ℕ, zero, suc, ◌+◌, ◌*◌, ◌-◌, ◌<◌, ◌≤◌}
use native.Mathlib.Decide.{ℕ_discrete}
use native.Mathlib.Omega.{arith}
use borrow.Rule.Slice.PartMut.{put_mid, mid_len, same_len_mid}
use native.Mathlib.Nat.{mod-lt}
use lib.Arith.{digits_lt}
use lib.ListN.{length, get_or, set, take, drop, length-set}
use lib.Seq.{get_or-set_same, get_or-set_other}
use Rattle.code.specs.Record.{other, row_of, data_tracks, tracks, lag, track_length}
use Rattle.code.specs.declared.sizes.TrackSet.{TrackSet}
use Rattle.code.specs.Sizes.{shape}
use Rattle.code.specs.declared.sizes.Sizes.{Sizes}
use Rattle.code.proofs.Cell.{lag_sets}
use Rattle.code.specs.Image.{track_number, all_tracks}
use Rattle.code.proofs.Places.{number_lt, row_end}
use Rattle.track.specs.Track.{Bits}
use Rattle.track.proofs.Parts.{part_at, put_list}
use Rattle.syndrome.specs.declared.Line.{Line}
use Rattle.syndrome.specs.Syndrome.{Kept, IsCell, LineOf, CellAdded}
use Rattle.syndrome.specs.Steps.{Rows, one_cell, RowAdded, BitAdded, TrackAdded}
use Rattle.syndrome.proofs.OneCell.{turned_at, bit_row, cell_added}
use Rattle.syndrome.proofs.Pairs.{two_rows}
use Rattle.syndrome.proofs.Law.{crossed, uncrossed}

-- What `add_on_track` gives: a bit is added to a cell of a part, so it is added to that cell of the list.
pub bit_on_track : (xs ys : List ℕ) (a l p w : ℕ) → Bits xs → a + l ≤ length xs → p < l → w < 2 → BitAdded (take (a + l - a) (drop a xs)) p w ys →
    BitAdded xs (a + p) w (put_mid a (a + l - a) xs ys)
bit_on_track xs ys a l p w bits room h k b = go w k b
  where
    size : length ys ≡ a + l - a
    size = b.size ∙ mid_len a (a + l) xs room

    same_len : length (put_mid a (a + l - a) xs ys) ≡ length xs
    same_len = same_len_mid a (a + l - a) xs ys b.size

    go : (w : ℕ) → w < 2 → BitAdded (take (a + l - a) (drop a xs)) p w ys → BitAdded xs (a + p) w (put_mid a (a + l - a) xs ys)
    go zero k b =
        let e : put_mid a (a + l - a) xs ys ≡ xs = put_list xs ys xs a l room size refl (λ i c. refl)
        (λ m c. ap (λ (zs : List ℕ). get_or zs m 0) (b.zero refl) ∙ part_at xs a (a + l - a) m (omega arith)) (λ i c. refl) in
        record { size = same_len; bits = rw e bits; zero = λ _. e; one = λ d. absurd (omega arith) }
    go (suc zero) k b =
        let v : ℕ = 1 - get_or xs (a + p) 0 in
        let e : put_mid a (a + l - a) xs ys ≡ set xs (a + p) v = put_list xs ys (set xs (a + p) v) a l room size (length-set xs (a + p) v)
        (λ i c. sym (get_or-set_other xs (a + p) i v 0 (omega arith))) (λ m c. ap (λ (zs : List ℕ). get_or zs m 0) (b.one refl) ∙ here m c (ℕ_discrete m p))
        (λ i c. sym (get_or-set_other xs (a + p) i v 0 (omega arith))) in
        record { size = same_len; bits = rw e (record { bit = λ j. rw (turned_at xs (a + p) (omega arith) bits.bit j) (mod-lt _ (omega arith)) }); zero = λ d. absurd (omega arith); one = λ _. e }
      where
        here : (m : ℕ) → m < l → Dec (m ≡ p) →
            get_or (set (take (a + l - a) (drop a xs)) p (1 - get_or (take (a + l - a) (drop a xs)) p 0)) m 0 ≡ get_or (set xs (a + p) (1 - get_or xs (a + p) 0)) (a + m) 0
        here m c (yes d) = rw d (get_or-set_same (take (a + l - a) (drop a xs)) p _ 0 (omega (arith, mid_len a (a + l) xs room))
            ∙ ap (λ (u : ℕ). 1 - u) (part_at xs a (a + l - a) p (omega arith)) ∙ sym (get_or-set_same xs (a + p) (1 - get_or xs (a + p) 0) 0 (omega arith)))
        here m c (no d) = get_or-set_other (take (a + l - a) (drop a xs)) p m _ 0 d ∙ part_at xs a (a + l - a) m (omega arith)
            ∙ sym (get_or-set_other xs (a + p) (a + m) (1 - get_or xs (a + p) 0) 0 (λ q. d (omega arith)))
    go (suc (suc w)) k b = absurd (omega arith)

module _ {z : Sizes} {s : TrackSet} {t : ℕ} {line : Line} {out syn : List ℕ} (p : ℕ) (kept : Kept z out syn) (track : t < tracks (shape z) s) (at : LineOf z s t line) (h : p < z.positions) where
  -- Each track is within the lag.
  on : t ≤ lag (shape z)
  on = omega (arith, lag_sets (shape z) s, track)

  -- The rows of both sets are among the four.
  own_row : row_of s < 2
  own_row = omega (arith, two_rows s)

  other_row : row_of (other s) < 2
  other_row = omega (arith, two_rows s)

  -- A cell of a row is within four rows.
  row_lt : (row m : ℕ) → row < 4 → m < track_length (shape z) → row * track_length (shape z) + m < 4 * track_length (shape z)
  row_lt row m a b = digits_lt a b

  -- The syndromes are rows of bits.
  rows : Rows (track_length (shape z)) syn
  rows = record { size = kept.holds.size; bits = kept.holds.bits }

  -- The cell is one of the record.
  is_cell : IsCell z s t p
  is_cell = record { track_small = track; position_small = omega arith }

  -- The track's stretch is within the image.
  pub track_in : line.cell + track_length (shape z) ≤ length out
  track_in = omega (arith, at.cell, row_end (track_length (shape z)) (track_number (shape z) s t) (all_tracks (shape z)) (number_lt (shape z) s t track), kept.image.size)

  -- The places of the cell's sums.
  pub vertical_in : line.vertical + p < 4 * track_length (shape z)
  vertical_in = omega (arith, at.vertical, row_lt (2 + row_of s) p (omega (arith, own_row)) (omega arith))

  pub own_in : line.own + p < 4 * track_length (shape z)
  own_in = omega (arith, at.own, row_lt (row_of s) (p + t) (omega (arith, own_row)) (omega (arith, on)))

  pub other_in : line.other + p < 4 * track_length (shape z)
  other_in = omega (arith, at.other, row_lt (row_of (other s)) (p + (lag (shape z) - t)) (omega (arith, other_row)) (omega arith))

  -- The bit is added to the vertical.
  vertical_row : (w : ℕ) (n₁ : List ℕ) → w < 2 → BitAdded syn (line.vertical + p) w n₁ → RowAdded (track_length (shape z)) (2 + row_of s) (one_cell w p) 0 syn n₁
  vertical_row w n₁ k v = bit_row _ (2 + row_of s) p 0 w syn rows (omega (arith, own_row)) _ n₁ k (omega arith) (omega (arith, at.vertical)) v

  -- And to the cell.
  with_cell : (w : ℕ) (o₁ n : List ℕ) → w < 2 → BitAdded out (line.cell + p) w o₁ → TrackAdded (shape z) s t (one_cell w p) syn n → CellAdded z s t p w out o₁ n
  with_cell w o₁ n k b = cell_added z s t p w out syn kept is_cell k o₁ n (rw at.cell at b)

  -- What `add_cell` gives on a track that crosses the diagonals.
  pub crossed_added : (w : ℕ) (o₁ n₁ n₂ n₃ : List ℕ) → w < 2 → t ≤ data_tracks (shape z) s →
      BitAdded out (line.cell + p) w o₁ → BitAdded syn (line.vertical + p) w n₁ → BitAdded n₁ (line.own + p) w n₂ → BitAdded n₂ (line.other + p) w n₃ →
      CellAdded z s t p w out o₁ n₃
  crossed_added w o₁ n₁ n₂ n₃ k d b v a c =
      let v' = vertical_row w n₁ k v in
      let a' = bit_row _ (row_of s) p t w n₁ v'.rows (omega (arith, own_row)) _ n₂ k (omega (arith, on)) (omega (arith, at.own)) a in
      let c' = bit_row _ (row_of (other s)) p (lag (shape z) - t) w n₂ a'.rows (omega (arith, other_row)) _ n₃ k (omega arith) (omega (arith, at.other)) c in
      with_cell w o₁ n₃ k b (crossed _ s t _ syn n₁ track v' n₂ n₃ d a' c')

  -- And on the vertical track.
  pub vertical_added : (w : ℕ) (o₁ n₁ : List ℕ) → w < 2 → data_tracks (shape z) s < t →
      BitAdded out (line.cell + p) w o₁ → BitAdded syn (line.vertical + p) w n₁ → CellAdded z s t p w out o₁ n₁
  vertical_added w o₁ n₁ k d b v = with_cell w o₁ n₁ k b (uncrossed _ s t _ syn n₁ track (vertical_row w n₁ k v) d)
