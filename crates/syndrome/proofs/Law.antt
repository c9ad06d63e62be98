-- The law of all sums: a track that is added to the rows it stands in is added to the record.
use mathlib.Core.Path.{◌≡◌, refl, sym, ap, ◌∙◌}
use mathlib.Core.List.{List}
use Prim.Native.Nat.{ℕ, ◌+◌, ◌*◌, ◌-◌, ◌%◌, ◌<◌, ◌≤◌}
use native.Mathlib.Omega.{arith}
use lib.ListN.{get_or}
use Rattle.code.specs.Record.{other, row_of, Shape, data_tracks, tracks, lag, track_length, Cells, back, vertical, Same}
use Rattle.code.specs.declared.sizes.TrackSet.{TrackSet}
use Rattle.code.proofs.Sums.{back_early}
use Rattle.code.proofs.Linear.{◌⊞◌, bits_of, diagonal_add, vertical_add, diagonal_mod, vertical_mod, diagonal_same, vertical_same}
use Rattle.code.proofs.OneTrack.{put, offset, offset_vertical, offset_both, diagonal_put, vertical_on, vertical_off}
use Rattle.syndrome.specs.Syndrome.{Holds}
use Rattle.syndrome.specs.Steps.{Rows, RowAdded, TrackAdded}
use Rattle.syndrome.proofs.Pairs.{two_rows, both_sets}

-- Syndromes depend on the record's own cells alone, modulo 2.
pub holds_same : (sh : Shape) (x y : Cells) (syn : List ℕ) → Same sh (bits_of x) (bits_of y) → Holds sh x syn → Holds sh y syn
holds_same sh x y syn e h = record {
  size = h.size;
  bits = h.bits;
  diagonals = λ s m b. h.diagonals s m b ∙ sym (diagonal_mod sh x s m) ∙ ap (λ v. v % 2) (diagonal_same sh _ _ e s m b) ∙ diagonal_mod sh y s m;
  verticals = λ s m b. h.verticals s m b ∙ sym (vertical_mod sh x s m) ∙ ap (λ v. v % 2) (vertical_same sh _ _ e s m b) ∙ vertical_mod sh y s m;
}

-- A sum to which f is added.
more : (old new sum f : ℕ) → old ≡ sum % 2 → new ≡ (old + f) % 2 → new ≡ (sum + f) % 2
more old new sum f e h = omega arith

module _ (sh : Shape) (s : TrackSet) (t : ℕ) (f : ℕ → ℕ) (before mid : List ℕ) (in_set : t < tracks sh s)
    (v : RowAdded (track_length sh) (2 + row_of s) f 0 before mid) where
  abbrev l : ℕ
  l = track_length sh

  -- After the vertical, the diagonals.
  law : (after : List ℕ) → Rows l after →
      ((d : TrackSet) (m : ℕ) → m < l → get_or after (row_of d * l + m) 0 ≡ (get_or mid (row_of d * l + m) 0 + back f m (offset sh d s t)) % 2) →
      ((d : TrackSet) (m : ℕ) → m < l → get_or after ((2 + row_of d) * l + m) 0 ≡ get_or mid ((2 + row_of d) * l + m) 0) →
      TrackAdded sh s t f before after
  unfolding back
  law after rows dg vs = record {
    rows = rows;
    holds = λ x h. record {
      size = rows.size;
      bits = rows.bits;
      diagonals = λ d m b. rw (diagonal_add, diagonal_put sh s t f d m b)
          (more _ _ _ _ (v.there (row_of d) m (omega (arith, two_rows d)) b ∙ h.diagonals d m b) (dg d m b));
      verticals = both_sets (λ d. (m : ℕ) → m < l → get_or after ((2 + row_of d) * l + m) 0 ≡ vertical sh (x ⊞ put s t f) d m % 2) s
          (λ m b. rw (vertical_add, vertical_on sh s t f m in_set) (more _ _ _ _ (h.verticals s m b) (vs s m b ∙ v.here m b)))
          (λ m b. rw (vertical_add, vertical_off sh s t f m)
          (more _ _ _ _ (vs (other s) m b ∙ v.there (2 + row_of (other s)) m (omega (arith, two_rows s)) b ∙ h.verticals (other s) m b) (omega (arith, rows.bits ((2 + row_of (other s)) * l + m)))));
    };
  }

  -- A track that is no vertical one is on both diagonals.
  pub crossed : (next after : List ℕ) → t ≤ data_tracks sh s → RowAdded l (row_of s) f t mid next →
      RowAdded l (row_of (other s)) f (lag sh - t) next after → TrackAdded sh s t f before after
  crossed next after h a c = law after c.rows
      (both_sets (λ d. (m : ℕ) → m < l → get_or after (row_of d * l + m) 0 ≡ (get_or mid (row_of d * l + m) 0 + back f m (offset sh d s t)) % 2) s
      (λ m b. rw (offset_both sh s t h).0 (c.there (row_of s) m (omega (arith, two_rows s)) b ∙ a.here m b))
      (λ m b. rw ((offset_both sh s t h).1, sym (a.there (row_of (other s)) m (omega (arith, two_rows s)) b)) (c.here m b)))
      (λ d m b. c.there (2 + row_of d) m (omega (arith, two_rows s)) b ∙ a.there (2 + row_of d) m (omega (arith, two_rows s)) b)

  -- A vertical track is on none.
  pub uncrossed : data_tracks sh s < t → TrackAdded sh s t f before mid
  uncrossed h = law mid v.rows
      (λ d m b. rw (offset_vertical sh d s t h, back_early f m l b) (omega (arith, v.rows.bits (row_of d * l + m))))
      (λ d m b. refl)
