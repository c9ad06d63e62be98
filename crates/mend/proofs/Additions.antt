-- Additions to tracks of an image: of a row's cells to one track, and of records one after the other.
use mathlib.Core.Path.{◌≡◌, refl, sym, ap, ap₂, ◌∙◌}
use mathlib.Core.Logic.{by_cases}
use mathlib.Core.List.{List}
use Prim.Native.Nat.{ℕ, ◌+◌, ◌*◌, ◌-◌, ◌/◌, ◌%◌, ◌<◌, ◌≤◌}
use native.Mathlib.Decide.{dec_lt, ℕ_discrete}
use native.Mathlib.Omega.{arith}
use borrow.Rule.Slice.PartMut.{put_mid}
use lib.ListN.{length, get_or, take, drop}
use lib.Seq.{get_or-take, length-take-le}
use Rattle.code.specs.declared.sizes.TrackSet.{TrackSet}
use Rattle.code.specs.declared.sizes.TrackSet.TheVariants.{A, B}
use Rattle.code.specs.Record.{row_of, tracks, track_length, Cells, back}
use Rattle.code.specs.Image.{track_number}
use Rattle.code.specs.Sizes.{shape}
use Rattle.code.specs.declared.sizes.Sizes.{Sizes}
use Rattle.code.proofs.Linear.{◌⊞◌}
use Rattle.code.proofs.Mono.{mono_hit, mono_miss}
use Rattle.code.proofs.OneTrack.{put, put_zero, put_number}
use Rattle.words.specs.Words.{bit, Spread}
use Rattle.words.proofs.Bit.{bit_lt, cell_in}
use Rattle.track.specs.Track as track
use Rattle.track.proofs.Cells.{every}
use Rattle.track.proofs.Parts.{part_at, put_before, put_in, put_after}
use Rattle.track.proofs.Rows.{part, part_length, part_row, new_length, new_here, new_there}
use Rattle.syndrome.specs.Syndrome.{Image}
use Rattle.plans.specs.declared.Form.{Form}
use Rattle.forms.specs.Streams.{Stream}
use Rattle.forms.specs.Found.{errors}
use Rattle.errors.specs.Rows.{cell}
use Rattle.mend.specs.Mend.{RowAdded, Added, lower_errors}
use Rattle.mend.proofs.WordRows.{cell_word}

-- ## The cells of a row as bytes

-- The words of l cells of a row.
abbrev pub row_words : ℕ → List ℕ → ℕ → List ℕ
row_words l found row = take (34 * row + 1 + (l + 63) / 64 - (34 * row + 1)) (drop (34 * row + 1) found)

module _ (l : ℕ) (found : List ℕ) (row : ℕ) (small : l ≤ 2112) (before cells : List ℕ) (size : length before ≡ 64 * ((l + 63) / 64))
    (s : Spread (row_words l found row) before cells) where
  -- The first l bytes are there, they are the row's cells, and bits.
  pub front_length : length (take l cells) ≡ l
  front_length = length-take-le l cells (omega (arith, s.size))

  front_cell : (m : ℕ) → m < l → get_or (take l cells) m 0 ≡ cell found row m
  front_cell m h =
      get_or-take l cells m 0 h ∙ s.cells m (omega arith) ∙ cell_in (row_words l found row) (m / 64) (m % 64) m (omega arith) (omega arith)
      ∙ ap (λ w. bit w (m % 64)) (part_at found (34 * row + 1) (34 * row + 1 + (l + 63) / 64 - (34 * row + 1)) (m / 64) (omega arith))
      ∙ sym (cell_word found row (m / 64) (m % 64) m (omega arith) (omega arith) (omega arith))

  pub front_bits : track.Bits (take l cells)
  front_bits = record { bit = every (λ x. x < 2) (take l cells) (omega arith) (λ m h. low m (omega (arith, front_length))) }
    where
      low : (m : ℕ) → m < l → get_or (take l cells) m 0 < 2
      low m h = rw (front_cell m h ∙ cell_word found row (m / 64) (m % 64) m (omega arith) (omega arith) (omega arith)) (bit_lt _ _)

  -- They are added to a track of an image.
  pub row_added : (g : ℕ) (out last : List ℕ) → track.Bits out → g * l + l ≤ length out →
      track.Added (part l out g) (take l cells) 0 last →
      RowAdded l g (cell found row) out (put_mid (g * l) (g * l + l - g * l) out last)
  unfolding back
  row_added g out last bits fits a = record {
    size = new_length l out g fits last a.size;
    bits = λ i. by_cases (dec_lt i (g * l))
        (λ b. rw (put_before out last (g * l) l fits fit i b) (bits.bit i))
        (λ b. by_cases (dec_lt i (g * l + l)) (within i b) (λ c. rw (put_after out last (g * l) l fits fit i (omega arith)) (bits.bit i)));
    here = λ m h. new_here l out g fits last a.size m h ∙ a.cells m (omega (arith, part_length l out g fits))
        ∙ ap₂ (λ x y. (x + y) % 2) (part_row l out g fits m h) (front_cell m h);
    there = new_there l out g fits last a.size;
  }
    where
      fit : length last ≡ g * l + l - g * l
      fit = a.size ∙ part_length l out g fits ∙ omega arith

      within : (i : ℕ) → ¬ (i < g * l) → i < g * l + l → get_or (put_mid (g * l) (g * l + l - g * l) out last) i 0 < 2
      within i b c =
          let e : i ≡ g * l + (i - g * l) = omega arith in
          rw e (rw (put_in out last (g * l) l fits fit (i - g * l) (omega arith)) (a.bits (i - g * l)))

-- ## Records that are added

module _ {z : Sizes} where
  -- Cells added to one track are the record of that track.
  pub error_added : (s : TrackSet) (t g : ℕ) (f : Stream) (before after : List ℕ) → t < tracks (shape z) s → g ≡ track_number (shape z) s t →
      Image (shape z) before → RowAdded (track_length (shape z)) g f before after → Added z (put s t f) before after
  error_added s t g f before after h is i r = record {
    image = record { size = r.size ∙ i.size; bits = r.bits };
    cell_at = λ u v m k b. go u v m k b (ℕ_discrete (track_number (shape z) u v) g);
  }
    where
      l : ℕ
      l = track_length (shape z)

      go : (u : TrackSet) (v m : ℕ) → v < tracks (shape z) u → m < l → Dec (track_number (shape z) u v ≡ g) →
          get_or after (track_number (shape z) u v * l + m) 0 ≡ (get_or before (track_number (shape z) u v * l + m) 0 + put s t f u v m) % 2
      go u v m k b (yes e) =
          let p : put s t f u v m ≡ f m = put_number (shape z) s t f u v m h k ∙ rw (mono_hit (track_number (shape z) s t) (track_number (shape z) u v) (sym is ∙ sym e)) (omega arith) in
          rw e (r.here m b ∙ ap (λ x. (get_or before (g * l + m) 0 + x) % 2) (sym p))
      go u v m k b (no d) =
          let p : put s t f u v m ≡ 0 = put_number (shape z) s t f u v m h k ∙ rw (mono_miss (track_number (shape z) s t) (track_number (shape z) u v) (λ e. d (sym e ∙ sym is))) (omega arith) in
          r.there (track_number (shape z) u v) m d b ∙ omega (arith, i.bits (track_number (shape z) u v * l + m))

  -- One after the other, their sum is added.
  pub added_both : {e f : Cells} {a b c : List ℕ} → Added z e a b → Added z f b c → Added z (e ⊞ f) a c
  added_both x y = record { image = y.image; cell_at = λ s t m h b. omega (arith, x.cell_at s t m h b, y.cell_at s t m h b) }

  -- Where a record is 0, nothing is added.
  pub added_none : {e : Cells} {a : List ℕ} → Image (shape z) a → ((s : TrackSet) (t m : ℕ) → m < track_length (shape z) → e s t m ≡ 0) → Added z e a a
  added_none {e} {a} i none = record { image = i; cell_at = λ s t m h b. omega (arith, none s t m b, i.bits (track_number (shape z) s t * track_length (shape z) + m)) }

  -- Equal records are added alike.
  pub added_same : {e f : Cells} {a b : List ℕ} → Added z e a b → ((s : TrackSet) (t m : ℕ) → e s t m ≡ f s t m) → Added z f a b
  added_same x same = record { image = x.image; cell_at = λ s t m h b. omega (arith, x.cell_at s t m h b, same s t m) }

-- ## The errors of a form

-- A pivot without room has no errors.
pub no_room : (z : Sizes) (s : TrackSet) (t : ℕ) (f : Stream) (a : List ℕ) → Image (shape z) a → ((m : ℕ) → m < track_length (shape z) → f m ≡ 0) → Added z (put s t f) a a
no_room z s t f a i none = added_none i (λ c u m b. put_zero s t f c u m (none m b))

-- The errors of both pivots, then the lower ones.
pub all_added : (z : Sizes) (p : Form) (found a b c d : List ℕ) → Added z (put A p.a.track (cell found 2)) a b → Added z (put B p.b.track (cell found 3)) b c →
    Added z (lower_errors p found) c d → Added z (errors p (λ c. cell found (2 + row_of c)) (cell found 0) (cell found 1)) a d
unfolding errors
all_added z p found a b c d x y w = added_same (added_both (added_both x y) w) (λ s t m. refl)
