-- Lost cells: the tracks that have one are marked.
use Rattle.std.proofs.Common.{◌≡◌, Bool, false, ◌||◌, List, ℕ, ◌+◌, ◌*◌, ◌<◌, ◌≤◌, sym, ap, ◌∙◌, length, get_or, arith}
use Rattle.code.specs.Record.{track_length}
use Rattle.code.specs.Image.{track_number, all_tracks}
use Rattle.code.specs.Flags.{TrackFlags, word_flags}
use Rattle.code.specs.Lost.{read_values, is_lost}
use Rattle.code.specs.Sizes.{shape}
use Rattle.code.specs.declared.sizes.Sizes.{Sizes}
use Rattle.code.proofs.Any.{any_same}
use Rattle.code.proofs.Lost.{bit_known, not_widened}
use Rattle.code.proofs.Places.{number_lt}
use Rattle.track.specs.Track.{Readings, Highest}
use Rattle.track.proofs.Lost.{most_reading, most_lost}
use Rattle.track.proofs.Rows.{part, part_length, part_row, part_readings}
use Rattle.flags.specs.Marks.{Marks, lost_at, CallMarks}
use Rattle.flags.proofs.Bits.{marks_same}

-- ## Tracks with a lost cell

module _ (l g : ℕ) (image : List ℕ) (room : g * l + l ≤ length image) (r : Readings image) (most : ℕ) (h : Highest (part l image g) most) where
  -- The highest byte of its stretch tells of a track.
  pub stretch_reading : most < read_values
  stretch_reading = most_reading (part l image g) most h (part_readings l image g room r)

  pub stretch_lost : is_lost most ≡ lost_at l image g
  stretch_lost = most_lost (part l image g) most h (part_readings l image g room r)
      ∙ rw (part_length l image g room) (any_same l _ _ (λ m b. ap is_lost (part_row l image g room m b)))

-- ## Marks

-- The first n marks have those of the tracks with a lost cell, and the rest stay.
pub record Marking (l : ℕ) (image : List ℕ) (before : List Bool) (n : ℕ) (now : List Bool) : Type 0 where
  pub size : length now ≡ length before
  pub done : (k : ℕ) → k < n → get_or now k false ≡ get_or before k false || lost_at l image k
  pub later : (k : ℕ) → n ≤ k → get_or now k false ≡ get_or before k false

module _ (z : Sizes) (word : ℕ) (image : List ℕ) (first : List Bool) (m : Marks word first) where
  -- Where no cell is lost the marks are those of the flag word.
  pub none_marked : ((i : ℕ) → get_or image i 0 < 2) → CallMarks (shape z) word image first
  none_marked bits = record {
    size = m.size;
    flags = λ s t l. marks_same z word first m s t l ∙ sym (ap (λ (f : TrackFlags). f s t) (not_widened image (λ i. bit_known _ (bits i)) (shape z) (word_flags (shape z) word)));
  }

  -- Every track is marked that has a lost cell.
  pub call_marked : (n : ℕ) → n ≡ all_tracks (shape z) → (wide : List Bool) → Marking (track_length (shape z)) image first n wide → CallMarks (shape z) word image wide
  call_marked n e wide w = record {
    size = w.size ∙ m.size;
    flags = λ s t l. w.done (track_number (shape z) s t) (omega (arith, number_lt (shape z) s t l))
        ∙ ap (λ (b : Bool). b || lost_at (track_length (shape z)) image (track_number (shape z) s t)) (marks_same z word first m s t l);
  }
