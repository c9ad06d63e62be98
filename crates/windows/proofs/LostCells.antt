-- Lost cells that are flagged: of one track, and track after track.
use mathlib.Core.Path.{◌≡◌, refl, sym, ap, ◌∙◌}
use mathlib.Core.Logic.{◌≢◌}
use mathlib.Core.Bool.{Bool, true, false, ◌||◌}
use mathlib.Core.List.{List}
use Prim.Native.Nat.{ℕ, ◌+◌, ◌*◌, ◌^◌, ◌<◌, ◌≤◌}
use native.Mathlib.Omega.{arith}
use borrow.Author.Tests.{eq-eqb, ne_eqb}
use lib.Bits.{or_zero_r}
use lib.ListN.{length, get_or}
use Rattle.code.specs.Record.{Shape, track_length}
use Rattle.code.specs.Image.{track_number}
use Rattle.code.specs.Lost.{is_lost}
use Rattle.code.specs.Reach.{pick}
use Rattle.code.proofs.Lost.{bit_known}
use Rattle.code.proofs.Patterns.{none_flagged}
use Rattle.track.specs.Track.{Readings, Highest}
use Rattle.track.proofs.Lost.{most_lost}
use Rattle.track.proofs.Rows.{part, part_length, part_row}
use Rattle.flags.specs.Words.{bit_at}
use Rattle.windows.specs.Steps.{TrackFlagged, LostAdded}
use Rattle.windows.specs.Windows.{LostFlagged}
use Rattle.code.proofs.Any.{or_off}
use Rattle.windows.proofs.Bits.{or_bit, no_bit, one_bit}

-- ## One track

-- The bit of a cell that is lost or not.
bit_here : (b : Bool) (g : ℕ) → bit_at (pick b (2 ^ g) 0) g ≡ b
bit_here true g = one_bit g g ∙ eq-eqb g g refl
bit_here false g = no_bit g

bit_there : (b : Bool) (g h : ℕ) → h ≢ g → bit_at (pick b (2 ^ g) 0) h ≡ false
bit_there true g h d = one_bit g h ∙ ne_eqb h g d
bit_there false g h d = no_bit h

-- Where the highest byte is not lost, no cell is.
pub none_in_track : (track words : List ℕ) (bit most : ℕ) → Readings track → Highest track most → is_lost most ≡ false → TrackFlagged track words bit words
none_in_track track words bit most r h e = record {
  size = refl;
  words = λ m i. sym (rw (none_flagged (length track) (λ k. is_lost (get_or track k 0)) (sym (most_lost track most h r) ∙ e) m i) (or_zero_r (get_or words m 0)));
}

module _ (l : ℕ) (image : List ℕ) (g : ℕ) (room : g * l + l ≤ length image) (bit : ℕ) (bit_is : bit ≡ 2 ^ g)
    (before after : List ℕ) (f : TrackFlagged (part l image g) before bit after) where
  abbrev lost : ℕ → Bool
  lost m = is_lost (get_or image (g * l + m) 0)

  bits : (h m : ℕ) → m < l → bit_at (get_or after m 0) h ≡ bit_at (get_or before m 0) h || bit_at (pick (lost m) (2 ^ g) 0) h
  bits h m i =
      ap (λ (v : ℕ). bit_at v h) (f.words m (omega (arith, part_length l image g room))) ∙ or_bit (get_or before m 0) _ h
      ∙ rw (part_row l image g room m i, bit_is) refl

  pub lost_added : LostAdded l image g before after
  lost_added = record {
    size = f.size;
    here = λ m i. bits g m i ∙ ap (λ (b : Bool). bit_at (get_or before m 0) g || b) (bit_here (lost m) g);
    there = λ h m d i. bits h m i ∙ ap (λ (b : Bool). bit_at (get_or before m 0) h || b) (bit_there (lost m) g h d) ∙ or_off _;
  }

-- ## Track after track

-- The lost cells of the first n tracks are flagged, and the other tracks' flags stay.
pub record LostFlagging (l : ℕ) (image before : List ℕ) (n : ℕ) (after : List ℕ) : Type 0 where
  pub size : length after ≡ length before
  pub done : (h m : ℕ) → h < n → m < l → bit_at (get_or after m 0) h ≡ bit_at (get_or before m 0) h || is_lost (get_or image (h * l + m) 0)
  pub later : (h m : ℕ) → n ≤ h → m < l → bit_at (get_or after m 0) h ≡ bit_at (get_or before m 0) h

-- ## An image

module _ (sh : Shape) (image before : List ℕ) (size_is : length before ≡ track_length sh) where
  -- Where no cell is lost there is nothing to flag.
  pub none_lost : ((i : ℕ) → get_or image i 0 < 2) → LostFlagged sh image before before
  none_lost known = record {
    size = size_is;
    flags = λ s t m h i. sym (ap (λ (b : Bool). bit_at (get_or before m 0) (track_number sh s t) || b) (bit_known _ (known _)) ∙ or_off _);
  }
