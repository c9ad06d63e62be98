-- Each image has one packed form, and a packed form is that of one image of bits.
use mathlib.Core.Path.{◌≡◌, sym, ap, ◌∙◌}
use mathlib.Core.Logic.{by_cases}
use mathlib.Core.List.{List}
use Prim.Native.Nat.{ℕ, suc, ◌+◌, ◌*◌, ◌/◌, ◌%◌, ◌<◌, ◌≤◌}
use native.Mathlib.Decide.{dec_lt, ℕ_discrete}
use native.Mathlib.Nat.{div-add-mod', div-lt_iff_lt-mul, mod-lt}
use native.Mathlib.Omega.{arith}
use borrow.Author.Tests.{lt-ltb, le-ltb}
use lib.Arith.{digits_lt}
use lib.ListN.{get_or}
use Rattle.code.specs.Record.{TrackSet, A, B, base, tracks, track_length, Cells, Same}
use Rattle.code.specs.Image.{all_tracks, image_size, cells}
use Rattle.code.specs.Payload.{digits}
use Rattle.code.specs.Packed.{head_place, track_bytes, packed_size, padded, PackedForm, PaddingSet}
use Rattle.code.proofs.Digits.{digits_inj, digits_same}
use Rattle.code.proofs.Places.{cell_lt}

-- ## Places

-- The track at a place of head order.
pub record HeadTrack (n p : ℕ) : Type 0 where
  pub set : TrackSet
  pub track : ℕ
  pub has_track : track < tracks (base n) set
  pub at : head_place set track ≡ p

pub head_track : (n p : ℕ) → p < all_tracks (base n) → HeadTrack n p
head_track n p h = by_cases (ℕ_discrete (p % 2) 0)
    (λ e. record { set = A; track = p / 2; has_track = omega arith; at = omega arith })
    (λ d. record { set = B; track = p / 2; has_track = omega arith; at = omega arith })

pub head_lt : (n : ℕ) (s : TrackSet) (t : ℕ) → t < tracks (base n) s → head_place s t < all_tracks (base n)
head_lt n A t h = omega arith
head_lt n B t h = omega arith

-- The set, track and byte of byte i of a packed form.
pub record PackedAt (n i : ℕ) : Type 0 where
  pub set : TrackSet
  pub track : ℕ
  pub byte : ℕ
  pub has_track : track < tracks (base n) set
  pub has_byte : byte < track_bytes n
  pub at : head_place set track * track_bytes n + byte ≡ i

pub packed_at : (n i : ℕ) → i < packed_size n → PackedAt n i
packed_at n i h = go (head_track n (i / track_bytes n) ((div-lt_iff_lt-mul some).1 h))
  where
    some : 0 < track_bytes n
    some = omega arith

    go : HeadTrack n (i / track_bytes n) → PackedAt n i
    go t = record {
      set = t.set;
      track = t.track;
      byte = i % track_bytes n;
      has_track = t.has_track;
      has_byte = mod-lt i some;
      at = ap (λ (p : ℕ). p * track_bytes n + i % track_bytes n) t.at ∙ div-add-mod' i (track_bytes n);
    }

pub packed_lt : (n : ℕ) (s : TrackSet) (t j : ℕ) → t < tracks (base n) s → j < track_bytes n → head_place s t * track_bytes n + j < packed_size n
packed_lt n s t j h k = digits_lt (head_lt n s t h) k

-- ## Padding

-- A track's cells, and what is behind them.
module _ (n : ℕ) (x : ℕ → ℕ) where
  pub padded_in : (m : ℕ) → m < track_length (base n) → padded n x m ≡ x m
  padded_in m h = rw (lt-ltb _ _ h)

  pub padded_out : (m : ℕ) → track_length (base n) ≤ m → padded n x m ≡ 0
  padded_out m h = rw (le-ltb _ _ h)

  -- What holds of 0 and of each cell holds of each bit.
  pub padded_each : (P : ℕ → Type 0) → P 0 → ((m : ℕ) → m < track_length (base n) → P (x m)) → (m : ℕ) → P (padded n x m)
  padded_each P past within m = by_cases (dec_lt m (track_length (base n)))
      (λ h. rw (padded_in m h) (within m h))
      (λ h. rw (padded_out m (omega arith)) past)

-- The last digit.
digits_odd : (k : ℕ) (f : ℕ → ℕ) → f k ≡ 0 → digits (suc k) f % 2 ≡ 0
unfolding digits
digits_odd k f e = rw e (omega arith)

-- A packed form has no padding bit that is 1.
pub no_padding : (n : ℕ) (x : Cells) (packed : List ℕ) → PackedForm n x packed → ¬ PaddingSet n packed
no_padding n x packed f p = go (head_track n p.place p.inside)
  where
    go : HeadTrack n p.place → ⊥
    go t =
        let bits = padded n (x t.set t.track) in
        let last : bits (8 * (n + 1) + 7) ≡ 0 = padded_out n (x t.set t.track) _ (omega arith) in
        let byte = f.byte t.set t.track (n + 1) t.has_track (omega arith) in
        let even = digits_odd 7 (λ k. bits (8 * (n + 1) + k)) last in
        let here = ap (λ (q : ℕ). get_or packed (q * track_bytes n + (n + 1)) 0) t.at in
        omega (arith, p.bit)

-- ## One form for an image, one image of bits for a form

module _ (n : ℕ) where
  -- Images with the same cells have the same packed form.
  pub form_same : (x y : Cells) (packed : List ℕ) → Same (base n) x y → PackedForm n x packed → PackedForm n y packed
  form_same x y packed same f = record { byte = λ s t j h k. f.byte s t j h k ∙ digits_same 8 _ _ (λ i l. cell s t h (8 * j + i)) }
    where
      cell : (s : TrackSet) (t : ℕ) → t < tracks (base n) s → (m : ℕ) → padded n (x s t) m ≡ padded n (y s t) m
      cell s t h m = by_cases (dec_lt m (track_length (base n)))
          (λ l. padded_in n (x s t) m l ∙ same.cell s t m h l ∙ sym (padded_in n (y s t) m l))
          (λ l. padded_out n (x s t) m (omega arith) ∙ sym (padded_out n (y s t) m (omega arith)))

  -- Lists with the same bytes are packed forms alike.
  pub form_as : (x : Cells) (p q : List ℕ) → ((i : ℕ) → i < packed_size n → get_or q i 0 ≡ get_or p i 0) → PackedForm n x p → PackedForm n x q
  form_as x p q same f = record { byte = λ s t j h k. same _ (packed_lt n s t j h k) ∙ f.byte s t j h k }

  -- The bytes are fixed by the image.
  pub form_fixed : (x : Cells) (p q : List ℕ) → PackedForm n x p → PackedForm n x q → (i : ℕ) → i < packed_size n → get_or p i 0 ≡ get_or q i 0
  form_fixed x p q f g i l = go (packed_at n i l)
    where
      go : PackedAt n i → get_or p i 0 ≡ get_or q i 0
      go r = rw (← r.at) (f.byte r.set r.track r.byte r.has_track r.has_byte ∙ sym (g.byte r.set r.track r.byte r.has_track r.has_byte))

  -- Bits are fixed by the bytes.
  abbrev pub Bits : Cells → Type 0
  Bits x = (s : TrackSet) (t m : ℕ) → t < tracks (base n) s → m < track_length (base n) → x s t m < 2

  -- An image's bytes that are bits.
  pub cell_bits : (image : List ℕ) → ((i : ℕ) → i < image_size (base n) → get_or image i 0 < 2) → Bits (cells (base n) image)
  cell_bits image bits s t m h l = bits _ (cell_lt (base n) s t m h l)

  pub same_form : (x y : Cells) (packed : List ℕ) → Bits x → Bits y → PackedForm n x packed → PackedForm n y packed → Same (base n) x y
  same_form x y packed bx by f g = record { cell = cell }
    where
      bit : (z : Cells) → Bits z → (s : TrackSet) (t : ℕ) → t < tracks (base n) s → (m : ℕ) → padded n (z s t) m < 2
      bit z b s t h = padded_each n (z s t) (λ v. v < 2) (omega arith) (λ m l. b s t m h l)

      cell : (s : TrackSet) (t m : ℕ) → t < tracks (base n) s → m < track_length (base n) → x s t m ≡ y s t m
      cell s t m h l =
          let place : 8 * (m / 8) + m % 8 ≡ m = omega arith in
          let bytes = sym (f.byte s t (m / 8) h (omega arith)) ∙ g.byte s t (m / 8) h (omega arith) in
          let equal = digits_inj 8 (λ k. padded n (x s t) (8 * (m / 8) + k)) (λ k. padded n (y s t) (8 * (m / 8) + k)) (λ k o. bit x bx s t h _) (λ k o. bit y by s t h _) bytes (m % 8) (omega arith) in
          sym (padded_in n (x s t) m l) ∙ (rw place at equal) ∙ padded_in n (y s t) m l
