-- Tracks that are packed and unpacked one after the other.
use mathlib.Core.Path.{◌≡◌, sym, ap, ◌∙◌}
use mathlib.Core.Logic.{◌≢◌, by_cases}
use mathlib.Core.List.{List}
use Prim.Native.Nat.{ℕ, suc, ◌+◌, ◌*◌, ◌-◌, ◌/◌, ◌%◌, ◌^◌, ◌<◌, ◌≤◌}
use native.Mathlib.Decide.{dec_lt, ℕ_discrete}
use native.Mathlib.Nat.{mod-lt}
use native.Mathlib.Omega.{arith}
use borrow.Rule.Slice.PartMut.{put_mid}
use lib.ListN.{length, get_or, take, drop, get_or-eq_default}
use Rattle.std.specs.declared.ops.Range.{Range}
use Rattle.code.specs.Record.{base, tracks, track_length}
use Rattle.code.specs.declared.sizes.TrackSet.{TrackSet}
use Rattle.code.specs.declared.sizes.TrackSet.TheVariants.{A, B}
use Rattle.code.specs.Image.{track_number, image_size, cells}
use Rattle.code.specs.Payload.{digits}
use Rattle.code.specs.Packed.{head_place, track_bytes, padded, PackedForm, PaddingSet}
use Rattle.code.proofs.Digits.{digit, digits_same, digits_digit}
use Rattle.code.proofs.Packing.{head_lt, padded_in, padded_out}
use Rattle.code.proofs.Places.{each_cell}
use Rattle.track.specs.Track.{row}
use Rattle.track.proofs.Rows.{row_end, part, part_length, part_row, new_length, new_here, new_there}
use Rattle.packed.specs.Steps.{head_number, TrackAt, BytesAt, Sized, TrackPacked, TracksPacked, TrackUnpacked, TracksUnpacked}

-- ## Head order

-- The track at the place of track t of a set has its number.
pub head_number_at : (n : ℕ) (s : TrackSet) (t : ℕ) → head_number (head_place s t) ≡ track_number (base n) s t
head_number_at n A t = omega arith
head_number_at n B t = omega arith

-- Other places have other tracks.
head_apart : (p q : ℕ) → p < 18 → q < 18 → p ≢ q → head_number p ≢ head_number q
head_apart p q h k d e = d (omega arith)

module _ (n : ℕ) where
  abbrev l : ℕ
  l = track_length (base n)

  abbrev w : ℕ
  w = track_bytes n

  -- ## Packing

  module _ (p : ℕ) (image packed : List ℕ) (sized : Sized n image packed) (place_small : p < 18) where
    abbrev g : ℕ
    g = head_number p

    -- The image has the track, and the packed form the place.
    track_room : g * l + l ≤ length image
    track_room = omega (arith, row_end l g 18 (omega arith), sized.whole)

    place_room : p * w + w ≤ length packed
    place_room = omega (arith, row_end w p 18 place_small, sized.form.size)

    -- Past its end a track counts as 0.
    track_padded : (m : ℕ) → get_or (part l image g) m 0 ≡ padded n (row l image g) m
    track_padded m = by_cases (dec_lt m l)
        (λ h. part_row l image g track_room m h ∙ sym (padded_in n (row l image g) m h))
        (λ h. get_or-eq_default (part l image g) 0 {n = m} (omega (arith, part_length l image g track_room)) ∙ sym (padded_out n (row l image g) m (omega arith)))

    -- One more is packed.
    packed_at : (ys : List ℕ) → TracksPacked n p image packed → TrackPacked (part l image g) (part w packed p) ys →
        TracksPacked n (p + 1) image (put_mid (p * w) (p * w + w - p * w) packed ys)
    packed_at ys t k = record {
      sized = record { form = record { few = sized.form.few; size = new_length w packed p place_room ys k.size ∙ sized.form.size }; whole = sized.whole };
      byte = λ q j h b. by_cases (ℕ_discrete q p)
          (λ e. rw e (new_here w packed p place_room ys k.size j b
          ∙ k.byte j (omega (arith, part_length w packed p place_room)) ∙ digits_same 8 _ _ (λ i c. track_padded (8 * j + i))))
          (λ d. new_there w packed p place_room ys k.size q j d b ∙ t.byte q j (omega arith) b);
    }

    pub packed_more : (from to : Range ℕ) → TrackAt n p from → BytesAt n p to → (ys : List ℕ) → TracksPacked n p image packed →
        TrackPacked (take (from.end - from.start) (drop from.start image)) (take (to.end - to.start) (drop to.start packed)) ys →
        TracksPacked n (p + 1) image (put_mid to.start (to.end - to.start) packed ys)
    packed_more from to f t ys s k = rw (t.end, t.start) (packed_at ys s (rw (f.end, f.start, t.end, t.start) at k))

    -- ## Unpacking

    -- One more is unpacked.
    unpacked_at : (ys : List ℕ) → TracksUnpacked n p packed image → TrackUnpacked (part w packed p) (part l image g) ys →
        TracksUnpacked n (p + 1) packed (put_mid (g * l) (g * l + l - g * l) image ys)
    unpacked_at ys t u = record {
      sized = record { form = sized.form; whole = new_length l image g track_room ys u.size ∙ sized.whole };
      byte = λ q j h b. by_cases (ℕ_discrete q p)
          (λ e. rw (e, sym (part_row w packed p place_room j b)) (u.byte j (omega (arith, part_length l image g track_room))))
          (λ d. t.byte q j (omega arith) b);
      cell = λ q j k h b c. by_cases (ℕ_discrete q p)
          (λ e. rw e (new_here l image g track_room ys u.size (8 * j + k) c
          ∙ u.cell j k b (omega (arith, part_length l image g track_room)) ∙ ap (λ (v : ℕ). v / 2 ^ (8 - suc k) % 2) (part_row w packed p place_room j (omega arith))))
          (λ d. new_there l image g track_room ys u.size (head_number q) (8 * j + k) (λ f. head_apart q p (omega arith) place_small d f) c
          ∙ t.cell q j k (omega arith) b c);
    }

    pub unpacked_more : (from to : Range ℕ) → BytesAt n p from → TrackAt n p to → (ys : List ℕ) → TracksUnpacked n p packed image →
        TrackUnpacked (take (from.end - from.start) (drop from.start packed)) (take (to.end - to.start) (drop to.start image)) ys →
        TracksUnpacked n (p + 1) packed (put_mid to.start (to.end - to.start) image ys)
    unpacked_more from to f t ys s u = rw (t.end, t.start) (unpacked_at ys s (rw (f.end, f.start, t.end, t.start) at u))

  -- ## All tracks

  -- They are the packed form.
  pub all_packed : (image packed : List ℕ) → TracksPacked n 18 image packed → PackedForm n (cells (base n) image) packed
  all_packed image packed t = record { byte = λ s a j h k. t.byte (head_place s a) j (head_lt n s a h) k ∙ ap (λ (g : ℕ). digits 8 (λ i. padded n (row l image g) (8 * j + i))) (head_number_at n s a) }

  -- They are an image of bits that has this packed form, if no padding bit is 1.
  module _ (packed image : List ℕ) (t : TracksUnpacked n 18 packed image) where
    -- A cell is a bit of its byte.
    at : (s : TrackSet) (a j k : ℕ) → a < tracks (base n) s → k < 8 → 8 * j + k < l → cells (base n) image s a (8 * j + k) ≡ digit 8 (row w packed (head_place s a) j) k
    at s a j k h b c = rw (sym (head_number_at n s a)) (t.cell (head_place s a) j k (head_lt n s a h) b c)

    bit : (s : TrackSet) (a m : ℕ) → a < tracks (base n) s → m < l → cells (base n) image s a m < 2
    bit s a m h c =
        let e : 8 * (m / 8) + m % 8 ≡ m = omega arith in
        rw (← e) (rw (at s a (m / 8) (m % 8) h (omega arith) (omega arith)) (mod-lt _ (omega arith)))

    pub all_bits : (i : ℕ) → i < image_size (base n) → get_or image i 0 < 2
    all_bits = each_cell (base n) (λ i. get_or image i 0 < 2) bit

    pub all_unpacked : ¬ PaddingSet n packed → PackedForm n (cells (base n) image) packed
    all_unpacked clear = record { byte = λ s a j h k. sym (digits_same 8 _ _ (λ i b. each s a j i h k b (dec_lt (8 * j + i) l)) ∙ digits_digit 8 _ (t.byte (head_place s a) j (head_lt n s a h) k)) }
      where
        -- The padding bit is 0.
        last : (s : TrackSet) (a j : ℕ) → a < tracks (base n) s → j ≡ n + 1 → row w packed (head_place s a) j % 2 ≡ 0
        last s a j h e = by_cases (ℕ_discrete (row w packed (head_place s a) j % 2) 1)
            (λ o. absurd (clear (record { place = head_place s a; inside = head_lt n s a h; bit = rw e at o })))
            (λ d. omega arith)

        each : (s : TrackSet) (a j i : ℕ) → a < tracks (base n) s → j < w → i < 8 → Dec (8 * j + i < l) →
            padded n (cells (base n) image s a) (8 * j + i) ≡ digit 8 (row w packed (head_place s a) j) i
        each s a j i h k b (yes c) = padded_in n (cells (base n) image s a) (8 * j + i) c ∙ at s a j i h b c
        each s a j i h k b (no c) =
            let seven : i ≡ 7 = omega arith in
            let end : j ≡ n + 1 = omega arith in
            padded_out n (cells (base n) image s a) (8 * j + i) (omega arith) ∙ rw seven (omega (arith, last s a j h end))
