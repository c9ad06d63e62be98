-- Tracks of which the first cells are copied behind zeros.
use mathlib.Core.Path.{◌≡◌, refl, sym, ap, ◌∙◌}
use mathlib.Core.Logic.{by_cases}
use mathlib.Core.List.{List}
use Prim.Native.Nat.{ℕ, suc, ◌+◌, ◌*◌, ◌-◌, ◌<◌, ◌≤◌}
use native.Mathlib.Decide.{dec_lt}
use native.Mathlib.Nat.{mul-le-mul, mul-le-mul_right}
use native.Mathlib.Omega.{arith}
use borrow.Rule.Slice.PartMut.{put_mid, mid_len, same_len_mid}
use lib.ListN.{length, get_or, take, drop, replicate, get_or-replicate, get_or-eq_default}
use lib.Seq.{get_or-take}
use Rattle.code.specs.Record.{lag, track_length}
use Rattle.code.specs.Image.{all_tracks}
use Rattle.code.specs.Sizes.{shape}
use Rattle.code.specs.declared.sizes.Sizes.{Sizes}
use Rattle.track.specs.Track.{row}
use Rattle.track.proofs.Cells.{every}
use Rattle.track.proofs.Parts.{part_at, put_before, put_in, put_after}
use Rattle.code.proofs.Places.{row_end}
use Rattle.track.proofs.Rows.{front, part, part_length, part_row}
use Rattle.syndrome.specs.Syndrome.{Image}
use Rattle.sums.specs.Edge.{edge, FirstCopied, Padded}

-- ## The first cells of a track

-- A source of which the first 80 cells are copied.
pub first_part : (source before : List ℕ) → length before ≡ 80 → 80 ≤ length source → FirstCopied source before (take (80 - 0) source)
first_part source before room long = record {
  size = mid_len 0 80 source long ∙ sym room;
  copy = λ i h _. get_or-take 80 source i 0 h;
  later = λ i h. get_or-eq_default (take (80 - 0) source) 0 {n = i} (omega (arith, mid_len 0 80 source long)) ∙ sym (get_or-eq_default before 0 {n = i} (omega arith));
}

-- ## Before the first track, and an image

-- An array of 1710 cells has room for the padded tracks.
pub padded_room : (z : Sizes) → (lag (shape z) + 3) * (80 + lag (shape z)) ≤ 1710
padded_room z =
    let h : lag (shape z) + 3 ≤ 18 = omega arith in
    let k : 80 + lag (shape z) ≤ 95 = omega arith in
    mul-le-mul h k

-- The front of such an array of zeros, in which no track is padded yet.
abbrev pub zeros : Sizes → List ℕ
zeros z = take ((lag (shape z) + 3) * (80 + lag (shape z))) (replicate 1710 0)

pub padded_none : (z : Sizes) (image : List ℕ) → Padded z 0 image (zeros z)
padded_none z image = record {
  size = size ∙ ap (λ n. n * (80 + lag (shape z))) (omega arith);
  bits = λ i. rw (zero_at i) (omega arith);
  lead = λ g j _. zero_at (g * track_length (edge (shape z)) + j);
  cells_of = λ g i h. absurd (omega arith);
}
  where
    size : length (zeros z) ≡ (lag (shape z) + 3) * (80 + lag (shape z))
    size = front 1710 _ (padded_room z)

    zero_at : (i : ℕ) → get_or (zeros z) i 0 ≡ 0
    zero_at = every (λ (v : ℕ). v ≡ 0) (zeros z) refl (λ i h.
        get_or-take ((lag (shape z) + 3) * (80 + lag (shape z))) (replicate 1710 0) i 0 (omega (arith, size))
        ∙ get_or-replicate 1710 i 0 0 (omega (arith, size, padded_room z)))

-- ## One more track

-- Where the zeros of track g end and its cells begin.
abbrev pub first_cell : Sizes → ℕ → ℕ
first_cell z g = g * track_length (edge (shape z)) + lag (shape z)

module _ (z : Sizes) (image padded : List ℕ) (g : ℕ) (is_image : Image (shape z) image) (track : g < all_tracks (shape z)) (p : Padded z g image padded) where
  abbrev l : ℕ
  l = track_length (shape z)

  abbrev w : ℕ
  w = track_length (edge (shape z))

  -- The image has track g.
  pub track_room : g * l + l ≤ length image
  track_room = omega (arith, row_end l g (all_tracks (shape z)) track)

  -- The padded tracks have its cells, which end with the track.
  pub cells_room : first_cell z g + 80 ≤ length padded
  cells_room = omega (arith, row_end w g (all_tracks (shape z)) track)

  -- Its first cells are copied to a part that comes back.
  module _ (ys : List ℕ) (c : FirstCopied (part l image g) (take (first_cell z g + 80 - first_cell z g) (drop (first_cell z g) padded)) ys) where
    abbrev a : ℕ
    a = first_cell z g

    abbrev new : List ℕ
    new = put_mid a (a + 80 - a) padded ys

    fits : length ys ≡ a + 80 - a
    fits = c.size ∙ mid_len a (a + 80) padded cells_room

    -- They are the track's.
    copied : (m : ℕ) → m < 80 → m < l → get_or ys m 0 ≡ row l image g m
    copied m h k = c.copy m h (omega (arith, part_length l image g track_room)) ∙ part_row l image g track_room m k

    -- The part holds bits, those of the image or those that were there.
    copy_bits : (m : ℕ) → m < 80 → get_or ys m 0 < 2
    copy_bits m h = by_cases (dec_lt m l)
        (λ k. rw (copied m h k) (is_image.bits (g * l + m)))
        (λ k. rw (c.later m (omega (arith, part_length l image g track_room)) ∙ part_at padded a (a + 80 - a) m (omega arith)) (p.bits (a + m)))

    -- So does the whole.
    bits_stay : (i : ℕ) → get_or new i 0 < 2
    bits_stay i = by_cases (dec_lt i a)
        (λ b. rw (put_before padded ys a 80 cells_room fits i b) (p.bits i))
        (λ b. by_cases (dec_lt i (a + 80))
        (λ e. let s : a + (i - a) ≡ i = omega arith in rw (ap (λ k. get_or new k 0) (sym s) ∙ put_in padded ys a 80 cells_room fits (i - a) (omega arith)) (copy_bits (i - a) (omega arith)))
        (λ e. rw (put_after padded ys a 80 cells_room fits i (omega arith)) (p.bits i)))

    -- The zeros stay: they end before the part, or begin after it.
    lead_stays : (q j : ℕ) → j < lag (shape z) → row w new q j ≡ 0
    lead_stays q j h = by_cases (dec_lt g q)
        (λ b. put_after padded ys a 80 cells_room fits (q * w + j) (omega (arith, row_end w g q b)) ∙ p.lead q j h)
        (λ b. let k : q ≤ g = omega arith in put_before padded ys a 80 cells_room fits (q * w + j) (omega (arith, mul-le-mul_right w k)) ∙ p.lead q j h)

    -- One more track is padded.
    pub padded_more : Padded z (suc g) image new
    padded_more = record {
      size = same_len_mid a (a + 80 - a) padded ys c.size ∙ p.size;
      bits = bits_stay;
      lead = lead_stays;
      cells_of = λ q i h k m. by_cases (dec_lt q g) (earlier q i k m) (here q i h k m);
    }
      where
        earlier : (q i : ℕ) → i < 80 → i < l → q < g → row w new q (lag (shape z) + i) ≡ row l image q i
        earlier q i k m b = put_before padded ys a 80 cells_room fits (q * w + (lag (shape z) + i)) (omega (arith, row_end w q g b)) ∙ p.cells_of q i b k m

        here : (q i : ℕ) → q < suc g → i < 80 → i < l → ¬ (q < g) → row w new q (lag (shape z) + i) ≡ row l image q i
        here q i h k m n =
            let e : q ≡ g = omega arith in
            let s : g * w + (lag (shape z) + i) ≡ a + i = omega arith in
            rw e (ap (λ j. get_or new j 0) s ∙ put_in padded ys a 80 cells_room fits i k ∙ copied i k m)
