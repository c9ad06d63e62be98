-- Changed cells by track numbers.
use Rattle.std.proofs.Common.{◌≡◌, Bool, false, List, ℕ, true, eqb, add-one, add-zero, ◌+◌, ◌*◌, ◌-◌, ◌^◌, ◌<◌, ◌≤◌, refl, sym, ap, ap₂, ◌∙◌, length, get_or, take, drop, arith}
use Rattle.std.proofs.Math.Nat.{pow-suc}
use mathlib.Core.Logic.{by_cases}
use native.Mathlib.Decide.{dec_lt}
use borrow.Rule.Slice.PartMut.{mid_len}
use Rattle.code.specs.declared.sizes.TrackSet.{TrackSet}
use Rattle.code.specs.declared.sizes.TrackSet.TheVariants.{A, B}
use Rattle.code.specs.Record.{Shape, tracks, track_length, sum}
use Rattle.code.specs.Image.{track_number, all_tracks, cells}
use Rattle.code.specs.Reach.{pick}
use Rattle.code.specs.Calls.{differ, changed_in, over_tracks, changed_cells, mask_bit, changed_mask}
use Rattle.code.specs.Sizes.{shape}
use Rattle.code.specs.declared.sizes.Sizes.{Sizes}
use Rattle.code.proofs.Masks.{changed_in_le, unchanged_in, sum_append}
use Rattle.code.proofs.Places.{row_end}
use Rattle.code.proofs.Sums.{sum_same}
use Rattle.track.specs.Track.{differing}
use Rattle.track.proofs.Parts.{part_at}
use Rattle.changes.specs.Changes.{HasTrack, changed_at, OnlyMarkedBy, Counted}

-- ## Track numbers

-- What holds of each track of a set holds of each track number.
pub by_number : (sh : Shape) (P : ℕ → Type 0) → ((s : TrackSet) (t : ℕ) → t < tracks sh s → P (track_number sh s t)) →
    (g : ℕ) → g < all_tracks sh → P g
by_number sh P h g l = by_cases (dec_lt g (tracks sh A)) (h A g) (λ n.
    let e : tracks sh A + (g - tracks sh A) ≡ g = omega arith in
    rw e at (h B (g - tracks sh A) (omega arith)))

-- Both images have every track.
pub has_track : {M : Type 0} (counts : M → Bool) (none : M) (z : Sizes) (marks : List M) (image out : List ℕ) → OnlyMarkedBy counts none z marks image out → (g : ℕ) → g < all_tracks (shape z) →
    HasTrack (track_length (shape z)) g image out
has_track counts none z marks image out o g h = record {
  room = omega (arith, row_end (track_length (shape z)) g (all_tracks (shape z)) h, o.image_has);
  sizes = o.out_has ∙ sym o.image_has;
}

-- ## Changed cells

module _ (l g : ℕ) (image out : List ℕ) (has : HasTrack l g image out) where
  -- Two stretches differ where the tracks do.
  pub part_changed : differing (take (g * l + l - g * l) (drop (g * l) image)) (take (g * l + l - g * l) (drop (g * l) out)) ≡ changed_at l image out g
  unfolding differing changed_at
  part_changed =
      let size : length (take (g * l + l - g * l) (drop (g * l) image)) ≡ l = mid_len (g * l) (g * l + l) image has.room ∙ omega arith in
      rw size (sum_same l _ _ (λ m h. ap₂ differ (part_at image (g * l) (g * l + l - g * l) m (omega arith)) (part_at out (g * l) (g * l + l - g * l) m (omega arith))))

module _ (sh : Shape) (image out : List ℕ) where
  abbrev at_number : ℕ → ℕ
  at_number = changed_at (track_length sh) image out

  -- The changed cells of a track are those of its number.
  pub changed_number : (s : TrackSet) (t : ℕ) → changed_in sh (cells sh image) (cells sh out) s t ≡ at_number (track_number sh s t)
  unfolding changed_in changed_at
  changed_number s t = refl

  -- A track has at most L changed cells.
  pub changed_le : (g : ℕ) → g < all_tracks sh → at_number g ≤ track_length sh
  changed_le = by_number sh (λ g. at_number g ≤ track_length sh) (λ s t h. rw (sym (changed_number s t)) (changed_in_le sh _ _ s t))

  -- Sums over both sets are sums over the track numbers.
  over_numbers : (f : ℕ → ℕ) → over_tracks sh (λ s t. f (track_number sh s t)) ≡ sum (all_tracks sh) f
  over_numbers f = sym (sum_append (tracks sh A) (tracks sh B) f)

  -- The changed cells, as a sum over the track numbers.
  pub cells_sum : changed_cells sh (cells sh image) (cells sh out) ≡ sum (all_tracks sh) at_number
  unfolding changed_cells changed_in changed_at
  cells_sum = over_numbers at_number

  -- The changed mask, as one.
  pub mask_sum : changed_mask sh (cells sh image) (cells sh out) ≡ sum (all_tracks sh) (λ g. mask_bit g (at_number g))
  unfolding changed_mask changed_in changed_at
  mask_sum = over_numbers (λ g. mask_bit g (at_number g))

module _ {M : Type 0} (counts : M → Bool) (none : M) (z : Sizes) (marks : List M) (image out : List ℕ) (only : OnlyMarkedBy counts none z marks image out) where
  abbrev l : ℕ
  l = track_length (shape z)

  -- A track that is not marked has no changed cell.
  pub unmarked_unchanged : (g : ℕ) → g < all_tracks (shape z) → counts (get_or marks g none) ≡ false → changed_at l image out g ≡ 0
  unmarked_unchanged = by_number (shape z) (λ g. counts (get_or marks g none) ≡ false → changed_at l image out g ≡ 0)
      (λ s t h d. sym (changed_number (shape z) image out s t) ∙ unchanged_in (shape z) _ _ s t (λ m b. only.agree.cell s t m h b d))

-- ## Track after track

-- The mask and the number of changed cells of the first g tracks.
pub record Counting (l : ℕ) (image out : List ℕ) (g mask count : ℕ) : Type 0 where
  pub mask_small : mask < 2 ^ g
  pub count_small : count ≤ g * 2063
  pub mask_is : mask ≡ sum g (λ k. mask_bit k (changed_at l image out k))
  pub count_is : count ≡ sum g (changed_at l image out)

pub counting_none : (l : ℕ) (image out : List ℕ) → Counting l image out 0 0 0
unfolding sum
counting_none l image out = record { mask_small = omega arith; count_small = omega arith; mask_is = refl; count_is = refl }

pub bit_small : (g c : ℕ) → mask_bit g c ≤ 2 ^ g
bit_small g c = go (eqb c 0)
  where
    go : (b : Bool) → pick b 0 (2 ^ g) ≤ 2 ^ g
    go true = omega arith
    go false = omega arith

module _ {M : Type 0} (counts : M → Bool) (none : M) (z : Sizes) (marks : List M) (image out : List ℕ) (only : OnlyMarkedBy counts none z marks image out) (l : ℕ) (l_is : l ≡ track_length (shape z)) (g : ℕ) (within : g < all_tracks (shape z)) where
  -- A track that is marked and has c changed cells.
  pub few_changed : (c : ℕ) → c ≡ changed_at l image out g → c ≤ 2063
  few_changed c e =
      let few : changed_at l image out g ≤ track_length (shape z) = rw l_is (changed_le (shape z) image out g within) in
      omega (arith, e, few)

  pub counting_more : (mask count c bit : ℕ) → Counting l image out g mask count → c ≡ changed_at l image out g → bit ≡ mask_bit g c →
      Counting l image out (g + 1) (mask + bit) (count + c)
  unfolding sum
  counting_more mask count c bit h e b = rw (add-one g) (record {
    mask_small = omega (arith, h.mask_small, bit_small g c, b, pow-suc 2 g);
    count_small = omega (arith, h.count_small, few_changed c e);
    mask_is = ap₂ ◌+◌ h.mask_is (b ∙ ap (mask_bit g) e);
    count_is = ap₂ ◌+◌ h.count_is e;
  })

  -- One that is not marked has none.
  pub counting_same : (mask count : ℕ) → counts (get_or marks g none) ≡ false → Counting l image out g mask count → Counting l image out (g + 1) mask count
  counting_same mask count unmarked h =
      rw (add-zero mask, add-zero count) at (counting_more mask count 0 0 h (sym (rw l_is (unmarked_unchanged counts none z marks image out only g within unmarked))) refl)

-- All tracks.
pub counting_all : (z : Sizes) (image out : List ℕ) (l g mask count : ℕ) → l ≡ track_length (shape z) → g ≡ all_tracks (shape z) → Counting l image out g mask count →
    Counted (shape z) image out (record { mask = mask; cells = count })
counting_all z image out l g mask count p q h = record {
  mask_is = rw (p, q) at h.mask_is ∙ sym (mask_sum (shape z) image out);
  cells_are = rw (p, q) at h.count_is ∙ sym (cells_sum (shape z) image out);
}
