-- Every byte of an image is one cell, and images with the same cells are the same bytes.
use mathlib.Core.Path.{◌≡◌, sym, ap, ◌∙◌}
use mathlib.Core.List.{List}
use Prim.Native.Nat.{ℕ, ◌+◌, ◌*◌, ◌/◌, ◌%◌, ◌-◌, ◌<◌, ◌≤◌}
use native.Mathlib.Nat.{div-add-mod', div-lt_iff_lt-mul, mod-lt, mul-le-mul_right, suc-mul}
use native.Mathlib.Decide.{dec_lt}
use native.Mathlib.Omega.{arith}
use lib.Arith.{digits_lt}
use lib.ListN.{get_or}
use lib.Seq.{ext_get_or}
use Rattle.code.specs.Record.{TrackSet, A, B, Shape, tracks, track_length, Same}
use Rattle.code.specs.Image.{track_number, all_tracks, image_size, cells}
use Rattle.code.specs.Calls.{Stays}

-- The set, track and position of byte i.
pub record Place (sh : Shape) (i : ℕ) : Type 0 where
  pub set : TrackSet
  pub track : ℕ
  pub position : ℕ
  pub has_track : track < tracks sh set
  pub has_position : position < track_length sh
  pub at : track_number sh set track * track_length sh + position ≡ i

pub number_lt : (sh : Shape) (s : TrackSet) (t : ℕ) → t < tracks sh s → track_number sh s t < all_tracks sh
number_lt sh A t h = omega arith
number_lt sh B t h = omega arith

-- A row of l cells ends within n rows.
pub row_end : (l row n : ℕ) → row < n → row * l + l ≤ n * l
row_end l row n h = omega (arith, mul-le-mul_right l h, suc-mul row l)

-- A cell of the record is a byte of the image.
pub cell_lt : (sh : Shape) (s : TrackSet) (t m : ℕ) → t < tracks sh s → m < track_length sh →
    track_number sh s t * track_length sh + m < image_size sh
cell_lt sh s t m h k = digits_lt (number_lt sh s t h) k

pub place : (sh : Shape) (i : ℕ) → i < image_size sh → Place sh i
place sh i h = go (dec_lt g (tracks sh A))
  where
    l : ℕ
    l = track_length sh

    g : ℕ
    g = i / l

    some : 0 < l
    some = omega arith

    number : g < all_tracks sh
    number = (div-lt_iff_lt-mul some).1 h

    go : Dec (g < tracks sh A) → Place sh i
    go (yes a) = record { set = A; track = g; position = i % l; has_track = a; has_position = mod-lt i some; at = div-add-mod' i l }
    go (no b) =
        let e : tracks sh A + (g - tracks sh A) ≡ g = omega arith in
        record {
          set = B;
          track = g - tracks sh A;
          position = i % l;
          has_track = omega (arith, number);
          has_position = mod-lt i some;
          at = ap (λ (k : ℕ). k * l + i % l) e ∙ div-add-mod' i l;
        }

-- What holds of each cell holds of each byte.
pub each_cell : (sh : Shape) (P : ℕ → Type 0) → ((s : TrackSet) (t m : ℕ) → t < tracks sh s → m < track_length sh → P (track_number sh s t * track_length sh + m)) →
    (i : ℕ) → i < image_size sh → P i
each_cell sh P h i l = go (place sh i l)
  where
    go : Place sh i → P i
    go p = rw (sym p.at) (h p.set p.track p.position p.has_track p.has_position)

-- Images with the same cells have the same bytes.
pub same_image : (sh : Shape) (l₁ l₂ : List ℕ) → Same sh (cells sh l₁) (cells sh l₂) → (i : ℕ) → i < image_size sh → get_or l₁ i 0 ≡ get_or l₂ i 0
same_image sh l₁ l₂ e = each_cell sh (λ i. get_or l₁ i 0 ≡ get_or l₂ i 0) e.cell

-- Outputs whose first bytes are the same, and whose later bytes stay, are the same.
pub same_bytes : (size : ℕ) (before l₁ l₂ : List ℕ) → Stays size before l₁ → Stays size before l₂ →
    ((i : ℕ) → i < size → get_or l₁ i 0 ≡ get_or l₂ i 0) → l₁ ≡ l₂
same_bytes size before l₁ l₂ a b e = ext_get_or 0 l₁ l₂ (a.lengths ∙ sym b.lengths) (λ i h. go i (dec_lt i size))
  where
    go : (i : ℕ) → Dec (i < size) → get_or l₁ i 0 ≡ get_or l₂ i 0
    go i (yes h) = e i h
    go i (no h) = a.later i (omega arith) ∙ sym (b.later i (omega arith))

-- And so are outputs that hold the same cells.
pub same_output : (sh : Shape) (before l₁ l₂ : List ℕ) → Stays (image_size sh) before l₁ → Stays (image_size sh) before l₂ →
    Same sh (cells sh l₁) (cells sh l₂) → l₁ ≡ l₂
same_output sh before l₁ l₂ a b e = same_bytes (image_size sh) before l₁ l₂ a b (same_image sh l₁ l₂ e)
