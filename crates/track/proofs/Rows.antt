-- Rows of a list: one of them that is lent, and that came back.
use mathlib.Core.Path.{◌≡◌, ◌∙◌}
use mathlib.Core.Logic.{◌≢◌, by_cases}
use mathlib.Core.List.{List}
use Prim.Native.Nat.{ℕ, ◌+◌, ◌*◌, ◌-◌, ◌<◌, ◌≤◌}
use native.Mathlib.Decide.{dec_lt}
use native.Mathlib.Nat.{mul-le-mul_right, suc-mul}
use native.Mathlib.Omega.{arith}
use borrow.Rule.Slice.PartMut.{put_mid, mid_len, same_len_mid}
use lib.Arith.{digits_lt}
use lib.ListN.{length, get_or, take, drop, replicate, length-replicate}
use lib.Seq.{length-take-le}
use Rattle.track.specs.Track.{row, Bits, Readings}
use Rattle.track.proofs.Cells.{every}
use Rattle.track.proofs.Parts.{part_at, put_before, put_in, put_after}

-- A row ends within n rows.
pub row_end : (l row n : ℕ) → row < n → row * l + l ≤ n * l
row_end l row n h = omega (arith, mul-le-mul_right l h, suc-mul row l)

-- The part that is row r.
abbrev pub part : ℕ → List ℕ → ℕ → List ℕ
part l xs r = take (r * l + l - r * l) (drop (r * l) xs)

module _ (l : ℕ) (xs : List ℕ) (r : ℕ) (room : r * l + l ≤ length xs) where
  whole : r * l + l - r * l ≡ l
  whole = omega arith

  -- It has l cells, those of the row.
  pub part_length : length (part l xs r) ≡ l
  part_length = mid_len (r * l) (r * l + l) xs room ∙ whole

  pub part_row : (m : ℕ) → m < l → get_or (part l xs r) m 0 ≡ row l xs r m
  part_row m h = part_at xs (r * l) (r * l + l - r * l) m (omega arith)

  -- Where all cells are below a value, so are its cells.
  part_below : (v : ℕ) → 0 < v → ((i : ℕ) → get_or xs i 0 < v) → (i : ℕ) → get_or (part l xs r) i 0 < v
  part_below v some b = every (λ x. x < v) (part l xs r) some (λ m h. rw (part_row m (omega (arith, part_length))) (b (r * l + m)))

  pub part_bits : Bits xs → Bits (part l xs r)
  part_bits b = record { bit = part_below 2 (omega arith) b.bit }

  pub part_readings : Readings xs → Readings (part l xs r)
  part_readings b = record { reading = part_below 3 (omega arith) b.reading }

  -- A list that came back for the row.
  module _ (ys : List ℕ) (size : length ys ≡ length (part l xs r)) where
    abbrev new : List ℕ
    new = put_mid (r * l) (r * l + l - r * l) xs ys

    -- The whole keeps its length, the row is the list, and other rows stay.
    pub new_length : length new ≡ length xs
    new_length = same_len_mid (r * l) (r * l + l - r * l) xs ys size

    fits : length ys ≡ r * l + l - r * l
    fits = size ∙ mid_len (r * l) (r * l + l) xs room

    pub new_here : (m : ℕ) → m < l → row l new r m ≡ get_or ys m 0
    new_here = put_in xs ys (r * l) l room fits

    pub new_there : (q m : ℕ) → q ≢ r → m < l → row l new q m ≡ row l xs q m
    new_there q m d h = by_cases (dec_lt q r)
        (λ k. put_before xs ys (r * l) l room fits (q * l + m) (omega (arith, digits_lt k h)))
        (λ k. put_after xs ys (r * l) l room fits (q * l + m) (omega (arith, row_end l r q (omega arith))))

-- The first k cells of an array of n.
pub front : (n k : ℕ) → k ≤ n → length {A = ℕ} (take k (replicate n 0)) ≡ k
front n k h = length-take-le k (replicate n 0) (omega (arith, length-replicate {A = ℕ} n 0))
