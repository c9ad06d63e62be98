-- Laws of lost cells: working copies, in which they are 0, and how the highest byte tells of them.
use mathlib.Core.Path.{◌≡◌, refl, sym, ap, ◌∙◌}
use mathlib.Core.Bool.{Bool, true, false, true≢false}
use mathlib.Core.List.{List, [], ◌∷◌}
use Prim.Native.Nat.{ℕ, zero, suc, ◌-◌, ◌<◌}
use native.Mathlib.Omega.{arith}
use borrow.Author.Tests.{eqb-true}
use lib.ListN.{length, get_or}
use Rattle.code.specs.Record.{Shape, tracks, track_length, Cells}
use Rattle.code.specs.declared.sizes.TrackSet.{TrackSet}
use Rattle.code.specs.Image.{cells}
use Rattle.code.specs.Lost.{read_values, is_lost}
use Rattle.code.specs.Reach.{pick}
use Rattle.code.specs.Flags.{CellFlags, AgreeOff, any}
use Rattle.code.proofs.Any.{any_none}
use Rattle.code.proofs.Lost.{bit_known}
use Rattle.code.proofs.Patterns.{none_flagged}
use Rattle.track.specs.Track.{Bits, Readings, known_cell, known, Highest}

-- ## Working copies

-- A reading becomes a bit.
known_cell_bit : (x : ℕ) → x < read_values → known_cell x < 2
known_cell_bit zero h = omega arith
known_cell_bit (suc zero) h = omega arith
known_cell_bit (suc (suc zero)) h = omega arith
known_cell_bit (suc (suc (suc x))) h = absurd (omega arith)

-- A cell that is not lost stays.
pub cell_known : (x : ℕ) → is_lost x ≡ false → known_cell x ≡ x
cell_known x e = ap (λ (b : Bool). pick b 0 x) e

pub length_known : (xs : List ℕ) → length (known xs) ≡ length xs
unfolding known
length_known [] = refl
length_known (x ∷ xs) = ap suc (length_known xs)

pub known_at : (xs : List ℕ) (i : ℕ) → get_or (known xs) i 0 ≡ known_cell (get_or xs i 0)
unfolding known
known_at [] i = refl
known_at (x ∷ xs) zero = refl
known_at (x ∷ xs) (suc i) = known_at xs i

pub known_bits : (xs : List ℕ) → Readings xs → Bits (known xs)
known_bits xs r = record { bit = λ i. rw (known_at xs i) (known_cell_bit _ (r.reading i)) }

-- Flags by cells that flag every lost cell of an image. Off them a working copy is the image.
abbrev pub LostCovered : Shape → CellFlags → List ℕ → Type 0
LostCovered sh flag image = (s : TrackSet) (t m : ℕ) → t < tracks sh s → m < track_length sh → flag s t m ≡ false → is_lost (cells sh image s t m) ≡ false

module _ (sh : Shape) (flag : CellFlags) (image : List ℕ) (covered : LostCovered sh flag image) where
  pub copy_agree : AgreeOff sh flag (cells sh image) (cells sh (known image))
  copy_agree = record { cell = λ s t m l b e. sym (known_at image _ ∙ cell_known _ (covered s t m l b e)) }

  pub agree_copy : (y : Cells) → AgreeOff sh flag (cells sh image) y → AgreeOff sh flag (cells sh (known image)) y
  agree_copy y a = record { cell = λ s t m l b e. sym (copy_agree.cell s t m l b e) ∙ a.cell s t m l b e }

-- ## The highest byte

-- Where all cells are below a value, it is.
pub most_below : (xs : List ℕ) (most : ℕ) → Highest xs most → (v : ℕ) → 0 < v → ((i : ℕ) → i < length xs → get_or xs i 0 < v) → most < v
most_below xs most h v some all = omega (arith, some, h.least (v - 1) (λ i l. omega (arith, some, all i l)))

-- A reading that is not lost is a bit.
pub known_bit : (x : ℕ) → x < read_values → is_lost x ≡ false → x < 2
known_bit zero h e = omega arith
known_bit (suc zero) h e = omega arith
known_bit (suc (suc zero)) h e = absurd (true≢false e)
known_bit (suc (suc (suc x))) h e = absurd (omega arith)

module _ (xs : List ℕ) (most : ℕ) (h : Highest xs most) (r : Readings xs) where
  pub most_reading : most < read_values
  most_reading = most_below xs most h read_values (omega arith) (λ i l. r.reading i)

  -- It is lost exactly if some cell is.
  pub most_lost : is_lost most ≡ any (length xs) (λ m. is_lost (get_or xs m 0))
  most_lost = go (is_lost most) (any (length xs) (λ m. is_lost (get_or xs m 0))) refl refl
    where
      go : (b c : Bool) → is_lost most ≡ b → any (length xs) (λ m. is_lost (get_or xs m 0)) ≡ c → b ≡ c
      go true true p q = refl
      go true false p q = absurd (omega (
        arith,
        eqb-true most 2 p,
        most_below xs most h 2 (omega arith) (λ i l. known_bit (get_or xs i 0) (r.reading i) (none_flagged (length xs) (λ m. is_lost (get_or xs m 0)) q i l)),
      ))
      go false true p q = absurd (true≢false (sym q ∙ any_none (length xs) (λ m. is_lost (get_or xs m 0)) (λ i l. bit_known (get_or xs i 0) (omega (arith, known_bit most most_reading p, h.above i)))))
      go false false p q = refl
