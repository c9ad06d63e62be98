-- What is said of an image whose cells are readings.
use Rattle.std.specs.Prelude.{◌≡◌, Bool, true, false, List, ℕ, ◌<◌, length, get_or}

-- r says whether a cell is lost: where none is, all are bits.
pub record LostTold (image : List ℕ) (r : Bool) : Type 0 where
  pub bits : r ≡ false → (i : ℕ) → get_or image i 0 < 2
  pub some : r ≡ true → ((i : ℕ) → i < length image → get_or image i 0 < 2) → ⊥
