-- What the functions on one track's stretch ask and give.
use Rattle.std.specs.Prelude.{◌≡◌, Bool, true, false, List, [], ◌∷◌, ℕ, suc, ◌+◌, ◌*◌, ◌-◌, ◌/◌, ◌%◌, ◌^◌, ◌<◌, ◌≤◌, length, get_or}
use Rattle.code.specs.Record.{back, sum}
use Rattle.code.specs.Lost.{read_values, is_lost}
use Rattle.code.specs.Reach.{pick}
use Rattle.code.specs.Calls.{differ}

-- Row r of a list, in rows of l: track number r of an image of tracks of l cells.
abbrev pub row : ℕ → List ℕ → ℕ → ℕ → ℕ
row l xs r m = get_or xs (r * l + m) 0

-- Every cell is 0 or 1.
pub record Bits (xs : List ℕ) : Type 0 where
  pub bit : (i : ℕ) → get_or xs i 0 < 2

-- Every cell is a reading: 0, 1 or lost.
pub record Readings (xs : List ℕ) : Type 0 where
  pub reading : (i : ℕ) → get_or xs i 0 < read_values

-- A cell, and 0 where it is lost.
abbrev pub known_cell : ℕ → ℕ
known_cell x = pick (is_lost x) 0 x

-- What a working copy of a list holds.
unfoldable pub known : List ℕ → List ℕ
known [] = []
known (x ∷ xs) = known_cell x ∷ known xs

-- `after` is `before` with a track added modulo 2, its first cell at `off`.
pub record Added (before track : List ℕ) (off : ℕ) (after : List ℕ) : Type 0 where
  pub size : length after ≡ length before
  pub bits : (i : ℕ) → get_or after i 0 < 2
  pub cells : (m : ℕ) → m < length before → get_or after m 0 ≡ (get_or before m 0 + back (λ p. get_or track p 0) m off) % 2

-- Every cell is 0.
pub record Cleared (before after : List ℕ) : Type 0 where
  pub size : length after ≡ length before
  pub none : (i : ℕ) → get_or after i 0 ≡ 0

-- The first cells are the source's, and later ones stay.
pub record Copied (source before after : List ℕ) : Type 0 where
  pub size : length after ≡ length before
  pub copy : (i : ℕ) → i < length source → get_or after i 0 ≡ get_or source i 0
  pub later : (i : ℕ) → length source ≤ i → get_or after i 0 ≡ get_or before i 0

-- r is the highest byte of a list, 0 of an empty one.
pub record Highest (xs : List ℕ) (r : ℕ) : Type 0 where
  pub above : (i : ℕ) → get_or xs i 0 ≤ r
  pub least : (b : ℕ) → ((i : ℕ) → i < length xs → get_or xs i 0 ≤ b) → r ≤ b

-- r is the highest byte of two lists, 0 of empty ones.
pub record HighestTwo (xs ys : List ℕ) (r : ℕ) : Type 0 where
  pub first : (i : ℕ) → get_or xs i 0 ≤ r
  pub second : (i : ℕ) → get_or ys i 0 ≤ r
  pub least : (b : ℕ) → ((i : ℕ) → i < length xs → get_or xs i 0 ≤ b) → ((i : ℕ) → i < length ys → get_or ys i 0 ≤ b) → r ≤ b

-- r says whether every cell is 0.
pub record Zeros (xs : List ℕ) (r : Bool) : Type 0 where
  pub all : r ≡ true → (i : ℕ) → get_or xs i 0 ≡ 0
  pub not_all : r ≡ false → ((i : ℕ) → i < length xs → get_or xs i 0 ≡ 0) → ⊥

-- The number of places at which two stretches differ.
unfoldable pub differing : List ℕ → List ℕ → ℕ
differing xs ys = sum (length xs) (λ m. differ (get_or xs m 0) (get_or ys m 0))

-- The eight cells from `at` on are the byte's bits, the most significant first, and all others stay.
pub record Unpacked (before : List ℕ) (at byte : ℕ) (after : List ℕ) : Type 0 where
  pub size : length after ≡ length before
  pub cells : (k : ℕ) → k < 8 → get_or after (at + k) 0 ≡ byte / 2 ^ (8 - suc k) % 2
  pub early : (i : ℕ) → i < at → get_or after i 0 ≡ get_or before i 0
  pub later : (i : ℕ) → at + 8 ≤ i → get_or after i 0 ≡ get_or before i 0
