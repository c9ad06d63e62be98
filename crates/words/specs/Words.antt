-- Cells in words: 64 to a word, the first at its least significant bit.
use Rattle.std.specs.Prelude.{◌≡◌, List, ℕ, ◌+◌, ◌*◌, ◌-◌, ◌/◌, ◌%◌, ◌^◌, ◌<◌, ◌≤◌, length, get_or}
use Rattle.code.specs.Record.{back}

-- Bit k of a word.
unfoldable pub bit : ℕ → ℕ → ℕ
bit w k = w / 2 ^ k % 2

-- Cell m of a list of words, and 0 past its end.
unfoldable pub bit_at : List ℕ → ℕ → ℕ
bit_at ws m = bit (get_or ws (m / 64) 0) (m % 64)

-- r has the 64 cells from `at` on.
pub record Window (ws : List ℕ) (at r : ℕ) : Type 0 where
  pub cells : (k m : ℕ) → k < 64 → at + k ≡ m → bit r k ≡ bit_at ws m

-- r has the first n cells of w, and 0 from there on.
pub record First (w n r : ℕ) : Type 0 where
  pub cells : (k : ℕ) → k < n → bit r k ≡ bit w k
  pub none : (k : ℕ) → n ≤ k → bit r k ≡ 0

-- r is w divided by 1 + D^d: each cell is w's plus the one of r that is d positions back.
pub record Quotient (w d r : ℕ) : Type 0 where
  pub cells : (k : ℕ) → k < 64 → bit r k ≡ (bit w k + back (bit r) k d) % 2

-- The same of the word that follows `prior`. The cells of x from n on do not count again; nor does any, where d is a word or more.
pub record Fed (r prior d n x : ℕ) : Type 0 where
  pub carried : d < 64 → (k p : ℕ) → p < 64 → k + 64 ≡ p + d → bit x k ≡ (bit r k + bit prior p) % 2
  pub again : d < 64 → (k p : ℕ) → k < 64 → p + d ≡ k → p < n → bit x k ≡ (bit r k + bit x p) % 2
  pub past : d < 64 → (k p : ℕ) → k < 64 → p + d ≡ k → n ≤ p → bit x k ≡ bit r k
  pub far : 64 ≤ d → x ≡ r

-- ## Loading and unloading

-- Where bit p comes from in an exchange of the mask's bits with those s positions above.
unfoldable pub source : ℕ → ℕ → ℕ → ℕ
source s mask p = p + s * bit mask p - s * back (bit mask) p s

-- r is x after that exchange, where it is one.
pub record Swapped (x s mask r : ℕ) : Type 0 where
  pub cells : (p : ℕ) → p < 64 → bit mask p + back (bit mask) p s < 2 → bit r p ≡ bit x (source s mask p)

-- The 64 cells from `at` on, 0 past the end.
pub record Packed (stretch : List ℕ) (at r : ℕ) : Type 0 where
  pub cells : (k m : ℕ) → k < 64 → at + k ≡ m → bit r k ≡ get_or stretch m 0

-- A word's cells are written from `at` on, and all others stay.
pub record Unloaded (before : List ℕ) (at w : ℕ) (after : List ℕ) : Type 0 where
  pub size : length after ≡ length before
  pub cells : (k : ℕ) → k < 64 → get_or after (at + k) 0 ≡ bit w k
  pub early : (i : ℕ) → i < at → get_or after i 0 ≡ get_or before i 0
  pub later : (i : ℕ) → at + 64 ≤ i → get_or after i 0 ≡ get_or before i 0

-- A list has the cells of words, a byte each.
pub record Spread (ws before after : List ℕ) : Type 0 where
  pub size : length after ≡ length before
  pub cells : (m : ℕ) → m < length before → get_or after m 0 ≡ bit_at ws m
