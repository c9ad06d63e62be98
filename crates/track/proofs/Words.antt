-- Laws of a word of eight bytes.
use mathlib.Core.Path.{◌≡◌}
use Prim.Native.Nat.{ℕ, ◌+◌, ◌*◌, ◌/◌, ◌%◌, ◌^◌, ◌<◌}
use native.Mathlib.Omega.{arith}
use borrow.Author.Count.{below_none, below_more}
use lib.Bits.{bit_and, and_shr, and_mod, and_mask}

-- What holds of 0 to 6 holds below 7, and with 7 below 8.
pub seven : (P : ℕ → Type 0) → P 0 → P 1 → P 2 → P 3 → P 4 → P 5 → P 6 → (k : ℕ) → k < 7 → P k
seven P a b c d e f g =
    below_more P 6 (below_more P 5 (below_more P 4 (below_more P 3 (below_more P 2 (below_more P 1 (below_more P 0 (below_none P) a) b) c) d) e) f) g

pub eight : (P : ℕ → Type 0) → P 0 → P 1 → P 2 → P 3 → P 4 → P 5 → P 6 → P 7 → (k : ℕ) → k < 8 → P k
eight P a b c d e f g h = below_more P 7 (seven P a b c d e f g) h

-- A 1 at the start of each byte.
abbrev pub ones : ℕ
ones = 0x101_0101_0101_0101

-- As a mask it keeps the last bit of a byte.
pub masked : (x w : ℕ) → ones / 2 ^ w % 2 ^ 8 ≡ 1 → bit_and x ones / 2 ^ w % 2 ^ 8 ≡ x / 2 ^ w % 2
masked x w e = rw (and_shr x ones w, and_mod (x / 2 ^ w) (ones / 2 ^ w) 8, e, and_mask (x / 2 ^ w % 2 ^ 8) 1) (omega arith)

-- A word is the number of its bytes.
pub of_bytes : (x : ℕ) (f : ℕ → ℕ) → x < 2 ^ 64 → ((k : ℕ) → k < 8 → x / 256 ^ k % 256 ≡ f k) →
    x ≡ f 0 + 0x100 * f 1 + 0x1_0000 * f 2 + 0x100_0000 * f 3 + 0x1_0000_0000 * f 4 + 0x100_0000_0000 * f 5 + 0x1_0000_0000_0000 * f 6 + 0x100_0000_0000_0000 * f 7
of_bytes x f h is =
    omega (arith, is 0 (omega arith), is 1 (omega arith), is 2 (omega arith), is 3 (omega arith), is 4 (omega arith), is 5 (omega arith), is 6 (omega arith), is 7 (omega arith))
