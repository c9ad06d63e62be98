-- The fifteen places of a register, and the two words that hold them.
use Rattle.std.specs.Prelude.{◌≡◌, List, ℕ, suc, ◌+◌, ◌*◌, ◌/◌, ◌%◌, ◌^◌, ◌<◌, get_or}
use Rattle.std.specs.Int.Bits.{bit_xor}

-- Byte k of a word, the least significant first.
unfoldable pub byte : ℕ → ℕ → ℕ
byte w k = w / 2 ^ (8 * k) % 2 ^ 8

-- A word has eight given bytes.
pub record Word (bytes : List ℕ) (w : ℕ) : Type 0 where
  pub byte_is : (k : ℕ) → k < 8 → byte w k ≡ get_or bytes k 0

-- The places are the words' bytes: 0 to 7 of the first, 8 to 14 of the second.
pub record Places (x y : ℕ) (r : List ℕ) : Type 0 where
  pub low : (k : ℕ) → k < 8 → get_or r k 0 ≡ byte x k
  pub high : (k : ℕ) → k < 7 → get_or r (8 + k) 0 ≡ byte y k

-- Two words have these places, and a 0 behind them.
pub record Words (r : List ℕ) (x y : ℕ) : Type 0 where
  pub places : Places x y r
  pub rest : byte y 7 ≡ 0

-- Each place is the next one of `r` with a cell added, and the last is its cell alone.
pub record Shifted (r cells next : List ℕ) : Type 0 where
  pub place : (k : ℕ) → k < 14 → get_or next k 0 ≡ bit_xor (get_or r (suc k) 0) (get_or cells k 0)
  pub last : get_or next 14 0 ≡ get_or cells 14 0

-- Each place is bit k of a byte.
pub record BitsAt (bytes : List ℕ) (k : ℕ) (cells : List ℕ) : Type 0 where
  pub place : (i : ℕ) → i < 15 → get_or cells i 0 ≡ get_or bytes i 0 / 2 ^ k % 2
