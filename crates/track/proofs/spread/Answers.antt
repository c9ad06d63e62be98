-- `spread`: bit 8 k + 7 of the sum is bit 7 - k of the byte.
use mathlib.Core.Path.{◌≡◌, refl}
use Prim.Native.Nat.{ℕ, suc, ◌+◌, ◌-◌, ◌*◌, ◌/◌, ◌%◌, ◌^◌, ◌<◌}
use native.Mathlib.Omega.{arith}
use lib.Bits.{bit_and}
use Rattle.track.proofs.Words.{eight, ones, masked}
use Rattle.track.proofs.spread.Goals as goal

abbrev factor : ℕ
factor = 0x40_2010_0804_0201

-- All bits but the last, each at the start of a byte of its own, with others between them.
abbrev product : ℕ → ℕ
product b = b * factor / 0x80

-- The last bit, at the start of the highest byte.
abbrev last : ℕ → ℕ
last b = b % 2 * 2 ^ 56

-- What is masked is their sum.
abbrev both : ℕ → ℕ
both b = (b * factor + b * 0x8000_0000_0000_0000 % 0x1_0000_0000_0000_0000) / 0x80

sum_of : (b : ℕ) → both b ≡ product b + last b
sum_of b =
    let top : b * 0x8000_0000_0000_0000 % 0x1_0000_0000_0000_0000 ≡ 0x80 * last b = omega arith in
    rw top (omega arith)

-- Byte k is bit 7 - k if the last bit lies above it, and the product's bits from 8 k on are that bit's and above.
cell : (b k : ℕ) →
    (product b + last b) / 2 ^ (8 * k) ≡ product b / 2 ^ (8 * k) + (b % 2 * 2 ^ (55 - 8 * k)) * 2 →
    product b / 2 ^ (8 * k) ≡ b / 2 ^ (8 - suc k) + (b * (factor / 2 ^ (8 * suc k))) * 2 →
    ones / 2 ^ (8 * k) % 2 ^ 8 ≡ 1 → bit_and (both b) ones / 2 ^ (8 * k) % 2 ^ 8 ≡ b / 2 ^ (8 - suc k) % 2
cell b k above bits one = rw (masked (both b) (8 * k) one, sum_of b, above) (omega arith)

-- The highest byte is the last bit.
top : (p v : ℕ) → p < 2 ^ 56 → (p + v * 2 ^ 56) / 2 ^ 56 ≡ v
top p v h = omega arith

highest : (b : ℕ) → b < 256 → bit_and (both b) ones / 2 ^ 56 % 2 ^ 8 ≡ b % 2
highest b h = rw (masked (both b) 56 refl, sum_of b, top (product b) (b % 2) (omega arith)) (omega arith)

pub returns : goal.returns
returns c =
    let b = c.args.byte in
    eight _
    (cell b 0 (omega arith) (omega arith) refl)
    (cell b 1 (omega arith) (omega arith) refl)
    (cell b 2 (omega arith) (omega arith) refl)
    (cell b 3 (omega arith) (omega arith) refl)
    (cell b 4 (omega arith) (omega arith) refl)
    (cell b 5 (omega arith) (omega arith) refl)
    (cell b 6 (omega arith) (omega arith) refl)
    (omega (arith, highest b (omega arith)))
