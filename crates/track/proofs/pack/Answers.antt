-- `pack`: two products have the eight bits side by side.
use mathlib.Core.Path.{◌≡◌}
use Prim.Native.Nat.{ℕ, ◌+◌, ◌*◌, ◌/◌, ◌%◌, ◌<◌}
use native.Mathlib.Nat.{add-zero}
use native.Mathlib.Omega.{arith}
use Rattle.code.specs.Payload.{digits}
use Rattle.track.proofs.pack.Goals as goal

rest : (q r : ℕ) → r < 0x100 → (0x100 * q + r) % 0x100 ≡ r
rest q r h = omega arith

byte : (a b c d e f g h : ℕ) → a < 2 → b < 2 → c < 2 → d < 2 → e < 2 → f < 2 → g < 2 → h < 2 →
    128 * a + 64 * b + 32 * c + 16 * d + 8 * e + 4 * f + 2 * g + h < 0x100
byte a b c d e f g h la lb lc ld le lf lg lh = omega arith

-- Bits 24 to 31 of their sum are the eight.
gathered : (x y a b c d e f g h : ℕ) → a < 2 → b < 2 → c < 2 → d < 2 → e < 2 → f < 2 → g < 2 → h < 2 →
    x ≡ a + 0x100 * b + 0x1_0000 * c + 0x100_0000 * d → y ≡ e + 0x100 * f + 0x1_0000 * g + 0x100_0000 * h →
    (x * 0x8040_2010 + y * 0x804_0201) / 0x100_0000 % 0x100 ≡ 128 * a + 64 * b + 32 * c + 16 * d + 8 * e + 4 * f + 2 * g + h
gathered x y a b c d e f g h la lb lc ld le lf lg lh p q =
    let high : (x * 0x8040_2010 + y * 0x804_0201) / 0x100_0000
    ≡ 0x80 * a + 0x8040 * b + 0x80_4020 * c + 0x8040_2010 * d + 0x8 * e + 0x804 * f + 0x8_0402 * g + 0x804_0201 * h = omega arith in
    let whole : 0x80 * a + 0x8040 * b + 0x80_4020 * c + 0x8040_2010 * d + 0x8 * e + 0x804 * f + 0x8_0402 * g + 0x804_0201 * h
    ≡ 0x100 * (0x80 * b + 0x8040 * c + 0x80_4020 * d + 0x8 * f + 0x804 * g + 0x8_0402 * h) + (128 * a + 64 * b + 32 * c + 16 * d + 8 * e + 4 * f + 2 * g + h) = omega arith in
    rw (high, whole) (rest _ _ (byte a b c d e f g h la lb lc ld le lf lg lh))

pub returns : goal.returns
unfolding digits
returns c =
    let b = c.requires.bits.bit in
    let high = c.four-high.ensures.value in
    rw add-zero (omega (arith, gathered _ _ _ _ _ _ _ _ _ _ (b _) (b _) (b _) (b _) (b _) (b _) (b _) (b _) high c.four-low.ensures.value))
