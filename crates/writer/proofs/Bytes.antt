-- Bytes that are written one part after another, and numbers in bytes.
use mathlib.Core.Path.{◌≡◌, refl, ap, ap₂, ◌∙◌}
use mathlib.Core.List.{List, ◌++◌, append-nil}
use Prim.Native.Nat.{ℕ, ◌-◌, ◌/◌, ◌≤◌}
use native.Mathlib.Omega.{arith}
use borrow.Rule.Slice.PartMut.{put_mid}
use lib.ListN.{length, take, drop, length-append, length-drop, drop_of_length-le}
use lib.Seq.{take_all, take_at, drop_at}
use Rattle.std.specs.Int.{w16, w32, to_be_bytes}
use Rattle.code.specs.Files.{bytes_of}

-- The bytes lent from a place on are all that are left.
pub rest_part : (xs : List ℕ) (a : ℕ) → take (length xs - a) (drop a xs) ≡ drop a xs
rest_part xs a = take_all (length xs - a) (drop a xs) (omega (arith, length-drop a xs))

-- A part that is written behind ys stands behind it, before what was left.
pub put_behind : (a k : ℕ) (ys rest zs : List ℕ) → length ys ≡ a → put_mid a k (ys ++ rest) zs ≡ ys ++ (zs ++ drop k rest)
put_behind a k ys rest zs e = rw (take_at ys rest a e, drop_at ys rest a e)

-- Where nothing was left, the list is both.
pub put_last : (a k : ℕ) (ys rest zs : List ℕ) → length ys ≡ a → length rest ≤ k → put_mid a k (ys ++ rest) zs ≡ ys ++ zs
put_last a k ys rest zs e h = put_behind a k ys rest zs e ∙ ap (λ r. ys ++ (zs ++ r)) (drop_of_length-le rest h) ∙ ap (λ r. ys ++ r) (append-nil zs)

-- ## Numbers

-- The library's bytes of a number are the number's.
pub two_bytes : (x : ℕ) → to_be_bytes w16 x ≡ bytes_of 2 x
unfolding bytes_of
two_bytes x = refl

pub four_bytes : (x : ℕ) → to_be_bytes w32 x ≡ bytes_of 4 x
unfolding bytes_of
four_bytes x =
    let second : x / 65536 ≡ x / 256 / 256 = omega arith in
    let third : x / 16777216 ≡ x / 256 / 256 / 256 = omega arith in
    rw (second, third) refl

-- An entry's place is its offset and its length.
pub place_bytes : (xs : List ℕ) (offset size : ℕ) → length xs ≡ 8 →
    put_mid 4 (length (to_be_bytes w32 offset ++ drop 4 xs) - 4) (to_be_bytes w32 offset ++ drop 4 xs) (to_be_bytes w32 size) ≡ bytes_of 4 offset ++ bytes_of 4 size
place_bytes xs offset size whole =
    put_last 4 (length (to_be_bytes w32 offset ++ drop 4 xs) - 4) (to_be_bytes w32 offset) (drop 4 xs) (to_be_bytes w32 size) refl
    (omega (arith, length-append (to_be_bytes w32 offset) (drop 4 xs), length-drop 4 xs))
    ∙ ap₂ (λ (a b : List ℕ). a ++ b) (four_bytes offset) (four_bytes size)
