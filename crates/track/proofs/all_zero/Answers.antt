-- `all_zero`: the highest byte is 0, or each eight and the last one are.
use mathlib.Core.Path.{◌≡◌, refl}
use mathlib.Core.Bool.{Bool, true, false}
use mathlib.Core.Logic.{◌≢◌, by_cases}
use mathlib.Core.List.{List}
use Prim.Native.Nat.{ℕ, ◌+◌, ◌*◌, ◌-◌, ◌/◌, ◌%◌, ◌^◌, ◌<◌, ◌≤◌}
use native.Mathlib.Decide.{dec_lt}
use native.Mathlib.Omega.{arith}
use borrow.Author.Tests.{eqb-true, eqb-false}
use lib.ListN.{length, get_or}
use Rattle.track.specs.Track.{Zeros, Highest}
use Rattle.track.proofs.Cells.{every}
use Rattle.track.proofs.Words.{eight, of_bytes}
use Rattle.track.proofs.all_zero.Goals as goal

by_highest : (xs : List ℕ) (most : ℕ) (r : Bool) → Highest xs most → (r ≡ true → most ≡ 0) → (r ≡ false → most ≢ 0) → Zeros xs r
by_highest xs most r h is is-not = record {
  all = λ t i. omega (arith, is t, h.above i);
  not_all = λ f z. is-not f (omega (arith, h.least 0 (λ i l. omega (arith, z i l))));
}

-- A number is 0 where its eight bytes are.
zero_bytes : (f : ℕ → ℕ) (x : ℕ) → x < 2 ^ 64 → ((k : ℕ) → k < 8 → x / 256 ^ k % 256 ≡ f k) → x ≡ 0 → (k : ℕ) → k < 8 → f k ≡ 0
zero_bytes f x fits is e =
    let sum = of_bytes x f fits is in
    eight _ (omega (arith, sum)) (omega (arith, sum)) (omega (arith, sum)) (omega (arith, sum)) (omega (arith, sum)) (omega (arith, sum)) (omega (arith, sum)) (omega (arith, sum))

zero_of_bytes : (f : ℕ → ℕ) (x : ℕ) → x < 2 ^ 64 → ((k : ℕ) → k < 8 → x / 256 ^ k % 256 ≡ f k) → ((k : ℕ) → k < 8 → f k ≡ 0) → x ≡ 0
zero_of_bytes f x fits is z =
    omega (
      arith,
      of_bytes x f fits is,
      z 0 (omega arith),
      z 1 (omega arith),
      z 2 (omega arith),
      z 3 (omega arith),
      z 4 (omega arith),
      z 5 (omega arith),
      z 6 (omega arith),
      z 7 (omega arith),
    )

-- One of eight cells that are 0.
zero_in : (s : List ℕ) (at : ℕ) → ((k : ℕ) → k < 8 → get_or s (at + k) 0 ≡ 0) → (m : ℕ) → at ≤ m → m < at + 8 → get_or s m 0 ≡ 0
zero_in s at z m l h = let e : at + (m - at) ≡ m = omega arith in rw e at (z (m - at) (omega arith))

pub returns-then-n-lt8 : goal.returns-then-n-lt8
returns-then-n-lt8 c = by_highest _ _ _ c.highest.ensures (eqb-true _ _) (eqb-false _ _)

pub returns-then-n-gt64 : goal.returns-then-n-gt64
returns-then-n-gt64 c = by_highest _ _ _ c.highest-then-n-gt64.ensures (eqb-true _ _) (eqb-false _ _)

pub returns : goal.returns
returns c =
    let l = c.loop-i in
    let s = c.args.s.now in
    let e = c.eight_at-2 in
    let last = λ (z : e.result ≡ 0). zero_in s (length s - 8) (zero_bytes _ _ e.type_inv e.ensures z) in
    record {
      all = λ t. every (λ v. v ≡ 0) s refl (λ m h. by_cases (dec_lt m (8 * l.i)) (l.invariant m) (λ b. last (eqb-true _ _ t) m (omega arith) (omega arith)));
      not_all = λ f z. eqb-false _ _ f (zero_of_bytes _ _ e.type_inv e.ensures (λ k h. z _ (omega arith)));
    }
