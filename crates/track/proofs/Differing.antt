-- The number of places at which two lists differ, a part after another.
use mathlib.Core.Path.{◌≡◌, ap, ap₂, sym, ◌∙◌}
use mathlib.Core.Bool.{Bool, true, false}
use mathlib.Core.List.{List}
use Prim.Native.Nat.{ℕ, zero, suc, ◌+◌, ◌-◌, ◌≤◌}
use native.Mathlib.Omega.{arith}
use borrow.Rule.Slice.PartMut.{mid_len}
use lib.Dec.{eqb}
use lib.ListN.{length, get_or, take, drop}
use Rattle.code.specs.Record.{sum}
use Rattle.code.specs.Reach.{pick}
use Rattle.code.specs.Calls.{differ}
use Rattle.code.proofs.Sums.{sum_same}
use Rattle.code.proofs.Masks.{sum_append}
use Rattle.track.specs.Track.{differing}
use Rattle.track.proofs.Parts.{part_at}

-- Do two lists differ at place m?
abbrev pub differs : List ℕ → List ℕ → ℕ → ℕ
differs xs ys m = differ (get_or xs m 0) (get_or ys m 0)

differ_le : (x y : ℕ) → differ x y ≤ 1
differ_le x y = go (eqb x y)
  where
    go : (b : Bool) → pick b 0 1 ≤ 1
    go true = omega arith
    go false = omega arith

-- No more than there are.
pub differing_le : (n : ℕ) (xs ys : List ℕ) → sum n (differs xs ys) ≤ n
unfolding sum
differing_le zero xs ys = omega arith
differing_le (suc n) xs ys = omega (arith, differing_le n xs ys, differ_le (get_or xs n 0) (get_or ys n 0))

-- The first `at` places and the part up to `end` are the first `end`.
pub differing_on : (xs ys : List ℕ) (at end last : ℕ) → at ≤ end → end ≤ length xs → length ys ≡ length xs → last ≡ end →
    sum at (differs xs ys) + differing (take (end - at) (drop at xs)) (take (last - at) (drop at ys)) ≡ sum end (differs xs ys)
unfolding differing
differing_on xs ys at end last order inside same is = sym (ap (λ n. sum n (differs xs ys)) whole ∙ sum_append at (end - at) (differs xs ys) ∙ ap (λ n. sum at (differs xs ys) + n) part)
  where
    whole : end ≡ at + (end - at)
    whole = omega arith

    part : sum (end - at) (λ m. differs xs ys (at + m)) ≡ sum (length (take (end - at) (drop at xs))) (differs (take (end - at) (drop at xs)) (take (last - at) (drop at ys)))
    part = sum_same (end - at) _ _ (λ m h. ap₂ differ (sym (part_at xs at (end - at) m h)) (sym (part_at ys at (last - at) m (omega arith)))) ∙ ap (λ n. sum n (differs (take (end - at) (drop at xs)) (take (last - at) (drop at ys)))) (sym (mid_len at end xs inside))
