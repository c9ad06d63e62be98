-- `first_bad_cell`: where the highest byte is below, none is bad.
use mathlib.Core.Path.{◌≡◌, sym}
use mathlib.Core.List.{List}
use Prim.Native.Nat.{ℕ, ◌<◌, ◌≤◌}
use native.Mathlib.Omega.{arith}
use borrow.Author.Rules.{rules}
use borrow.Author.Tests.{tests}
use lib.ListN.{length}
use Rattle.std.specs.List.{AllWithin, HoldsAt}
use Rattle.std.specs.Prelude.{None, Some}
use Rattle.std.specs.Option.{MatchOption}
use Rattle.std.proofs.lemmas.Iterator.{IsFirst-from_position, YieldsList-from_slice}
use Rattle.code.specs.Numbers.{first_bad}
use Rattle.code.proofs.Numbers.{first_bad_at, first_bad_none}
use Rattle.track.proofs.first_bad_cell.Goals as goal

-- The first bad cell is at the position that is found.
first : (v : ℕ) (xs : List ℕ) (r : _) → MatchOption r (AllWithin (λ x. x < v) xs 0 (length xs)) (λ i. (i < length xs) × HoldsAt (λ x. v ≤ x) xs i × AllWithin (λ x. x < v) xs 0 i) →
    MatchOption r (first_bad v xs ≡ length xs) (λ i. (i ≡ first_bad v xs) × (i < length xs))
first v xs None h = first_bad_none v xs (λ k l. h k 0 (omega arith) l)
first v xs (Some i) h = (sym (first_bad_at v xs i h.0 (λ k l. h.2 k 0 (omega arith) l) (h.1 0)), h.0)

pub returns-then-most-values : goal.returns-then-most-values
returns-then-most-values c = first_bad_none _ _ (λ k l. omega (arith, c.requires.above k))

pub returns : goal.returns
returns c = first _ _ _ (IsFirst-from_position _ _ _ (λ x. c.args.values ≤ x) (λ x. x < c.args.values) c.position.ensures.ran (YieldsList-from_slice c.args.s.now cc) (λ x q k. search (rules, tests)) (λ x q k. search (rules, tests)))
