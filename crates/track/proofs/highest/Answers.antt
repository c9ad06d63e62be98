-- `highest`: every cell is in one of the two parts.
use mathlib.Core.Path.{◌≡◌, sym, ◌∙◌}
use mathlib.Core.Logic.{by_cases}
use mathlib.Core.List.{List}
use Prim.Native.Nat.{ℕ, ◌+◌, ◌-◌, ◌<◌, ◌≤◌, max}
use native.Mathlib.Decide.{dec_lt}
use native.Mathlib.Omega.{arith}
use borrow.Rule.Slice.PartMut.{mid_len}
use borrow.Author.Rules.{rules}
use lib.ListN.{length, get_or, take, drop}
use lib.Seq.{get_or-take, length-take-le}
use Rattle.std.specs.List.{reduce}
use Rattle.std.proofs.lemmas.Iterator.{YieldsList-from_slice}
use Rattle.std.proofs.lemmas.Iterator.Consumers.{max_from_yields_List, YieldsList-from_copied}
use Rattle.std.proofs.lemmas.Iterator.Adapters.{option_map_id}
use Rattle.track.specs.Track.{Highest, HighestTwo}
use Rattle.track.proofs.Cells.{every, highest_max}
use Rattle.track.proofs.Parts.{part_at}
use Rattle.track.proofs.highest.Goals as goal

-- The highest byte of the first h cells and of those from `from` on, where no cell is left out between them.
highest_of_parts : (xs : List ℕ) (h from r : ℕ) → h ≤ length xs → from ≤ h → HighestTwo (take h xs) (take (length xs - from) (drop from xs)) r → Highest xs r
highest_of_parts xs h from r inside meet t = record {
  above = every (λ v. v ≤ r) xs (omega arith) (λ i l. by_cases (dec_lt i h) (λ b. omega (arith, first i b, t.first i)) (λ b. late i l (omega arith)));
  least = λ b bound. t.least b
      (λ i l. let k : i < h = omega (arith, length-take-le h xs inside) in omega (arith, first i k, bound i (omega arith)))
      (λ i l. let k : i < length xs - from = omega (arith, mid_len from (length xs) xs (omega arith)) in omega (arith, last i k, bound (from + i) (omega arith)));
}
  where
    first : (i : ℕ) → i < h → get_or (take h xs) i 0 ≡ get_or xs i 0
    first i = get_or-take h xs i 0

    last : (k : ℕ) → k < length xs - from → get_or (take (length xs - from) (drop from xs)) k 0 ≡ get_or xs (from + k) 0
    last k = part_at xs from (length xs - from) k

    late : (i : ℕ) → i < length xs → from ≤ i → get_or xs i 0 ≤ r
    late i l b =
        let e : from + (i - from) ≡ i = omega arith in
        let c : get_or xs (from + (i - from)) 0 ≤ r = omega (arith, last (i - from) (omega arith), t.second (i - from)) in
        rw e at c

-- As many last cells as first ones.
same_size : (xs : List ℕ) (h : ℕ) → h ≤ length xs → length (take (length xs - (length xs - h)) (drop (length xs - h) xs)) ≡ length (take h xs)
same_size xs h inside = omega (arith, length-take-le h xs inside, mid_len (length xs - h) (length xs) xs (omega arith))

pub returns-then-n-lt32 : goal.returns-then-n-lt32
returns-then-n-lt32 c =
    let s = c.args.s.now in
    let most : c.max.result ≡ reduce max s = sym (option_map_id _) ∙ max_from_yields_List _ _ c.max.ensures.ran (YieldsList-from_copied (YieldsList-from_slice s cc)) in
    rw (c.unwrap_or.ensures, most) (highest_max s)

pub returns : goal.returns
returns c =
    let s = c.args.s.now in
    highest_of_parts s _ (length s - _) _ (search rules) (search rules) c.highest_two.ensures
