-- What the writer's checks say of the bytes that it is given (document 02, note 6).
use mathlib.Core.Path.{◌≡◌}
use mathlib.Core.Logic.{by_cases}
use mathlib.Core.List.{List}
use Prim.Native.Nat.{ℕ, zero, suc, ◌≤◌}
use native.Mathlib.Decide.{dec_lt, ℕ_discrete}
use native.Mathlib.Omega.{arith}
use lib.ListN.{length, drop}
use Rattle.code.specs.Packed.{PaddingSet}
use Rattle.code.specs.Files.{entry_blocks, entry_record, entry_size}
use Rattle.code.specs.Numbers.{Passed}
use Rattle.code.specs.Calls.{entry_checks, all_entries_checks}
use Rattle.code.proofs.Numbers.{passed_both, Each, each_append}

-- The bytes begin with an entry.
pub record Begins (xs : List ℕ) : Type 0 where
  pub head : 6 ≤ length xs
  pub blocks : entry_blocks xs ≤ 256
  pub whole : entry_size (entry_blocks xs) ≤ length xs
  pub unpadded : ¬ PaddingSet (entry_blocks xs) (entry_record xs)

pub entry_begins : (xs : List ℕ) → Passed (entry_checks xs) → Begins xs
entry_begins xs p = record {
  head = by_cases (dec_lt (length xs) 6) (λ h. absurd (p.0 h)) (λ h. omega arith);
  blocks = by_cases (dec_lt 256 (entry_blocks xs)) (λ h. absurd (p.1.0 h)) (λ h. omega arith);
  whole = by_cases (dec_lt (length xs) (entry_size (entry_blocks xs))) (λ h. absurd (p.1.1.0 h)) (λ h. omega arith);
  unpadded = p.1.1.1.0;
}

-- Where the checks of one entry and more are passed, the bytes begin with it, and those of the others are passed by what is left.
module _ (k : ℕ) (xs : List ℕ) (p : Passed (all_entries_checks (suc k) xs)) where
  abbrev rest : List ℕ
  rest = drop (entry_size (entry_blocks xs)) xs

  pub passed_begins : Begins xs
  passed_begins = entry_begins xs (passed_both (entry_checks xs) (all_entries_checks k rest) p).0

  pub passed_next : Passed (all_entries_checks k (drop (entry_size (entry_blocks xs)) xs))
  passed_next = (passed_both (entry_checks xs) (all_entries_checks k rest) p).1

-- Past the last entry no byte is left.
pub passed_end : (xs : List ℕ) → Passed (all_entries_checks 0 xs) → length xs ≡ 0
passed_end xs p = by_cases (ℕ_discrete (length xs) 0) (λ e. e) (λ d. absurd (p.0 d))

-- What holds of 1, 2 and 8 holds of each number that the checks of entries give.
pub entries_each : (P : ℕ → Type 0) → P 1 → P 2 → P 8 → (k : ℕ) (xs : List ℕ) → Each (λ c. P c.number) (all_entries_checks k xs)
entries_each P one two eight zero xs = (two, tt)
entries_each P one two eight (suc k) xs =
    let behind = drop (entry_size (entry_blocks xs)) xs in
    each_append (λ c. P c.number) (entry_checks xs) (all_entries_checks k behind) (two, (one, (two, (eight, tt)))) (entries_each P one two eight k behind)
