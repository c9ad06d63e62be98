-- The writer's checks entry by entry: what is right for the entries left is right for all of them.
use mathlib.Core.Path.{◌≡◌}
use mathlib.Core.List.{List}
use Prim.Native.Nat.{ℕ, zero, suc, ◌+◌, ◌-◌, ◌<◌}
use native.Mathlib.Omega.{arith}
use lib.ListN.{length, take, drop}
use Rattle.code.specs.Answers.{refused_of}
use Rattle.code.specs.Files.{entry_blocks, entry_size}
use Rattle.code.specs.Numbers.{Passed}
use Rattle.code.specs.Calls.{Result, plain, entry_checks, all_entries_checks}
use Rattle.code.specs.declared.answer.Refusal.{Refusal}
use Rattle.code.proofs.Numbers.{first_after}
use Rattle.checks.specs.First.{FirstAnswer}
use Rattle.checks.proofs.Refusing.{refuses, passes}
use Rattle.writer.proofs.Bytes.{rest_part}

-- So it is for k entries in these bytes.
abbrev pub Onward : ℕ → List ℕ → ℕ → List ℕ → Type 0
Onward count entries k left = (q : Result) → FirstAnswer (all_entries_checks k left) q → FirstAnswer (all_entries_checks count entries) q

module _ (count : ℕ) (entries left : List ℕ) where
  -- The next one is refused, and so are all.
  pub entry_refuses : (k : ℕ) (e : Refusal) → 0 < k → Onward count entries k left → FirstAnswer (entry_checks left) (refused_of e) →
      FirstAnswer (all_entries_checks count entries) (refused_of e)
  entry_refuses zero e h o f = absurd (omega arith)
  entry_refuses (suc k) e h o f =
      o (refused_of e) (refuses (entry_checks left) (all_entries_checks k (drop (entry_size (entry_blocks left)) left)) e
      (λ c. refused_of e ≡ plain c.number c.detail) (refused_of e ≡ plain 0 0) (λ c r. r) f)

  -- It passes, and all behind it are left.
  module _ (f : FirstAnswer (entry_checks left) (plain 0 0)) where
    pub entry_passed : Passed (entry_checks left)
    entry_passed = passes (entry_checks left) (omega arith) f

    pub onward_more : (i size : ℕ) → i < count → Onward count entries (count - i) left → size ≡ entry_size (entry_blocks left) →
        Onward count entries (count - (i + 1)) (take (length left - size) (drop size left))
    onward_more i size h o e q g =
        let more : count - i ≡ suc (count - (i + 1)) = omega arith in
        let behind = drop (entry_size (entry_blocks left)) left in
        (rw more at o) q (first_after (entry_checks left) (all_entries_checks (count - (i + 1)) behind) (λ c. q ≡ plain c.number c.detail) (q ≡ plain 0 0)
        entry_passed (rw (rest_part left size, e) at g))
