-- What the writer answers past its entries' checks: 11, or the file.
use mathlib.Core.Path.{◌≡◌, refl, sym, ap}
use mathlib.Core.Logic.{◌≢◌, inl, inr}
use mathlib.Core.List.{List, [], ◌∷◌, ◌++◌}
use Prim.Native.Nat.{ℕ, ◌+◌}
use native.Mathlib.Omega.{arith}
use lib.ListN.{length, drop}
use Rattle.code.specs.Answers.{refused_of}
use Rattle.code.specs.Files.{directory_size, HasRoom, cut, file_of}
use Rattle.code.specs.Numbers.{Check, fit_check, Passed}
use Rattle.code.specs.Calls.{Result, plain, all_entries_checks, WriteRefused, Writes}
use Rattle.code.specs.Promises.{FileWritten}
use Rattle.code.specs.declared.Written.{Written}
use Rattle.code.specs.declared.answer.Refusal.{Refusal}
use Rattle.code.proofs.Cutting.{entries_each}
use Rattle.code.proofs.Numbers.{first_after}
use Rattle.code.proofs.Files.{length_cut_file}
use Rattle.checks.specs.First.{FirstAnswer}
use Rattle.checks.proofs.Refusing.{refuses, passes}

module _ (count : ℕ) (entries : List ℕ) where
  abbrev early : List {1} Check
  early = all_entries_checks count entries

  -- The entries pass their checks.
  pub entries_passed : FirstAnswer early (plain 0 0) → Passed early
  entries_passed = passes early (entries_each (λ k. k ≢ 0) (omega arith) (omega arith) (omega arith) count entries)

  module _ (before : List ℕ) where
    abbrev fit : Check
    fit = fit_check count (directory_size count + length entries) (length before)

    -- They are refused.
    pub not_written : (e : Refusal) → FirstAnswer early (refused_of e) → FileWritten count entries before (record { answer = (refused_of e).answer; length = 0 }) before
    not_written e f =
        let r : Written = record { answer = (refused_of e).answer; length = 0 } in
        refuses early (fit ∷ []) e (WriteRefused before r before) (Writes (file_of (cut count entries)) before r before)
        (λ c p. record { result = ap (λ (q : Result). record { answer = q.answer; length = 0 }) p; output = refl }) f

    module _ (passed : Passed early) where
      -- 11.
      pub not_fitted : ¬ HasRoom count (directory_size count + length entries) (length before) → FileWritten count entries before (record { answer = 11; length = 0 }) before
      not_fitted n =
          let r : Written = record { answer = 11; length = 0 } in
          first_after early (fit ∷ []) (WriteRefused before r before) (Writes (file_of (cut count entries)) before r before) passed
          (inl (n, record { result = refl; output = refl }))

      -- The file.
      pub file_written : HasRoom count (directory_size count + length entries) (length before) → (file : List ℕ) → file ≡ file_of (cut count entries) →
          FileWritten count entries before (record { answer = 0; length = directory_size count + length entries }) (file ++ drop (directory_size count + length entries) before)
      file_written h file f =
          let r : Written = record { answer = 0; length = directory_size count + length entries } in
          let after = file ++ drop (directory_size count + length entries) before in
          let size = length_cut_file count entries passed in
          first_after early (fit ∷ []) (WriteRefused before r after) (Writes (file_of (cut count entries)) before r after) passed (inr (
            λ n. n h,
            record {
              result = ap (λ l. record { answer = 0; length = l }) (sym size);
              output = rw (f, size);
            },
          ))
