-- What callers take from their first checks: a refusal of theirs is the call's, and past them none applies.
use mathlib.Core.Path.{◌≡◌, refl, sym, ap}
use mathlib.Core.Logic.{◌≢◌, inl, inr}
use mathlib.Core.List.{List, [], ◌∷◌, ◌++◌}
use Prim.Native.Nat.{ℕ}
use native.Mathlib.Omega.{arith}
use Rattle.code.specs.Numbers.{Check, input_checks, size_checks, image_checks, First, Passed}
use Rattle.code.specs.Answers.{refused_of}
use Rattle.code.specs.Calls.{Result, plain, Refused, Answered}
use Rattle.code.specs.declared.answer.Refusal.{Refusal}
use Rattle.code.specs.declared.answer.Refusal.TheVariants.{BlockCount, InputLength, OutputLength, BadCell, FlagWord, TooMany, NoRecord, Padding, Table, File, Room, Ceiling}
use Rattle.code.proofs.Numbers.{first_after, Avoids, answer_of}
use Rattle.checks.specs.First.{FirstAnswer}

-- ## A refusal

-- It has a number.
pub numbered : (e : Refusal) → (refused_of e).answer ≢ 0
numbered BlockCount = omega arith
numbered InputLength = omega arith
numbered OutputLength = omega arith
numbered (BadCell index) = omega arith
numbered FlagWord = omega arith
numbered TooMany = omega arith
numbered NoRecord = omega arith
numbered Padding = omega arith
numbered Table = omega arith
numbered File = omega arith
numbered Room = omega arith
numbered Ceiling = omega arith

-- It is that of the first check that applies of a longer list, too, and says what is right.
pub refuses : (cs ds : List {1} Check) (e : Refusal) (right : Check → Type 0) (rest : Type 0) →
    ((c : Check) → refused_of e ≡ plain c.number c.detail → right c) → FirstAnswer cs (refused_of e) → First (cs ++ ds) right rest
refuses [] ds e right rest h f = absurd (numbered e (ap answer_of f))
refuses (c ∷ cs) ds e right rest h (inl a) = inl (a.0, h c a.1)
refuses (c ∷ cs) ds e right rest h (inr a) = inr (a.0, refuses cs ds e right rest h a.1)

-- The call answers it and leaves the output as it came.
pub refuses_call : (cs ds : List {1} Check) (e : Refusal) (done : Result → List ℕ → Type 0) (before : List ℕ) → FirstAnswer cs (refused_of e) →
    Answered (cs ++ ds) done before (refused_of e) before
refuses_call cs ds e done before =
    refuses cs ds e (Refused (refused_of e) before before) (done (refused_of e) before) (λ c r. record { result = r; output = refl })

-- ## One check more

module _ (cs : List {1} Check) (c : Check) (r : Result) (p : Passed cs) where
  pub next_refuses : c.applies → r ≡ plain c.number c.detail → FirstAnswer (cs ++ (c ∷ [])) r
  next_refuses a e = first_after cs (c ∷ []) (λ c. r ≡ plain c.number c.detail) (r ≡ plain 0 0) p (inl (a, e))

  pub next_passes : ¬ c.applies → r ≡ plain 0 0 → FirstAnswer (cs ++ (c ∷ [])) r
  next_passes d e = first_after cs (c ∷ []) (λ c. r ≡ plain c.number c.detail) (r ≡ plain 0 0) p (inr (d, e))

-- ## None

-- Past checks that answer 0 none applies.
pub passes : (cs : List {1} Check) → Avoids 0 cs → FirstAnswer cs (plain 0 0) → Passed cs
passes [] v f = tt
passes (c ∷ cs) v (inl a) = absurd (v.0 (sym (ap answer_of a.1)))
passes (c ∷ cs) v (inr a) = (a.0, passes cs v.1 a.1)

-- Of the lists that calls share.
pub input_passes : (n wanted input : ℕ) → FirstAnswer (input_checks n wanted input) (plain 0 0) → Passed (input_checks n wanted input)
input_passes n wanted input = passes (input_checks n wanted input) (omega arith)

pub size_passes : (n wanted input size output : ℕ) → FirstAnswer (size_checks n wanted input size output) (plain 0 0) →
    Passed (size_checks n wanted input size output)
size_passes n wanted input size output = passes (size_checks n wanted input size output) (omega arith)

pub image_passes : (values n wanted : ℕ) (image : List ℕ) (size output : ℕ) → FirstAnswer (image_checks values n wanted image size output) (plain 0 0) →
    Passed (image_checks values n wanted image size output)
image_passes values n wanted image size output = passes (image_checks values n wanted image size output) (omega arith)
