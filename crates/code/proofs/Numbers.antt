-- Laws of the checks: a list of cells that all have a value has no bad cell, and checks that do not apply are passed by.
use mathlib.Core.Path.{◌≡◌, refl, sym, ap}
use mathlib.Core.Logic.{inl, inr, ◌≢◌, ◌↔◌, by_cases}
use mathlib.Core.Bool.{Bool, true, false}
use mathlib.Core.List.{List, [], ◌∷◌, ◌++◌}
use Prim.Native.Nat.{ℕ, zero, suc, ◌<◌, ◌≤◌}
use native.Mathlib.Decide.{dec_lt, ℕ_discrete}
use native.Mathlib.Omega.{arith}
use lib.Dec.{ltb}
use lib.ListN.{length, get_or}
use borrow.Author.Tests.{lt-ltb, le-ltb, ltb-true}
use Rattle.code.specs.Reach.{pick}
use Rattle.code.specs.Calls.{Result, plain, Refused, Answered}
use Rattle.code.specs.Numbers.{Check, input_checks, First, Passed, first_bad}

-- Where the first i cells have these values and cell i does not, the first bad cell is i.
pub first_bad_at : (v : ℕ) (xs : List ℕ) (i : ℕ) → i < length xs → ((k : ℕ) → k < i → get_or xs k 0 < v) → v ≤ get_or xs i 0 → first_bad v xs ≡ i
unfolding first_bad
first_bad_at v [] i h below bad = absurd (omega arith)
first_bad_at v (x ∷ xs) zero h below bad = rw (le-ltb _ _ bad)
first_bad_at v (x ∷ xs) (suc i) h below bad =
    let first : x < v = below zero (omega arith) in
    rw (lt-ltb _ _ first) (ap suc (first_bad_at v xs i (omega arith) (λ k l. below (suc k) (omega arith)) bad))

-- Where all cells have them there is none.
pub first_bad_none : (v : ℕ) (xs : List ℕ) → ((k : ℕ) → k < length xs → get_or xs k 0 < v) → first_bad v xs ≡ length xs
unfolding first_bad
first_bad_none v [] h = refl
first_bad_none v (x ∷ xs) h =
    let first : x < v = h zero (omega arith) in
    rw (lt-ltb _ _ first) (ap suc (first_bad_none v xs (λ k l. h (suc k) (omega arith))))

-- All cells before the first bad one have them.
pub first_bad_before : (v : ℕ) (xs : List ℕ) (k : ℕ) → k < first_bad v xs → get_or xs k 0 < v
unfolding first_bad
first_bad_before v [] k h = absurd (omega arith)
first_bad_before v (x ∷ xs) k h = go k (ltb x v) refl h (first_bad_before v xs)
  where
    go : (k : ℕ) (b : Bool) → ltb x v ≡ b → k < pick b (suc (first_bad v xs)) 0 → ((k : ℕ) → k < first_bad v xs → get_or xs k 0 < v) → get_or (x ∷ xs) k 0 < v
    go k false e h rest = absurd (omega arith)
    go zero true e h rest = ltb-true _ _ e
    go (suc k) true e h rest = rest k (omega arith)

-- Where 1 and 2 do not apply, the count and the length are right.
module _ (n wanted input : ℕ) (p : Passed (input_checks n wanted input)) where
  pub passed_few : n ≤ 256
  passed_few = by_cases (dec_lt 256 n) (λ h. absurd (p.0 h)) (λ h. omega arith)

  pub passed_exact : input ≡ wanted
  passed_exact = by_cases (ℕ_discrete input wanted) (λ e. e) (λ d. absurd (p.1.0 d))

-- A list of checks that all do not apply says what the rest does.
pub first_passed : (cs : List {1} Check) (right : Check → Type 0) (rest : Type 0) → Passed cs → rest → First cs right rest
first_passed [] right rest p r = r
first_passed (c ∷ cs) right rest p r = inr (p.0, first_passed cs right rest p.1 r)

-- And what it says then is what the rest does.
pub first_rest : (cs : List {1} Check) (right : Check → Type 0) (rest : Type 0) → Passed cs → First cs right rest → rest
first_rest [] right rest p f = f
first_rest (c ∷ cs) right rest p (inl a) = absurd (p.0 a.0)
first_rest (c ∷ cs) right rest p (inr a) = first_rest cs right rest p.1 a.1

-- Of two lists one after the other, both are passed.
pub passed_both : (cs ds : List {1} Check) → Passed (cs ++ ds) → Passed cs × Passed ds
passed_both [] ds p = (tt, p)
passed_both (c ∷ cs) ds p = let q = passed_both cs ds p.1 in ((p.0, q.0), q.1)

pub passed_append : (cs ds : List {1} Check) → Passed cs → Passed ds → Passed (cs ++ ds)
passed_append [] ds p q = q
passed_append (c ∷ cs) ds p q = (p.0, passed_append cs ds p.1 q)

-- So is the last.
pub passed_last : (cs : List {1} Check) (c : Check) → Passed (cs ++ (c ∷ [])) → ¬ c.applies
passed_last cs c p = (passed_both cs (c ∷ []) p).1.0

-- The checks of two lists, one after the other.
pub first_append : (cs ds : List {1} Check) (right : Check → Type 0) (rest : Type 0) → First (cs ++ ds) right rest → First cs right (First ds right rest)
first_append [] ds right rest f = f
first_append (c ∷ cs) ds right rest (inl a) = inl a
first_append (c ∷ cs) ds right rest (inr a) = inr (a.0, first_append cs ds right rest a.1)

pub first_join : (cs ds : List {1} Check) (right : Check → Type 0) (rest : Type 0) → First cs right (First ds right rest) → First (cs ++ ds) right rest
first_join [] ds right rest f = f
first_join (c ∷ cs) ds right rest (inl a) = inl a
first_join (c ∷ cs) ds right rest (inr a) = inr (a.0, first_join cs ds right rest a.1)

-- Past the same checks, another rest.
pub first_map : (cs : List {1} Check) (right : Check → Type 0) (rest rest' : Type 0) → (rest → rest') → First cs right rest → First cs right rest'
first_map [] right rest rest' h f = h f
first_map (c ∷ cs) right rest rest' h (inl a) = inl a
first_map (c ∷ cs) right rest rest' h (inr a) = inr (a.0, first_map cs right rest rest' h a.1)

-- A check that does not apply can be left out.
pub first_without : (cs : List {1} Check) (c : Check) (ds : List {1} Check) (right : Check → Type 0) (rest : Type 0) → ¬ c.applies →
    First (cs ++ (c ∷ ds)) right rest ↔ First (cs ++ ds) right rest
first_without cs c ds right rest off = (
  λ f. first_join cs ds right rest (first_map cs right _ _ drop (first_append cs (c ∷ ds) right rest f)),
  λ f. first_join cs (c ∷ ds) right rest (first_map cs right _ _ (λ a. inr (off, a)) (first_append cs ds right rest f)),
)
  where
    drop : First (c ∷ ds) right rest → First ds right rest
    drop (inl a) = absurd (off a.0)
    drop (inr a) = a.1

-- Past the first list, the second says what is right.
pub first_after : (cs ds : List {1} Check) (right : Check → Type 0) (rest : Type 0) → Passed cs → First ds right rest → First (cs ++ ds) right rest
first_after [] ds right rest p f = f
first_after (c ∷ cs) ds right rest p f = inr (p.0, first_after cs ds right rest p.1 f)

-- ## What a call answers

abbrev pub answer_of : Result → ℕ
answer_of r = r.answer

-- Every check of a list has this.
abbrev pub Each : (Check → Type 0) → List {1} Check → Type 0
Each P [] = Unit {0}
Each P (c ∷ cs) = P c × Each P cs

pub each_append : (P : Check → Type 0) (cs ds : List {1} Check) → Each P cs → Each P ds → Each P (cs ++ ds)
each_append P [] ds p q = q
each_append P (c ∷ cs) ds p q = (p.0, each_append P cs ds p.1 q)

pub each_map : (cs : List {1} Check) {P Q : Check → Type 0} → ((c : Check) → P c → Q c) → Each P cs → Each Q cs
each_map [] h e = tt
each_map (c ∷ cs) h e = (h c e.0, each_map cs h e.1)

-- What follows from every check's refusal, and from the rest once the checks are passed, follows.
pub first_each : (cs : List {1} Check) (right : Check → Type 0) {rest goal : Type 0} →
    Each (λ c. right c → goal) cs → (Passed cs → rest → goal) → First cs right rest → goal
first_each [] right each past f = past tt f
first_each (c ∷ cs) right each past (inl a) = each.0 a.1
first_each (c ∷ cs) right each past (inr a) = first_each cs right each.1 (λ p. past (a.0, p)) a.1

-- What holds of each refusal and of the answers past the checks holds of every answer.
pub answered : (P : Result → List ℕ → Type 0) (cs : List {1} Check) (done : Result → List ℕ → Type 0) (before : List ℕ) (r : Result) (after : List ℕ) →
    Each (λ c. P (plain c.number c.detail) before) cs → (done r after → P r after) → Answered cs done before r after → P r after
answered P cs done before r after each h = first_each cs (Refused r before after) (each_map cs (λ c p a. rw (a.result, a.output) p) each) (λ p. h)

-- None of the checks has this number.
abbrev pub Avoids : ℕ → List {1} Check → Type 0
Avoids k cs = Each (λ c. c.number ≢ k) cs

-- The checks after the first.
abbrev pub later : List {1} Check → List {1} Check
later [] = []
later (c ∷ cs) = cs

-- The first check's number is given exactly where it applies.
pub first_given : (c : Check) (cs : List {1} Check) (done : Result → List ℕ → Type 0) (before : List ℕ) (r : Result) (after : List ℕ) →
    Avoids c.number cs → (done r after → r.answer ≢ c.number) → Answered (c ∷ cs) done before r after → (r.answer ≡ c.number) ↔ c.applies
first_given c cs done before r after v d (inl a) = (λ e. a.0, λ h. ap answer_of a.1.result)
first_given c cs done before r after v d (inr a) =
    (λ e. absurd (answered (λ q _. q.answer ≢ c.number) cs done before r after v d a.1 e), λ h. absurd (a.0 h))

pub record Through (cs : List {1} Check) (rest : Type 0) : Type 0 where
  pub passed : Passed cs
  pub done : rest

-- A call that answers none of its checks' numbers met none of them.
pub unrefused : (cs : List {1} Check) (r : Result) (before after : List ℕ) (rest : Type 0) → Avoids r.answer cs →
    First cs (Refused r before after) rest → Through cs rest
unrefused cs r before after rest v =
    first_each cs (Refused r before after) (each_map cs (λ c d a. absurd (d (sym (ap answer_of a.result)))) v) (λ p f. record { passed = p; done = f })
