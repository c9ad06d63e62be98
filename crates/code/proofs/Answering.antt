-- Point 1, for any shape and any checks: which numbers a call gives, and what they leave in the output.
use mathlib.Core.Path.{◌≡◌, refl, ap, ◌∙◌}
use mathlib.Core.Logic.{inl, inr, ◌≢◌}
use mathlib.Core.List.{List, [], ◌∷◌}
use Prim.Native.Nat.{ℕ, ◌<◌, ◌≤◌}
use native.Mathlib.Omega.{arith}
use lib.ListN.{length, get_or}
use Rattle.code.specs.Record.{TrackSet, Shape, Cells}
use Rattle.code.specs.Image.{image_size}
use Rattle.code.specs.Payload.{payload_size}
use Rattle.code.specs.Reach.{Extra}
use Rattle.code.specs.Numbers.{Check, cell_check, size_checks, image_checks}
use Rattle.code.specs.Calls.{Result, plain, Answered, Stays, ReadOrNot, Mended}
use Rattle.code.proofs.Numbers.{Each, each_append, answered, answer_of}

abbrev detail_of : Result → ℕ
detail_of r = r.detail

-- `own` are the call's answers, `seven` is what 7 leaves, `size` the result's size, and `before` the output as it came.
pub record Leaves (own : ℕ → Type 0) (seven : List ℕ → Type 0) (size : ℕ) (before : List ℕ) (r : Result) (after : List ℕ) : Type 0 where
  pub answer : r.answer ≤ 12
  pub own_answer : own r.answer
  pub untouched : r.answer ≢ 0 → r.answer ≢ 7 → after ≡ before
  pub at_seven : r.answer ≡ 7 → seven after
  pub later : Stays size before after
  pub no_detail : r.answer ≢ 4 → r.detail ≡ 0

unchanged : (size : ℕ) (before : List ℕ) → Stays size before before
unchanged size before = record { lengths = refl; later = λ i h. refl }

module _ (own : ℕ → Type 0) (seven : List ℕ → Type 0) (size : ℕ) (before : List ℕ) where
  -- A check's number.
  abbrev pub Refusal : Check → Type 0
  Refusal c = Leaves own seven size before (plain c.number c.detail) before

  pub refusal : (k d : ℕ) → k ≤ 12 → k ≢ 7 → own k → (k ≢ 4 → d ≡ 0) → Leaves own seven size before (plain k d) before
  refusal k d l u o z = record {
    answer = omega arith;
    own_answer = o;
    untouched = λ p q. refl;
    at_seven = λ e. absurd (u e);
    later = unchanged size before;
    no_detail = z;
  }

  -- 1 to 3, and 1 to 4.
  pub sizes : (n wanted input result output : ℕ) → own 1 → own 2 → own 3 → Each Refusal (size_checks n wanted input result output)
  sizes n wanted input result output a b c = (
    refusal 1 0 (omega arith) (omega arith) a (λ d. refl),
    (refusal 2 0 (omega arith) (omega arith) b (λ d. refl), (refusal 3 0 (omega arith) (omega arith) c (λ d. refl), tt)),
  )

  pub images : (values n wanted : ℕ) (image : List ℕ) (result output : ℕ) → own 1 → own 2 → own 3 → own 4 → Each Refusal (image_checks values n wanted image result output)
  images values n wanted image result output a b c d = each_append Refusal (size_checks n wanted (length image) result output) (cell_check values image ∷ [])
      (sizes n wanted (length image) result output a b c) (refusal 4 _ (omega arith) (omega arith) d (λ e. absurd (e refl)), tt)

  -- An answer past the checks: 0 or 7.
  past : (r : Result) (after : List ℕ) (k : ℕ) → k ≤ 12 → (k ≢ 0 → k ≢ 7 → ⊥) → r.answer ≡ k → r.detail ≡ 0 → own k → (k ≡ 7 → seven after) →
      Stays size before after → Leaves own seven size before r after
  past r after k l ends e d o left s = record {
    answer = omega arith;
    own_answer = rw e o;
    untouched = λ p q. absurd (ends (λ z. p (e ∙ z)) (λ z. q (e ∙ z)));
    at_seven = λ z. left (omega arith);
    later = s;
    no_detail = λ n. d;
  }

-- ## The calls

-- The first bytes are a copy of the image.
abbrev pub Copy : Shape → List ℕ → List ℕ → Type 0
Copy sh image bytes = (i : ℕ) → i < image_size sh → get_or bytes i 0 ≡ get_or image i 0

module _ (sh : Shape) (own : ℕ → Type 0) (cs : List {1} Check) (before : List ℕ) (r : Result) (after : List ℕ) where
  -- Whose one answer past the checks is 0, with nothing changed.
  pub plain_leaves : (done : Result → List ℕ → Type 0) (seven : List ℕ → Type 0) (size : ℕ) → own 0 → Each (Refusal own seven size before) cs →
      (done r after → (r ≡ plain 0 0) × Stays size before after) → Answered cs done before r after → Leaves own seven size before r after
  plain_leaves done seven size o each ends = answered (Leaves own seven size before) cs done before r after each
      (λ a. past own seven size before r after 0 (omega arith) (λ p q. p refl) (ap answer_of (ends a).0) (ap detail_of (ends a).0) o (λ z. absurd (omega arith)) (ends a).1)

  pub read_leaves : (n : ℕ) (image : List ℕ) → own 0 → own 7 → Each (Refusal own (λ bytes. bytes ≡ before) (payload_size sh n) before) cs →
      Answered cs (ReadOrNot sh n image before) before r after → Leaves own (λ bytes. bytes ≡ before) (payload_size sh n) before r after
  read_leaves n image o p each = answered (Leaves own (λ bytes. bytes ≡ before) (payload_size sh n) before) cs (ReadOrNot sh n image before) before r after each go
    where
      go : ReadOrNot sh n image before r after → Leaves own (λ bytes. bytes ≡ before) (payload_size sh n) before r after
      go (inl a) = past own (λ bytes. bytes ≡ before) (payload_size sh n) before r after 0 (omega arith) (λ p q. p refl) (ap answer_of a.1.result) (ap detail_of a.1.result) o (λ z. absurd (omega arith)) a.1.stays
      go (inr a) = past own (λ bytes. bytes ≡ before) (payload_size sh n) before r after 7 (omega arith) (λ p q. q refl) (ap answer_of a.1.result) (ap detail_of a.1.result) p (λ z. a.1.output)
          (rw a.1.output (unchanged (payload_size sh n) before))

  pub mend_leaves : (near : Cells → Type 0) (named : List ℕ → TrackSet → Extra) (image : List ℕ) → own 0 → own 7 →
      Each (Refusal own (Copy sh image) (image_size sh) before) cs → Answered cs (Mended sh near named image before) before r after →
      Leaves own (Copy sh image) (image_size sh) before r after
  mend_leaves near named image o p each = answered (Leaves own (Copy sh image) (image_size sh) before) cs (Mended sh near named image before) before r after each go
    where
      go : Mended sh near named image before r after → Leaves own (Copy sh image) (image_size sh) before r after
      go (inl a) = past own (Copy sh image) (image_size sh) before r after 0 (omega arith) (λ p q. p refl) (ap answer_of a.result) (ap detail_of a.result) o (λ z. absurd (omega arith)) a.stays
      go (inr a) = past own (Copy sh image) (image_size sh) before r after 7 (omega arith) (λ p q. q refl) (ap answer_of a.result) (ap detail_of a.result) p (λ z. a.copy)
          a.stays
