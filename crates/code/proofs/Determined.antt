-- The right answers are determined: two that are right for one input are equal, in every returned number and every byte.
use mathlib.Core.Path.{◌≡◌, sym, ap, ◌∙◌}
use mathlib.Core.Logic.{inl, inr}
use mathlib.Core.List.{List, [], ◌∷◌}
use Prim.Native.Nat.{ℕ, ◌*◌}
use Rattle.code.specs.Record.{TrackSet, Shape, base, Cells}
use Rattle.code.specs.Image.{cells}
use Rattle.code.specs.Payload.{payload_size}
use Rattle.code.specs.Packed.{packed_size}
use Rattle.code.specs.Reach.{Extra, AtMostOne}
use Rattle.code.specs.Numbers.{Check, First, Passed}
use Rattle.code.specs.Calls.{Result, Answered, Encodes, ReadOrNot, mended, Mended, Packs, Unpacks, Shown}
use Rattle.code.proofs.Packing.{form_fixed, cell_bits, same_form}
use Rattle.code.proofs.Payloads.{payload_fixed, same_payload}
use Rattle.code.proofs.Places.{cell_lt, same_bytes, same_output}

-- Two answers with their outputs are equal.
pub record Equal (r₁ r₂ : Result) (after₁ after₂ : List ℕ) : Type 0 where
  pub result : r₁ ≡ r₂
  pub output : after₁ ≡ after₂

-- The first check that applies is the same one in both.
pub first_agree : (cs : List {1} Check) {right₁ right₂ : Check → Type 0} {rest₁ rest₂ goal : Type 0} →
    ((c : Check) → right₁ c → right₂ c → goal) → (Passed cs → rest₁ → rest₂ → goal) →
    First cs right₁ rest₁ → First cs right₂ rest₂ → goal
first_agree [] both rest a b = rest tt a b
first_agree (c ∷ cs) both rest (inl a) (inl b) = both c a.1 b.1
first_agree (c ∷ cs) both rest (inl a) (inr b) = absurd (b.0 a.0)
first_agree (c ∷ cs) both rest (inr a) (inl b) = absurd (a.0 b.0)
first_agree (c ∷ cs) both rest (inr a) (inr b) = first_agree cs both (λ p. rest (a.0, p)) a.1 b.1

-- Of a call only what it does past its checks is left to compare.
call_equal : (cs : List {1} Check) (done : Result → List ℕ → Type 0) (before : List ℕ) (r₁ r₂ : Result) (after₁ after₂ : List ℕ) →
    (Passed cs → done r₁ after₁ → done r₂ after₂ → Equal r₁ r₂ after₁ after₂) →
    Answered cs done before r₁ after₁ → Answered cs done before r₂ after₂ → Equal r₁ r₂ after₁ after₂
call_equal cs done before r₁ r₂ after₁ after₂ = first_agree cs (λ c a b. record {
  result = a.result ∙ sym b.result;
  output = a.output ∙ sym b.output;
})

module _ {r₁ r₂ : Result} {before after₁ after₂ : List ℕ} where
  mended_equal : (sh : Shape) (near : Cells → Type 0) (named : List ℕ → TrackSet → Extra) (image : List ℕ) → AtMostOne sh near →
      Mended sh near named image before r₁ after₁ → Mended sh near named image before r₂ after₂ → Equal r₁ r₂ after₁ after₂
  mended_equal sh near named image one (inl a) (inl b) = record { result = a.result ∙ ap (λ (l : List ℕ). mended sh (cells sh image) (cells sh l) (named l)) e ∙ sym b.result; output = e }
    where
      e : after₁ ≡ after₂
      e = same_output sh before after₁ after₂ a.stays b.stays (one _ _ a.good b.good a.reached b.reached)
  mended_equal sh near named image one (inl a) (inr b) = absurd (b.no_record _ a.good a.reached)
  mended_equal sh near named image one (inr a) (inl b) = absurd (a.no_record _ b.good b.reached)
  mended_equal sh near named image one (inr a) (inr b) = record {
    result = a.result ∙ sym b.result;
    output = same_output sh before after₁ after₂ a.stays b.stays (record {
      cell = λ s t m l k. a.copy _ (cell_lt sh s t m l k) ∙ sym (b.copy _ (cell_lt sh s t m l k));
    });
  }

-- ## The calls, of any shape and with any checks

module _ (sh : Shape) (cs : List {1} Check) (before : List ℕ) (r₁ r₂ : Result) (after₁ after₂ : List ℕ) where
  pub encode_determined : (n : ℕ) (payload : List ℕ) → sh.positions ≡ 8 * n →
      Answered cs (Encodes sh n payload before) before r₁ after₁ → Answered cs (Encodes sh n payload before) before r₂ after₂ → Equal r₁ r₂ after₁ after₂
  encode_determined n payload e = call_equal cs (Encodes sh n payload before) before r₁ r₂ after₁ after₂ (λ p a b. record {
    result = a.result ∙ sym b.result;
    output = same_output sh before after₁ after₂ a.stays b.stays
        (same_payload sh n e _ _ a.good b.good payload a.carries b.carries);
  })

  pub read_determined : (n : ℕ) (image : List ℕ) →
      Answered cs (ReadOrNot sh n image before) before r₁ after₁ → Answered cs (ReadOrNot sh n image before) before r₂ after₂ → Equal r₁ r₂ after₁ after₂
  read_determined n image = call_equal cs (ReadOrNot sh n image before) before r₁ r₂ after₁ after₂ (λ p. decided)
    where
      decided : ReadOrNot sh n image before r₁ after₁ → ReadOrNot sh n image before r₂ after₂ → Equal r₁ r₂ after₁ after₂
      decided (inl a) (inl b) = record {
        result = a.1.result ∙ sym b.1.result;
        output = same_bytes (payload_size sh n) before after₁ after₂ a.1.stays b.1.stays
            (payload_fixed sh n _ after₁ after₂ a.1.carries b.1.carries);
      }
      decided (inl a) (inr b) = absurd (b.0 a.0)
      decided (inr a) (inl b) = absurd (a.0 b.0)
      decided (inr a) (inr b) = record { result = a.1.result ∙ sym b.1.result; output = a.1.output ∙ sym b.1.output }

  -- Repair and tracing, where at most one good record is near once the checks are passed.
  pub mend_determined : (near : Cells → Type 0) (named : List ℕ → TrackSet → Extra) (image : List ℕ) → (Passed cs → AtMostOne sh near) →
      Answered cs (Mended sh near named image before) before r₁ after₁ → Answered cs (Mended sh near named image before) before r₂ after₂ → Equal r₁ r₂ after₁ after₂
  mend_determined near named image one = call_equal cs (Mended sh near named image before) before r₁ r₂ after₁ after₂ (λ p. mended_equal sh near named image (one p))

-- Packing and unpacking.
module _ (n : ℕ) (cs : List {1} Check) (before : List ℕ) (r₁ r₂ : Result) (after₁ after₂ : List ℕ) where
  pub pack_determined : (image : List ℕ) →
      Answered cs (Packs n image before) before r₁ after₁ → Answered cs (Packs n image before) before r₂ after₂ → Equal r₁ r₂ after₁ after₂
  pack_determined image = call_equal cs (Packs n image before) before r₁ r₂ after₁ after₂ (λ p a b. record {
    result = a.result ∙ sym b.result;
    output = same_bytes (packed_size n) before after₁ after₂ a.stays b.stays (form_fixed n _ after₁ after₂ a.form b.form);
  })

  pub unpack_determined : (packed : List ℕ) →
      Answered cs (Unpacks n packed before) before r₁ after₁ → Answered cs (Unpacks n packed before) before r₂ after₂ → Equal r₁ r₂ after₁ after₂
  unpack_determined packed = call_equal cs (Unpacks n packed before) before r₁ r₂ after₁ after₂ (λ p a b. record {
    result = a.result ∙ sym b.result;
    output = same_output (base n) before after₁ after₂ a.stays b.stays
        (same_form n _ _ packed (cell_bits n after₁ a.bits) (cell_bits n after₂ b.bits) a.form b.form);
  })

pub view_determined : (cs : List {1} Check) (sh : Shape) (image : List ℕ) (g : ℕ) (part₁ part₂ : List ℕ) → Shown cs sh image g part₁ → Shown cs sh image g part₂ → part₁ ≡ part₂
view_determined cs sh image g part₁ part₂ = first_agree cs (λ (c : Check) (a : part₁ ≡ []) (b : part₂ ≡ []). a ∙ sym b) (λ p a b. a ∙ sym b)
