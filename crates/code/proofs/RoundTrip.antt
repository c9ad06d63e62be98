-- What encoder and reader do together (point 2), for any shape of n blocks and any checks.
use mathlib.Core.Path.{◌≡◌, ap}
use mathlib.Core.Logic.{inl, inr, ◌≢◌, by_cases}
use mathlib.Core.List.{List, [], ◌∷◌, ◌++◌}
use Prim.Native.Nat.{ℕ, ◌*◌, ◌<◌, ◌≤◌}
use native.Mathlib.Decide.{dec_lt}
use native.Mathlib.Omega.{arith}
use lib.ListN.{length, get_or, get_or-eq_default}
use Rattle.code.specs.Record.{Shape, Good, Same}
use Rattle.code.specs.Image.{image_size, cells}
use Rattle.code.specs.Payload.{payload_size}
use Rattle.code.specs.Numbers.{Check, cell_check, Decides, Passed}
use Rattle.code.specs.Calls.{Result, plain, Refused, Answered, Encodes, Reads, ReadOrNot}
use Rattle.code.specs.Supply.{Point2}
use Rattle.code.proofs.Linear.{same_sym, good_same}
use Rattle.code.proofs.Numbers.{first_bad_none, first_append, each_append, Avoids, unrefused, answer_of}
use Rattle.code.proofs.Payloads.{payload_fixed, same_payload, carries_same, carried_as}
use Rattle.code.proofs.Places.{each_cell}

-- ## Reader

-- The bytes of a good record are bits.
pub good_bits : (sh : Shape) (image : List ℕ) → length image ≡ image_size sh → Good sh (cells sh image) → (i : ℕ) → get_or image i 0 < 2
good_bits sh image whole good i = by_cases (dec_lt i (length image))
    (λ h. each_cell sh (λ i. get_or image i 0 < 2) good.bits i (omega arith))
    (λ h. rw (get_or-eq_default image 0 {n = i} (omega arith)) (omega arith))

-- It has no bad cell, whatever values beside bits a cell may have.
no_bad_cell : (sh : Shape) (values : ℕ) → 2 ≤ values → (image : List ℕ) → length image ≡ image_size sh → Good sh (cells sh image) → ¬ (cell_check values image).applies
no_bad_cell sh values two image whole good bad =
    omega (arith, first_bad_none values image (λ k l. omega (arith, two, good_bits sh image whole good k)))

module _ (sh : Shape) (n : ℕ) (image before : List ℕ) (r : Result) (after : List ℕ) where
  -- Every good record is read.
  pub read_good : ReadOrNot sh n image before r after → Good sh (cells sh image) → Reads sh n image before r after
  read_good (inl a) g = a.1
  read_good (inr a) g = absurd (a.0 g)

  -- No other image is.
  pub read_0 : ReadOrNot sh n image before r after → r.answer ≡ 0 → Good sh (cells sh image) × Reads sh n image before r after
  read_0 (inl a) z = a
  read_0 (inr a) z = absurd (omega (arith, ap answer_of a.1.result))

-- ## Both

module _ (sh : Shape) (n : ℕ) (blocks : sh.positions ≡ 8 * n) where
  -- What is encoded reads back.
  pub encoded_reads_back : (payload before : List ℕ) (r : Result) (after : List ℕ) → Encodes sh n payload before r after →
      (image room : List ℕ) (q : Result) (out : List ℕ) → Same sh (cells sh image) (cells sh after) → ReadOrNot sh n image room q out →
      (q ≡ plain 0 0) × ((i : ℕ) → i < payload_size sh n → get_or out i 0 ≡ get_or payload i 0)
  encoded_reads_back payload before r after done image room q out same w =
      let found = read_good sh n image room q out w (good_same sh _ _ (same_sym same) done.good) in
      (found.result, payload_fixed sh n (cells sh after) out payload (carries_same sh n blocks _ _ same out found.carries) done.carries)

  -- A record that was read, its payload encoded: the record again.
  pub read_encodes_back : (image before : List ℕ) (r : Result) (after : List ℕ) → ReadOrNot sh n image before r after → r.answer ≡ 0 →
      (payload room : List ℕ) (q : Result) (out : List ℕ) → ((i : ℕ) → i < payload_size sh n → get_or payload i 0 ≡ get_or after i 0) →
      Encodes sh n payload room q out → Same sh (cells sh out) (cells sh image)
  read_encodes_back image before r after w z payload room q out same done =
      let found = read_0 sh n image before r after w z in
      same_payload sh n blocks _ _ done.good found.0 payload done.carries (carried_as sh n _ after payload same found.1.carries)

-- ## Point 2

-- Of an encoder and a reader whose checks give 1 to 3, the reader's bad cells after them.
module _ (sh : Shape) (values : ℕ) (two : 2 ≤ values) (n : ℕ) (encode_checks read_checks : List ℕ → List ℕ → List {1} Check)
    (encode_numbers : (payload before : List ℕ) → Avoids 0 (encode_checks payload before))
    (read_numbers : (image before : List ℕ) (k : ℕ) → k ≢ 1 → k ≢ 2 → k ≢ 3 → Avoids k (read_checks image before))
    (read_size : (image before : List ℕ) → Passed (read_checks image before) → length image ≡ image_size sh) where
  abbrev encoded : List ℕ → List ℕ → Result → List ℕ → Type 0
  encoded payload before = Answered (encode_checks payload before) (Encodes sh n payload before) before

  abbrev was_read : List ℕ → List ℕ → Result → List ℕ → Type 0
  was_read image before = Answered (read_checks image before ++ (cell_check values image ∷ [])) (ReadOrNot sh n image before) before

  -- With answer 0 the checks are passed.
  encodes : (payload before : List ℕ) (r : Result) (after : List ℕ) → encoded payload before r after → r.answer ≡ 0 → Encodes sh n payload before r after
  encodes payload before r after c z = (unrefused (encode_checks payload before) r before after _ (rw z (encode_numbers payload before)) c).done

  reads : (image before : List ℕ) (r : Result) (after : List ℕ) → was_read image before r after → r.answer ≡ 0 → Good sh (cells sh image) × Reads sh n image before r after
  reads image before r after c z = read_0 sh n image before r after (unrefused (read_checks image before ++ (cell_check values image ∷ [])) r before after _
      (each_append _ (read_checks image before) (cell_check values image ∷ []) (read_numbers image before r.answer (omega arith) (omega arith) (omega arith)) (λ e. omega arith, tt)) c).done z

  pub round_trip : Point2 sh n encoded was_read
  round_trip = record {
    equations = λ payload before r after c z. (encodes payload before r after c z).good;
    carried = λ payload before r after c z. (encodes payload before r after c z).carries;
    is_read = λ image before r after c u good.
        let t = unrefused (read_checks image before) r before after _ (read_numbers image before r.answer u.0 u.1.0 u.1.1.0)
        (first_append (read_checks image before) (cell_check values image ∷ []) (Refused r before after) (ReadOrNot sh n image before r after) c) in
        past image before r after (read_size image before t.passed) good t.done;
    reads_back = λ image before r after c z payload carries. payload_fixed sh n _ after payload (reads image before r after c z).1.carries carries;
    no_other = λ image before r after c z. (reads image before r after c z).0;
  }
    where
      past : (image before : List ℕ) (r : Result) (after : List ℕ) → length image ≡ image_size sh → Good sh (cells sh image) →
          Decides (cell_check values image).applies (Refused r before after (cell_check values image)) (ReadOrNot sh n image before r after) → r.answer ≡ 0
      past image before r after whole good (inl a) = absurd (no_bad_cell sh values two image whole good a.0)
      past image before r after whole good (inr a) = ap answer_of (read_good sh n image before r after a.1 good).result
