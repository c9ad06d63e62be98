-- The supply: whatever the contracts allow has the three points, and returns what the documents say. That packing and unpacking undo
-- each other is in proofs/Undoing.
use mathlib.Core.Path.{◌≡◌, refl, sym, ap}
use mathlib.Core.Logic.{inl, inr, ⊎_elim, ◌≢◌, ◌↔◌}
use mathlib.Core.List.{List, [], ◌∷◌, ◌++◌}
use Prim.Native.Nat.{ℕ, ◌<◌, ◌≤◌}
use native.Mathlib.Omega.{arith}
use lib.ListN.{length}
use Rattle.code.specs.Record.{base}
use Rattle.code.specs.Image.{image_size}
use Rattle.code.specs.Flags.{TrackFlags}
use Rattle.code.specs.Payload.{payload_size}
use Rattle.code.specs.Lost.{bit_values, read_values}
use Rattle.code.specs.Reach.{none, cautious, within}
use Rattle.code.specs.Spans.{Table, span_flags}
use Rattle.code.specs.Packed.{packed_size}
use Rattle.code.specs.Numbers.{Check, count_check, room_check, flag_check, reach_check, padding_check, table_check, window_check, input_checks, size_checks, image_checks}
use Rattle.code.specs.Calls.{
  Result,
  plain,
  Answered,
  encode_checks,
  Encodes,
  read_checks,
  ReadOrNot,
  early_checks,
  ceiling_checks,
  RepairNear,
  Repairs,
  span_checks,
  pack_checks,
  Packs,
  unpack_checks,
  Unpacks,
}
use Rattle.code.specs.Promises.{Encoded, WasRead, call_flags}
use Rattle.code.specs.Supply.{
  MetNone,
  Mending,
  repair,
  trace,
  Input,
  encode,
  read,
  mend,
  mend_spans,
  pack,
  unpack,
  Right,
  output_before,
  OwnAnswer,
  result_size,
  LeftBy7,
  Point1,
  Point2,
  near_by,
  MendPoint3,
  SpanPoint3,
  MendValues,
  block_count,
}
use Rattle.code.proofs.Answering.{Leaves, Refusal, refusal, sizes, images, plain_leaves, read_leaves, mend_leaves}
use Rattle.code.proofs.Determined.{Equal, encode_determined, read_determined, pack_determined, unpack_determined}
use Rattle.code.proofs.Extras.{ExtrasNumbered, plain_answers_numbered, read_numbered, values_numbered, unnamed_numbered}
use Rattle.code.proofs.Mending.{names_by, Mends, mending_fixed, mending_demanded, mending_values}
use Rattle.code.proofs.Numbers.{passed_exact, passed_both, answer_of, Each, Avoids, each_append, later, first_given}
use Rattle.code.proofs.RoundTrip.{round_trip}
use Rattle.code.proofs.Stretches.{spans_fixed, span_point_3, span_values}

-- ## The contracts

-- The checks of repair and tracing before that of the flags: tracing with a ceiling has one more.
abbrev own_checks : Mending → List {1} Check
own_checks repair = []
own_checks (trace way) = ceiling_checks way

abbrev mend_checks : Mending → ℕ → ℕ → List ℕ → List ℕ → List {1} Check
mend_checks way n flags image before = early_checks read_values (base n) n flags image (length before) ++ own_checks way

-- They are all of the form of proofs/Mending.
mends : (way : Mending) (n flags : ℕ) (image before : List ℕ) (r : Result) (after : List ℕ) → Right (mend way n flags image before) r after →
    let f = call_flags n flags image in
    Answered (mend_checks way n flags image before ++ (reach_check (base n) f ∷ [])) (Mends way (base n) f image before) before r after
mends repair n flags image before r after c = c
mends (trace cautious) n flags image before r after c = c
mends (trace (within ceiling)) n flags image before r after c = c

-- Their numbers are 1 to 5 and 12.
mend_avoids : (way : Mending) (n flags : ℕ) (image before : List ℕ) (k : ℕ) → Avoids k (early_checks read_values (base n) n flags image (length before)) → k ≢ 12 →
    Avoids k (mend_checks way n flags image before)
mend_avoids way n flags image before k early d = each_append (λ c. c.number ≢ k) (early_checks read_values (base n) n flags image (length before)) (own_checks way) early (own way)
  where
    own : (way : Mending) → Avoids k (own_checks way)
    own repair = tt
    own (trace cautious) = tt
    own (trace (within ceiling)) = (λ e. d (sym e), tt)

determined : (input : Input) (r other : Result) (after bytes : List ℕ) → Right input r after → Right input other bytes → Equal other r bytes after
determined (encode n payload before) r other after bytes c d =
    encode_determined (base n) (encode_checks (base n) n payload before) before other r bytes after n payload refl d c
determined (read n image before) r other after bytes c d =
    read_determined (base n) (read_checks read_values (base n) n image before) before other r bytes after n image d c
determined (mend way n flags image before) r other after bytes c d =
    mending_fixed way (base n) refl (call_flags n flags image) (mend_checks way n flags image before) image before r after
    (mends way n flags image before r after c) other bytes (mends way n flags image before other bytes d)
determined (mend_spans n table image before) r other after bytes c d = spans_fixed n table image before r other after bytes c d
determined (pack n image before) r other after bytes c d = pack_determined n (pack_checks n image before) before other r bytes after image d c
determined (unpack n packed before) r other after bytes c d = unpack_determined n (unpack_checks n packed before) before other r bytes after packed d c

-- ## Point 1

-- Every call that changes an image gives 0 to 7; that with a ceiling also 12.
own_seven : (way : Mending) (n flags : ℕ) (image before : List ℕ) (k : ℕ) → k ≤ 7 → OwnAnswer (mend way n flags image before) k
own_seven repair n flags image before k l = l
own_seven (trace cautious) n flags image before k l = l
own_seven (trace (within ceiling)) n flags image before k l = inl l

-- What 12 leaves.
own_refusals : (way : Mending) (n flags : ℕ) (image before : List ℕ) → let input = mend way n flags image before in
    Each (Refusal (OwnAnswer input) (LeftBy7 input) (image_size (base n)) before) (own_checks way)
own_refusals repair n flags image before = tt
own_refusals (trace cautious) n flags image before = tt
own_refusals (trace (within ceiling)) n flags image before =
    let input = mend (trace (within ceiling)) n flags image before in
    (refusal (OwnAnswer input) (LeftBy7 input) (image_size (base n)) before 12 0 (omega arith) (omega arith) (inr refl) (λ e. refl), tt)

leaves : (input : Input) (r : Result) (after : List ℕ) → Right input r after →
    Leaves (OwnAnswer input) (LeftBy7 input) (result_size input) (output_before input) r after
leaves (encode n payload before) r after =
    let sh = base n in
    let input = encode n payload before in
    plain_leaves sh (OwnAnswer input) (encode_checks sh n payload before) before r after (Encodes sh n payload before) (LeftBy7 input) (image_size sh) (omega arith)
    (sizes (OwnAnswer input) (LeftBy7 input) (image_size sh) before n (payload_size sh n) (length payload) (image_size sh) (length before) (omega arith) (omega arith) (omega arith))
    (λ a. (a.result, a.stays))
leaves (read n image before) r after =
    let sh = base n in
    let own = OwnAnswer (read n image before) in
    read_leaves sh own (read_checks read_values sh n image before) before r after n image (inl (omega arith)) (inr refl)
    (images own (λ bytes. bytes ≡ before) (payload_size sh n) before read_values n (image_size sh) image (payload_size sh n) (length before)
    (inl (omega arith)) (inl (omega arith)) (inl (omega arith)) (inl (omega arith)))
leaves (mend way n flags image before) r after =
    let sh = base n in
    let f = call_flags n flags image in
    let input = mend way n flags image before in
    let own = own_seven way n flags image before in
    let number : (k : ℕ) → k ≤ 6 → Leaves (OwnAnswer input) (LeftBy7 input) (image_size sh) before (plain k 0) before
    = λ k l. refusal (OwnAnswer input) (LeftBy7 input) (image_size sh) before k 0 (omega arith) (omega arith) (own k (omega arith)) (λ e. refl) in
    let refuses = Refusal (OwnAnswer input) (LeftBy7 input) (image_size sh) before in
    λ c. mend_leaves sh (OwnAnswer input) (mend_checks way n flags image before ++ (reach_check sh f ∷ [])) before r after (near_by way sh f image) (names_by way sh f image) image (own 0 (omega arith)) (own 7 (omega arith))
    (each_append refuses (mend_checks way n flags image before) (reach_check sh f ∷ [])
    (each_append refuses (early_checks read_values sh n flags image (length before)) (own_checks way)
    (each_append refuses (image_checks read_values n (image_size sh) image (image_size sh) (length before)) (flag_check sh flags ∷ [])
    (images (OwnAnswer input) (LeftBy7 input) (image_size sh) before read_values n (image_size sh) image (image_size sh) (length before) (own 1 (omega arith)) (own 2 (omega arith)) (own 3 (omega arith)) (own 4 (omega arith)))
    (number 5 (omega arith), tt))
    (own_refusals way n flags image before))
    (number 6 (omega arith), tt))
    (mends way n flags image before r after c)
leaves (mend_spans n table image before) r after =
    let sh = base n in
    let flag = span_flags sh table image in
    let input = mend_spans n table image before in
    let number : (k : ℕ) → k ≤ 9 → k ≢ 7 → OwnAnswer input k → Leaves (OwnAnswer input) (LeftBy7 input) (image_size sh) before (plain k 0) before
    = λ k l d o. refusal (OwnAnswer input) (LeftBy7 input) (image_size sh) before k 0 (omega arith) d o (λ e. refl) in
    mend_leaves sh (OwnAnswer input) (span_checks read_values sh n table flag image before) before r after (RepairNear sh flag image) (λ _ _. none) image
    (inl (omega arith, omega arith)) (inl (omega arith, omega arith))
    (each_append (Refusal (OwnAnswer input) (LeftBy7 input) (image_size sh) before) (image_checks read_values n (image_size sh) image (image_size sh) (length before)) (table_check (image_size sh) table ∷ window_check sh flag ∷ [])
    (images (OwnAnswer input) (LeftBy7 input) (image_size sh) before read_values n (image_size sh) image (image_size sh) (length before)
    (inl (omega arith, omega arith)) (inl (omega arith, omega arith)) (inl (omega arith, omega arith)) (inl (omega arith, omega arith)))
    (number 9 (omega arith) (omega arith) (inr refl), (number 6 (omega arith) (omega arith) (inl (omega arith, omega arith)), tt)))
leaves (pack n image before) r after =
    let input = pack n image before in
    plain_leaves (base n) (OwnAnswer input) (pack_checks n image before) before r after (Packs n image before) (LeftBy7 input) (packed_size n) (omega arith)
    (images (OwnAnswer input) (LeftBy7 input) (packed_size n) before bit_values n (image_size (base n)) image (packed_size n) (length before) (omega arith) (omega arith) (omega arith) (omega arith))
    (λ a. (a.result, a.stays))
leaves (unpack n packed before) r after =
    let input = unpack n packed before in
    let size = image_size (base n) in
    plain_leaves (base n) (OwnAnswer input) (unpack_checks n packed before) before r after (Unpacks n packed before) (LeftBy7 input) size (inl (omega arith))
    (each_append (Refusal (OwnAnswer input) (LeftBy7 input) size before) (size_checks n (packed_size n) (length packed) size (length before)) (padding_check n packed ∷ [])
    (sizes (OwnAnswer input) (LeftBy7 input) size before n (packed_size n) (length packed) size (length before) (inl (omega arith)) (inl (omega arith)) (inl (omega arith)))
    (refusal (OwnAnswer input) (LeftBy7 input) size before 8 0 (omega arith) (omega arith) (inr refl) (λ e. refl), tt))
    (λ a. (a.result, a.stays))

pub point_1 : (input : Input) (r : Result) (after : List ℕ) → Right input r after → Point1 input r after
point_1 input r after c =
    let k = leaves input r after c in
    record {
      answer = k.answer;
      own_answer = k.own_answer;
      fixed = λ other bytes d. let e = determined input r other after bytes c d in (e.result, e.output);
      untouched = k.untouched;
      left_by_7 = k.at_seven;
      later = k.later;
      no_detail = k.no_detail;
    }

-- ## Number 1

later_avoids : (way : Mending) (n flags : ℕ) (image before : List ℕ) → Avoids 1 (later (mend_checks way n flags image before))
later_avoids repair n flags image before = omega arith
later_avoids (trace cautious) n flags image before = omega arith
later_avoids (trace (within ceiling)) n flags image before = omega arith

-- It is given above 256 blocks only, by every call: the other checks and the answers past them have other numbers.
pub number_1 : (input : Input) (r : Result) (after : List ℕ) → Right input r after → (r.answer ≡ 1) ↔ (256 < block_count input)
number_1 (encode n payload before) r after =
    first_given (count_check n) (later (encode_checks (base n) n payload before)) (Encodes (base n) n payload before) before r after (omega arith)
    (λ a e. omega (arith, ap answer_of a.result))
number_1 (read n image before) r after =
    first_given (count_check n) (later (read_checks read_values (base n) n image before)) (ReadOrNot (base n) n image before) before r after (omega arith)
    (⊎_elim (λ a e. omega (arith, ap answer_of a.1.result)) (λ a e. omega (arith, ap answer_of a.1.result)))
number_1 (mend way n flags image before) r after =
    let f = call_flags n flags image in
    let checks = mend_checks way n flags image before in
    λ c. first_given (count_check n) (later (checks ++ (reach_check (base n) f ∷ []))) (Mends way (base n) f image before) before r after
    (each_append (λ c. c.number ≢ 1) (later checks) (reach_check (base n) f ∷ []) (later_avoids way n flags image before) (λ e. omega arith, tt))
    (⊎_elim (λ a e. omega (arith, ap answer_of a.result)) (λ a e. omega (arith, ap answer_of a.result)))
    (mends way n flags image before r after c)
number_1 (mend_spans n table image before) r after =
    let flag = span_flags (base n) table image in
    first_given (count_check n) (later (span_checks read_values (base n) n table flag image before)) (Repairs (base n) flag image before) before r after (omega arith)
    (⊎_elim (λ a e. omega (arith, ap answer_of a.result)) (λ a e. omega (arith, ap answer_of a.result)))
number_1 (pack n image before) r after =
    first_given (count_check n) (later (pack_checks n image before)) (Packs n image before) before r after (omega arith)
    (λ a e. omega (arith, ap answer_of a.result))
number_1 (unpack n packed before) r after =
    first_given (count_check n) (later (unpack_checks n packed before)) (Unpacks n packed before) before r after (omega arith)
    (λ a e. omega (arith, ap answer_of a.result))

-- ## Point 2

pub point_2 : (n : ℕ) → Point2 (base n) n (Encoded n) (WasRead n)
point_2 n = round_trip (base n) read_values (omega arith) n (encode_checks (base n) n) (λ image before. size_checks n (image_size (base n)) (length image) (payload_size (base n) n) (length before))
    (λ payload before. (λ e. omega arith, (λ e. omega arith, (λ e. omega arith, tt))))
    (λ image before k a b c. (λ e. a (sym e), (λ e. b (sym e), (λ e. c (sym e), tt))))
    (λ image before p. passed_exact n (image_size (base n)) (length image) (passed_both (input_checks n (image_size (base n)) (length image)) (room_check (payload_size (base n) n) (length before) ∷ []) p).0)

-- ## Point 3

-- A call that answers 0 met none of numbers 1 to 5, and not 12.
pub met_none : (r : Result) → r.answer ≡ 0 → MetNone (1 ∷ 2 ∷ 3 ∷ 4 ∷ 5 ∷ 12 ∷ []) r
met_none r z = rw z (omega arith)

pub point_3 : (way : Mending) (n flags : ℕ) (image before : List ℕ) (r : Result) (after : List ℕ) → Right (mend way n flags image before) r after →
    MetNone (1 ∷ 2 ∷ 3 ∷ 4 ∷ 5 ∷ 12 ∷ []) r → MendPoint3 way n flags image r after
point_3 way n flags image before r after c u =
    mending_demanded way (base n) refl (call_flags n flags image) (mend_checks way n flags image before) image before r after
    (mends way n flags image before r after c) (mend_avoids way n flags image before r.answer (omega arith) (omega arith)) (4 ≤ n) (λ l. omega arith)

-- By cells, of repair with flags by stretch.
pub point_3_by_cells : (n : ℕ) (table : Table) (image before : List ℕ) (r : Result) (after : List ℕ) → Right (mend_spans n table image before) r after →
    MetNone (1 ∷ 2 ∷ 3 ∷ 4 ∷ 9 ∷ []) r → (f : TrackFlags) → SpanPoint3 n table image f r after
point_3_by_cells n table image before r after c u = span_point_3 n table image before r after c (omega arith)

-- ## Values

pub values : (way : Mending) (n flags : ℕ) (image before : List ℕ) (r : Result) (after : List ℕ) → Right (mend way n flags image before) r after →
    MendValues way n flags image r after
values way n flags image before r after c =
    mending_values way (base n) refl (call_flags n flags image) (mend_checks way n flags image before) image before r after
    (mends way n flags image before r after c) (mend_avoids way n flags image before 0 (omega arith) (omega arith))

-- The extras that the calls name are below 18.
pub extras_numbered : (input : Input) (r : Result) (after : List ℕ) → Right input r after → ExtrasNumbered 18 r
extras_numbered (encode n payload before) r after c =
    plain_answers_numbered (encode_checks (base n) n payload before) before r after 18 (Encodes (base n) n payload before) (λ a. a.result) c
extras_numbered (read n image before) r after c = read_numbered (read_checks read_values (base n) n image before) before r after 18 (base n) n image c
extras_numbered (mend way n flags image before) r after c = values_numbered (base n) _ _ image r after (values way n flags image before r after c)
extras_numbered (mend_spans n table image before) r after c = unnamed_numbered 18 r (span_values n table image before r after c).unnamed
extras_numbered (pack n image before) r after c = plain_answers_numbered (pack_checks n image before) before r after 18 (Packs n image before) (λ a. a.result) c
extras_numbered (unpack n packed before) r after c =
    plain_answers_numbered (unpack_checks n packed before) before r after 18 (Unpacks n packed before) (λ a. a.result) c
