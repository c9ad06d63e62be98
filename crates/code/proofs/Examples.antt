-- The examples of document 01 that are marked P hold.
use mathlib.Core.Path.{◌≡◌, refl, sym, ap, ◌∙◌}
use mathlib.Core.Logic.{inl, inr}
use mathlib.Core.Bool.{Bool, true, false, ◌&&◌, ◌||◌, not, true≢false}
use mathlib.Core.List.{List, [], ◌∷◌, ◌++◌}
use Prim.Native.Nat.{ℕ, zero, suc, ◌+◌, ◌*◌, ◌%◌, ◌^◌, ◌<◌, ◌≤◌}
use native.Mathlib.Nat.{zero-div}
use native.Mathlib.Omega.{arith}
use borrow.Author.Tests.{eqb-true}
use lib.Dec.{T, eqb, ltb, eqb→eq, ltb→lt}
use lib.ListN.{length, get_or, drop, replicate, get_or-append}
use Rattle.code.specs.Record.{TrackSet, A, B, base, data_tracks, tracks, Cells, back, sum, diagonal, vertical, Good, Same, blank}
use Rattle.code.specs.Image.{track_number, cells}
use Rattle.code.specs.Payload.{digits, payload_index, payload_byte, Carries}
use Rattle.code.specs.Flags.{TrackFlags, whole, word_flags, flag_count, AgreeOff, Within}
use Rattle.code.specs.Lost.{bit_values, read_values}
use Rattle.code.specs.Reach.{look_up, reach_code, flags_code, code_reach, Extra, none, extra, is, Choice, Allowed, with_extras, InReach, cautious, within, traced_reach}
use Rattle.code.specs.Numbers.{Check, ceiling_check, reach_check, First, Passed, first_bad}
use Rattle.code.specs.Calls.{Result, plain, mended, Found, NotFound, changed_in, changed_cells, changed_mask, changed_extra, early_checks, repair_checks, Refused}
use Rattle.code.specs.Promises.{call_flags, Traced, TracedWithin}
use Rattle.code.specs.Supply.{AsBefore}
use Rattle.code.specs.Examples.{ones, encode, repair, trace, Holds, Hold, examples, rest_of_128, answer_0, a, b}
use Rattle.code.specs.declared.Reach.{Reach}
use Rattle.code.proofs.Ceilings.{ceilings}
use Rattle.code.proofs.Codes.{code_far, closed_within}
use Rattle.code.proofs.Digits.{digits_same}
use Rattle.code.proofs.Patterns.{neither}
use Rattle.code.proofs.Reached.{count_extras}
use Rattle.code.proofs.Unique.{unique_tracks}
use Rattle.code.proofs.Changed.{mended_same, changed_extra_same}
use Rattle.code.proofs.Linear.{same_sym, good_same, good_blank}
use Rattle.code.proofs.Lost.{count_widened, bit_known, as_before}
use Rattle.code.proofs.Numbers.{answer_of, first_bad_none, first_passed, first_without}
use Rattle.code.proofs.Spots.{spot, spots, length_ones, ones_bit, ones_cells, image_cells, ones_stay}
use Rattle.code.proofs.Table.{and_left, and_right}
use Rattle.code.proofs.Tests.{every, every_at, both_sets, both_at, tested_good}

abbrev pub flags_of : ℕ → TrackFlags
flags_of word = word_flags (base 1) word

abbrev checks_of : ℕ → ℕ → List ℕ → List ℕ → List {1} Check
checks_of values word image before = repair_checks values (base 1) 1 word (flags_of word) image before

-- The checks are passed, whatever values beside bits a cell may have.
pub passed : (values : ℕ) → 2 ≤ values → (flags : ℕ) (ins before : List ℕ) → T (ltb flags (2 ^ 18)) → T (ltb 0 (flags_code (base 1) (flags_of flags))) → 414 ≤ length before →
    Passed (checks_of values flags (ones ins) before)
passed values two flags ins before few code h = (
  λ h. omega arith,
  (
    λ d. d (length_ones ins),
    (
      λ l. omega arith,
      (
        λ l. omega (arith, first_bad_none values (ones ins) (λ k l'. omega (arith, two, ones_bit ins k))),
        (
          λ l. omega (arith, ltb→lt flags (2 ^ 18) few),
          (
            λ e. omega (arith, ltb→lt 0 (flags_code (base 1) (flags_of flags)) code),
            tt,
          ),
        ),
      ),
    ),
  ),
)

-- No cell of an example's image is lost.
unlost : (ins before : List ℕ) → AsBefore 1 (ones ins) before
unlost ins before = as_before (ones ins) (λ i. bit_known _ (ones_bit ins i)) 1 before

-- Two records agree off the flags.
abbrev agree_test : TrackFlags → Cells → Cells → Bool
agree_test f x y = both_sets (λ s. every (tracks (base 1) s) (λ t. f s t || every 23 (λ m. eqb (x s t m) (y s t m))))

or_false : (a c : Bool) → a ≡ false → T (a || c) → T c
or_false false c e t = t
or_false true c e t = absurd (true≢false e)

abbrev side : TrackFlags → List ℕ → List ℕ → TrackSet → Bool
side f ins outs s = every (tracks (base 1) s) (λ t. f s t || every 23 (λ m. eqb (spots ins s t m) (spots outs s t m)))

spots_agree : (f : TrackFlags) (ins outs : List ℕ) → T (agree_test f (spots ins) (spots outs)) → AgreeOff (base 1) (whole f) (spots ins) (spots outs)
spots_agree f ins outs t = record {
  cell = λ s u m l b h. eqb→eq _ _ (every_at 23 _ (or_false (f s u) _ h (every_at (tracks (base 1) s) _ (both_at (side f ins outs) t s) u l)) m b);
}

tested_agree : (f : TrackFlags) (ins outs before : List ℕ) → T (agree_test f (spots ins) (spots outs)) →
    AgreeOff (base 1) (whole f) (cells (base 1) (ones ins)) (cells (base 1) (ones outs ++ drop 414 before))
tested_agree f ins outs before t = record {
  cell = λ s u m l b h. (image_cells ins).cell s u m l b ∙ (spots_agree f ins outs t).cell s u m l b h ∙ sym ((ones_cells outs (drop 414 before)).cell s u m l b);
}

-- The output of an example.
abbrev output : List ℕ → List ℕ → List ℕ
output outs before = ones outs ++ drop 414 before

-- A record that is found: what is returned is computed with the listed cells.
found : (near : Cells → Type 0) (named named' : TrackSet → Extra) (ins outs before : List ℕ) (r : Result) → 414 ≤ length before →
    Good (base 1) (spots outs) → near (cells (base 1) (output outs before)) → ((s : TrackSet) → named' s ≡ named s) →
    mended (base 1) (spots ins) (spots outs) named' ≡ r → Found (base 1) near named (ones ins) before r (output outs before)
found near named named' ins outs before r h g n i e = record {
  good = good_same (base 1) (spots outs) _ (same_sym (ones_cells outs (drop 414 before))) g;
  reached = n;
  stays = ones_stay outs before h;
  result = sym e
      ∙ mended_same (base 1) (spots ins) _ (spots outs) _ (same_sym (image_cells ins)) (same_sym (ones_cells outs (drop 414 before))) named' named i;
}

pub repair_found : (flags : ℕ) (ins outs : List ℕ) (r : Result) → T (ltb flags (2 ^ 18)) → T (ltb 0 (flags_code (base 1) (flags_of flags))) →
    Good (base 1) (spots outs) → T (agree_test (flags_of flags) (spots ins) (spots outs)) →
    mended (base 1) (spots ins) (spots outs) (λ s. none) ≡ r → Holds (repair flags ins r outs)
repair_found flags ins outs r few code g agree e before h = ((unlost ins before).repair flags r (output outs before)).1
    (first_passed (checks_of bit_values flags (ones ins) before) (Refused r before (output outs before)) _ (passed bit_values (omega arith) flags ins before few code h)
    (inl (found (AgreeOff (base 1) (whole (flags_of flags)) (cells (base 1) (ones ins))) (λ s. none) (λ s. none) ins outs before r h g (tested_agree (flags_of flags) ins outs before agree) (λ s. refl) e)))

-- A choice of one extra track, in A.
unfoldable pub in_a : ℕ → Choice
in_a u A = extra u
in_a u B = none

abbrev allowed_test : Reach → ℕ → TrackFlags → Bool
allowed_test w u f = (ltb 0 w.a && ltb 0 w.all) && (ltb u 9 && not (f A u))

not_true : (b : Bool) → T (not b) → b ≡ false
not_true true t = absurd t
not_true false t = refl

tested_allowed : (w : Reach) (u : ℕ) (f : TrackFlags) → T (allowed_test w u f) → Allowed (base 1) w f (in_a u)
unfolding in_a
tested_allowed w u f t = record {
  in_set = elim [ A ↦ ltb→lt 0 w.a (and_left (ltb 0 w.a) _ some) | B ↦ omega arith ];
  in_all = ltb→lt 0 w.all (and_right (ltb 0 w.a) _ some);
  track = elim [
    | A ↦ λ v e. let i : u ≡ v = cc in omega (arith, ltb→lt u 9 (and_left (ltb u 9) _ free))
    | B ↦ λ v e. let z : ◌≡◌ {A = ℕ} 0 1 = cc in absurd (omega arith)
  ];
  unflagged = elim [
    | A ↦ λ v e. let i : u ≡ v = cc in rw (sym i) (not_true (f A u) (and_right (ltb u 9) _ free))
    | B ↦ λ v e. let z : ◌≡◌ {A = ℕ} 0 1 = cc in absurd (omega arith)
  ];
}
  where
    some : T (ltb 0 w.a && ltb 0 w.all)
    some = and_left (ltb 0 w.a && ltb 0 w.all) _ t

    free : T (ltb u 9 && not (f A u))
    free = and_right (ltb 0 w.a && ltb 0 w.all) _ t

pub trace_found : (flags u : ℕ) (ins outs : List ℕ) (r : Result) → T (ltb flags (2 ^ 18)) → T (ltb 0 (flags_code (base 1) (flags_of flags))) →
    T (allowed_test (traced_reach cautious (base 1) (flags_of flags)) u (flags_of flags)) → Good (base 1) (spots outs) →
    T (agree_test (with_extras (flags_of flags) (in_a u)) (spots ins) (spots outs)) →
    mended (base 1) (spots ins) (spots outs) (λ s. changed_extra (base 1) (flags_of flags) (spots ins) (spots outs) s (tracks (base 1) s)) ≡ r →
    Holds (trace flags ins r outs)
trace_found flags u ins outs r few code allowed g agree e before h = (
  traced,
  let c = ceilings 1 flags (ones ins) before in
      c.higher 1 2 (omega arith) (omega arith) r (output outs before) ((c.at_1 r (output outs before)).1 traced) (sym (ap answer_of e)),
)
  where
    traced : Traced 1 flags (ones ins) before r (output outs before)
    traced = ((unlost ins before).trace cautious flags r (output outs before)).1
        (first_passed (checks_of bit_values flags (ones ins) before) (Refused r before (output outs before)) _ (passed bit_values (omega arith) flags ins before few code h)
        (inl (found (InReach (base 1) (traced_reach cautious (base 1) (flags_of flags)) (flags_of flags) (cells (base 1) (ones ins))) _ (λ s. changed_extra (base 1) (flags_of flags) (spots ins) (spots outs) s (tracks (base 1) s)) ins outs before r h g
        (record { choice = in_a u; allowed = tested_allowed _ u (flags_of flags) allowed; agree = tested_agree _ ins outs before agree })
        (λ s. changed_extra_same (base 1) (spots ins) _ (spots outs) _ (same_sym (image_cells ins)) (same_sym (ones_cells outs (drop 414 before)))
        (flags_of flags) (flags_of flags) s (λ t l. refl) (tracks (base 1) s) (omega arith))
        e)))

-- A call that finds none: no good record is near.
not_found : (near : Cells → Type 0) (ins before : List ℕ) → 414 ≤ length before → ((y : Cells) → Good (base 1) y → near y → ⊥) →
    NotFound (base 1) near (ones ins) before (plain 7 0) (output ins before)
not_found near ins before h nothing = record {
  no_record = nothing;
  copy = λ i l. get_or-append (ones ins) (drop 414 before) 0 i (omega (arith, length_ones ins));
  stays = ones_stay ins before h;
  result = refl;
}

no_flags : (s : TrackSet) (t : ℕ) → flags_of 0 s t ≡ false
no_flags s t = rw (zero-div (2 ^ track_number (base 1) s t))

-- Without flags only a good image is repaired.
repair_none : (ins : List ℕ) (m : ℕ) → T (ltb m 23) → T (eqb (vertical (base 1) (spots ins) A m % 2) 1) → Holds (repair 0 ins (plain 7 0) ins)
unfolding flags_code flag_count sum reach_code look_up
repair_none ins m l odd before h = ((unlost ins before).repair 0 (plain 7 0) (output ins before)).1
    (first_passed (checks_of bit_values 0 (ones ins) before) (Refused (plain 7 0) before (output ins before)) _ (passed bit_values (omega arith) 0 ins before tt tt h)
    (inr (not_found (AgreeOff (base 1) (whole (flags_of 0)) (cells (base 1) (ones ins))) ins before h nothing)))
  where
    nothing : (y : Cells) → Good (base 1) y → AgreeOff (base 1) (whole (flags_of 0)) (cells (base 1) (ones ins)) y → ⊥
    nothing y g n = omega (arith, eqb→eq (vertical (base 1) (spots ins) A m % 2) 1 odd, (good_same (base 1) y (spots ins) same g).verticals A m (ltb→lt m 23 l))
      where
        same : Same (base 1) y (spots ins)
        same = record { cell = λ s t p k b. sym (n.cell s t p k b (no_flags s t)) ∙ (image_cells ins).cell s t p k b }

-- A(0,1) and A(0,2): a record in reach differs from the all-zero one in these tracks and one extra a set, so it is the
-- all-zero one, and no one extra of A covers both tracks.
two_ones : List ℕ
two_ones = a 0 1 ∷ a 0 2 ∷ []

extra_both : (e : Extra) → is e 1 ≡ true → is e 2 ≡ true → ⊥
extra_both none p q = true≢false (sym p)
extra_both (extra u) p q = omega (arith, eqb-true 1 u p, eqb-true 2 u q)

two_tracks : (flag_count (base 1) (flags_of 6) A ≡ 2) × (flag_count (base 1) (flags_of 6) B ≡ 0)
unfolding flag_count sum
two_tracks = (refl, refl)

two_within : (e : Choice) → Allowed (base 1) (code_reach 5) (flags_of 0) e → Within (base 1) (with_extras (flags_of 6) e)
two_within e l =
    let in_a = count_extras (base 1) (flags_of 6) e A in
    let in_b = count_extras (base 1) (flags_of 6) e B in
    closed_within (base 1) _ refl
    (omega (arith, two_tracks.0, l.in_set A))
    (omega (arith, two_tracks.1, l.in_set B))
    (omega (arith, two_tracks.0, two_tracks.1, l.in_all))

no_trace : (y : Cells) → Good (base 1) y → InReach (base 1) (traced_reach (within 2) (base 1) (flags_of 0)) (flags_of 0) (cells (base 1) (ones two_ones)) y → ⊥
unfolding two_ones every spot flags_code flag_count sum reach_code look_up
no_trace y g r = extra_both (r.choice A) (covered 1 tt refl _ refl) (covered 2 tt refl _ refl)
  where
    image : (s : TrackSet) (t m : ℕ) → t < tracks (base 1) s → m < 23 → is (r.choice s) t ≡ false → y s t m ≡ spots two_ones s t m
    image s t m l b e = sym (r.agree.cell s t m l b (rw (no_flags s t) e)) ∙ (image_cells two_ones).cell s t m l b

    -- Flags 6 are those of the two tracks.
    agree : AgreeOff (base 1) (whole (with_extras (flags_of 6) r.choice)) y blank
    agree = record {
      cell = λ s t m l b e.
          let off = neither (flags_of 6 s t) (is (r.choice s) t) e in
          image s t m l b off.1 ∙ (spots_agree (flags_of 6) two_ones [] tt).cell s t m l b off.0;
    }

    zeros : Same (base 1) y blank
    zeros = unique_tracks (base 1) y blank g (good_blank (base 1)) (with_extras (flags_of 6) r.choice) (two_within r.choice r.allowed) agree

    covered : (t : ℕ) → T (ltb t 9) → spots two_ones A t 0 ≡ 1 → (b : Bool) → is (r.choice A) t ≡ b → is (r.choice A) t ≡ true
    covered t l one true e = e
    covered t l one false e = absurd (omega (arith, one, image A t 0 (ltb→lt t 9 l) (omega arith) e, zeros.cell A t 0 (ltb→lt t 9 l) (omega arith)))

zero_good : Good (base 1) (spots [])
unfolding spot
zero_good = good_blank (base 1)

pub good_128 : Good (base 1) (spots (a 0 1 ∷ rest_of_128))
unfolding every spot diagonal vertical back sum
good_128 = tested_good (base 1) (spots (a 0 1 ∷ rest_of_128)) tt

same_payload : {x y : Cells} → Same (base 1) x y → (b : ℕ) (s : TrackSet) (c : ℕ) → b < 1 → c < data_tracks (base 1) s → payload_byte x b s c ≡ payload_byte y b s c
same_payload e b s c h l = digits_same 8 _ _ (λ k i. e.cell s (suc c) (8 * b + k) (omega arith) (omega arith))

-- The payload of one block.
abbrev byte_test : List ℕ → List ℕ → TrackSet → Bool
byte_test ins payload s = every (data_tracks (base 1) s) (λ c. eqb (get_or payload (payload_index (base 1) 0 s c) 0) (payload_byte (spots ins) 0 s c))

tested_carries : (ins payload before : List ℕ) → T (both_sets (byte_test ins payload)) → Carries (base 1) 1 (cells (base 1) (output ins before)) payload
tested_carries ins payload before t = record {
  byte = λ n s c l k. first n l (λ (z : ℕ). get_or payload (payload_index (base 1) z s c) 0 ≡ payload_byte (cells (base 1) (output ins before)) z s c)
      (eqb→eq _ _ (every_at (data_tracks (base 1) s) _ (both_at (byte_test ins payload) t s) c k)
      ∙ sym (same_payload (ones_cells ins (drop 414 before)) 0 s c (omega arith) k));
}
  where
    first : (n : ℕ) → n < 1 → (P : ℕ → Type 0) → P 0 → P n
    first zero l P p = p
    first (suc n) l P p = absurd (omega arith)

-- Flags that are refused, for every image, lost cells or not.
four_tracks : flag_count (base 1) (flags_of 15) A ≡ 4
unfolding flag_count sum
four_tracks = refl

module _ (image before : List ℕ) (l : length image ≡ 414) (cells_right : first_bad read_values image ≡ 414) (h : 414 ≤ length before) where
  abbrev checks : ℕ → List {1} Check
  checks word = repair_checks read_values (base 1) 1 word (call_flags 1 word image) image before

  code_15 : flags_code (base 1) (call_flags 1 15 image) ≡ 0
  unfolding flags_code
  code_15 = code_far _ _ (λ few _. omega (arith, four_tracks, count_widened (base 1) (flags_of 15) image A))

  refused_15 : (rest : Type 0) → First (checks 15) (Refused (plain 6 0) before before) rest
  refused_15 rest = inr (
    λ h. omega arith,
    inr (λ d. d l, inr (λ r. omega arith, inr (λ r. omega arith, inr (λ r. omega arith, inl (code_15, record { result = refl; output = refl }))))),
  )

  -- A ceiling of 2 refuses nothing.
  below_2 : (word : ℕ) (r : Result) (rest : Type 0) → First (checks word) (Refused r before before) rest →
      First (early_checks read_values (base 1) 1 word image (length before) ++ (ceiling_check 2 ∷ reach_check (base 1) (call_flags 1 word image) ∷ [])) (Refused r before before) rest
  below_2 word r rest = (first_without (early_checks read_values (base 1) 1 word image (length before)) (ceiling_check 2) (reach_check (base 1) (call_flags 1 word image) ∷ []) (Refused r before before) rest (λ l. omega arith)).1

  refused_18 : (rest : Type 0) → First (checks (2 ^ 18)) (Refused (plain 5 0) before before) rest
  refused_18 rest = inr (
    λ h. omega arith,
    inr (λ d. d l, inr (λ r. omega arith, inr (λ r. omega arith, inl (omega arith, record { result = refl; output = refl })))),
  )

encode_128 : Holds (encode (128 ∷ replicate 13 0) (a 0 1 ∷ rest_of_128))
unfolding every spot digits
encode_128 before h = inr (
  λ h. omega arith,
  inr (
    λ d. d refl,
    inr (
      λ r. omega arith,
      record {
        result = refl;
        good = good_same (base 1) (spots (a 0 1 ∷ rest_of_128)) _ (same_sym (ones_cells (a 0 1 ∷ rest_of_128) (drop 414 before))) good_128;
        carries = tested_carries (a 0 1 ∷ rest_of_128) (128 ∷ replicate 13 0) before tt;
        stays = ones_stay (a 0 1 ∷ rest_of_128) before h;
      },
    ),
  ),
)

trace_none : Holds (trace 0 (a 0 1 ∷ a 0 2 ∷ []) (plain 7 0) (a 0 1 ∷ a 0 2 ∷ []))
unfolding two_ones flags_code flag_count sum reach_code look_up
trace_none before h = (
  let c = ceilings 1 0 (ones two_ones) before in
      (c.at_1 (plain 7 0) (output two_ones before)).0 (c.lower 1 2 (omega arith) (omega arith) (plain 7 0) (output two_ones before) at_2 refl),
  at_2,
)
  where
    at_2 : TracedWithin 1 0 2 (ones two_ones) before (plain 7 0) (output two_ones before)
    at_2 = ((unlost two_ones before).trace (within 2) 0 (plain 7 0) (output two_ones before)).1
        ((first_without (early_checks bit_values (base 1) 1 0 (ones two_ones) (length before)) (ceiling_check 2) (reach_check (base 1) (flags_of 0) ∷ []) (Refused (plain 7 0) before (output two_ones before)) _ (λ l. omega arith)).1
        (first_passed (checks_of bit_values 0 (ones two_ones) before) (Refused (plain 7 0) before (output two_ones before)) _ (passed bit_values (omega arith) 0 two_ones before tt tt h)
        (inr (not_found (InReach (base 1) (traced_reach (within 2) (base 1) (flags_of 0)) (flags_of 0) (cells (base 1) (ones two_ones))) two_ones before h no_trace))))

-- The one table.
pub examples_hold : Hold examples
unfolding every spot flags_code flag_count sum reach_code look_up changed_in changed_cells changed_mask changed_extra in_a vertical
examples_hold = (
  good_same (base 1) (spots []) _ (same_sym (image_cells [])) zero_good,
  (
    encode_128,
    (
      repair_found 2 rest_of_128 (a 0 1 ∷ rest_of_128) (answer_0 2 1 none none) tt tt good_128 tt refl,
      (
        trace_none,
        (
          trace_found 2 2 (a 0 1 ∷ a 0 2 ∷ []) [] (answer_0 6 2 (extra 2) none) tt tt tt zero_good tt refl,
          (
            repair_none (a 22 8 ∷ []) 22 tt tt,
            (
              trace_found 0 8 (a 22 8 ∷ []) [] (answer_0 256 1 (extra 8) none) tt tt tt zero_good tt refl,
              (
                repair_none (a 8 3 ∷ []) 8 tt tt,
                (
                  repair_found 526 (a 3 1 ∷ b 20 0 ∷ []) [] (answer_0 514 2 none none) tt tt zero_good tt refl,
                  (
                    λ image before l bits h. (
                      refused_15 image before l bits h _,
                      (refused_15 image before l bits h _, below_2 image before l bits h 15 _ _ (refused_15 image before l bits h _)),
                    ),
                    (
                      λ image before l bits h. (
                        refused_18 image before l bits h _,
                        (refused_18 image before l bits h _, below_2 image before l bits h (2 ^ 18) _ _ (refused_18 image before l bits h _)),
                      ),
                      tt,
                    ),
                  ),
                ),
              ),
            ),
          ),
        ),
      ),
    ),
  ),
)
