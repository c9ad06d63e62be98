-- What meets a contract is none of the checklist's wrong programs: the document's example with flags 2 tells them apart.
use mathlib.Core.Path.{◌≡◌, refl, ap, ◌∙◌}
use mathlib.Core.List.{List, [], ◌∷◌, ◌++◌}
use Prim.Native.Nat.{ℕ, ◌≤◌}
use native.Mathlib.Omega.{arith}
use lib.ListN.{length, get_or, drop, replicate, length-replicate, get_or-append}
use Rattle.code.specs.Record.{base, sum}
use Rattle.code.specs.Flags.{flag_count}
use Rattle.code.specs.Lost.{read_values}
use Rattle.code.specs.Reach.{look_up, reach_code, flags_code, none, cautious, within}
use Rattle.code.specs.Numbers.{Passed, reach_check}
use Rattle.code.specs.Calls.{Result, changed_in, changed_cells, changed_mask, changed_extra, early_checks}
use Rattle.code.specs.Examples.{ones, a, rest_of_128, answer_0}
use Rattle.code.specs.Supply.{Mending, repair, trace, mend, Right}
use Rattle.code.specs.Checklist.{Program, Taken, Meets, Rejected}
use Rattle.code.proofs.Ceilings.{ceilings}
use Rattle.code.proofs.Examples.{flags_of, passed, repair_found, good_128}
use Rattle.code.proofs.Numbers.{passed_both}
use Rattle.code.proofs.Spots.{spot, length_ones, ones_at}
use Rattle.code.proofs.Supply.{point_1, met_none, point_3}
use Rattle.code.proofs.Tests.{every}

-- The example: one block, the record of 128 without its cell A(0,1), an output of zeros, and what is right.
unfoldable image : List ℕ
image = ones rest_of_128

unfoldable before : List ℕ
before = replicate 414 0

unfoldable after : List ℕ
after = ones (a 0 1 ∷ rest_of_128) ++ drop 414 before

abbrev result : Result
result = answer_0 2 1 none none

room : 414 ≤ length before
unfolding before
room = omega (arith, length-replicate {A = ℕ} 414 0)

-- Repair finds it, so tracing does, with every ceiling.
repaired : Right (mend repair 1 2 image before) result after
unfolding image before after every spot flags_code flag_count sum reach_code look_up changed_in changed_cells changed_mask changed_extra
repaired = repair_found 2 rest_of_128 (a 0 1 ∷ rest_of_128) result tt tt good_128 tt refl before room

at_ceiling : (ceiling : ℕ) → ceiling ≤ 2 → Right (mend (trace (within ceiling)) 1 2 image before) result after
at_ceiling ceiling l =
    let c = ceilings 1 2 image before in
    c.higher 0 ceiling (omega arith) l result after ((c.at_0 result after).1 repaired) refl

right : (way : Mending) → Taken way → Right (mend way 1 2 image before) result after
right repair l = repaired
right (trace cautious) l = ((ceilings 1 2 image before).at_1 result after).0 (at_ceiling 1 (omega arith))
right (trace (within ceiling)) l = at_ceiling ceiling l

-- Its numbers 1 to 5 do not apply.
fit : Passed (early_checks read_values (base 1) 1 2 image (length before))
unfolding image before flags_code flag_count sum reach_code look_up
fit = (passed_both (early_checks read_values (base 1) 1 2 image (length before)) (reach_check (base 1) (flags_of 2) ∷ []) (passed read_values (omega arith) 2 rest_of_128 before tt tt room)).0

-- A(0,1) is 0 in the image and in the output as it came, and 1 in the right output.
in_image : get_or image (a 0 1) 0 ≡ 0
unfolding image spot
in_image = ones_at rest_of_128 (a 0 1) (omega arith)

in_before : get_or before (a 0 1) 0 ≡ 0
unfolding before
in_before = refl

in_after : get_or after (a 0 1) 0 ≡ 1
unfolding after spot
in_after = get_or-append (ones (a 0 1 ∷ rest_of_128)) (drop 414 before) 0 (a 0 1) (omega (arith, length_ones (a 0 1 ∷ rest_of_128)))
    ∙ ones_at (a 0 1 ∷ rest_of_128) (a 0 1) (omega arith)

pub rejected : (way : Mending) → Taken way → (p : Program) → Meets way p → Rejected p
rejected way l p meets =
    let met = meets 1 2 image before in
    let same = (point_1 (mend way 1 2 image before) _ _ (right way l)).fixed _ _ met in
    let answer = ap (λ (r : Result). r.answer) same.0 in
    let cell = ap (λ (bytes : List ℕ). get_or bytes (a 0 1) 0) same.1 ∙ in_after in
    record {
      copies = λ always. omega (arith, (always 1 2 image before fit).1 (a 0 1) (omega arith), in_image, cell);
      invents = λ always. omega (arith, always 1 2 image before fit, (point_3 way 1 2 image before _ _ met (met_none (p 1 2 image before).0 answer)).number answer);
      zero_record = λ always. omega (arith, always 1 2 image before fit (a 0 1) (omega arith), cell);
      seven = λ always. omega (arith, always 1 2 image before fit, answer);
      six = λ always. omega (arith, always 1 2 image before fit, answer);
      untouched = λ always. omega (arith, ap (λ (bytes : List ℕ). get_or bytes (a 0 1) 0) (always 1 2 image before fit), in_before, cell);
    }
