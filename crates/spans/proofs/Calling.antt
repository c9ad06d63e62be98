-- The call: past its checks, and the part of the output that is worked on.
use Rattle.std.proofs.Common.{◌≡◌, Bool, true, false, List, [], ◌∷◌, ◌++◌, ℕ, ◌*◌, ◌≤◌, refl, sym, ap, subst, ◌∙◌, inl, inr, length, take, drop, arith}
use Rattle.std.proofs.lemmas.List.{length-take-le}
use lib.ListN.{take-append-drop}
use Rattle.code.specs.Record.{Shape, closed_tail, track_length, base}
use Rattle.code.specs.Image.{image_size}
use Rattle.code.specs.Lost.{read_values}
use Rattle.code.specs.Spans.{Table, Broken, span_flags}
use Rattle.code.specs.Numbers.{Check, table_check, window_check, image_checks, Passed}
use Rattle.code.specs.Calls.{Result, Refused, Repairs, plain, table_checks}
use Rattle.code.specs.Promises.{SpansRepaired}
use Rattle.code.specs.Answers.{refused_of}
use Rattle.code.specs.declared.answer.Refusal.{Refusal}
use Rattle.code.specs.Sizes.{closing_of, shape}
use Rattle.code.specs.declared.sizes.Sizes.{Sizes}
use Rattle.code.proofs.Accepted.{ImageRight, image_right}
use Rattle.code.proofs.Numbers.{first_after, passed_both, passed_last}
use Rattle.code.proofs.Outputs.{repair_all}
use Rattle.checks.specs.First.{FirstAnswer}
use Rattle.checks.proofs.Refusing.{refuses_call, passes}
use Rattle.flags.specs.Marks.{ReadImage}
use Rattle.spans.specs.Steps.{Tabled, CellsRepaired}

-- Sizes of document 01 have a closed tail.
base_closed : (z : Sizes) (n : ℕ) → shape z ≡ base n → z.closed ≡ true
base_closed z n e = go z.closed (ap (λ (sh : Shape). sh.closing) e)
  where
    go : (b : Bool) → closing_of b ≡ closed_tail → b ≡ true
    go true p = refl
    go false p = cc

-- A number before the windows.
pub refused : (n : ℕ) (table : Table) (image out : List ℕ) (e : Refusal) → FirstAnswer (table_checks read_values (base n) n table image (length out)) (refused_of e) →
    SpansRepaired n table image out (refused_of e) out
refused n table image out e =
    let flag = span_flags (base n) table image in
    refuses_call (table_checks read_values (base n) n table image (length out)) (window_check (base n) flag ∷ []) e (Repairs (base n) flag image out) out

module _ (n : ℕ) (table : Table) (image out : List ℕ) (first : FirstAnswer (table_checks read_values (base n) n table image (length out)) (plain 0 0)) where
  abbrev shared : List {1} Check
  shared = image_checks read_values n (image_size (base n)) image (image_size (base n)) (length out)

  -- No check applies.
  passed : Passed (table_checks read_values (base n) n table image (length out))
  passed = passes (table_checks read_values (base n) n table image (length out)) (omega arith) first

  right : ImageRight read_values n (image_size (base n)) image (image_size (base n)) (length out)
  right = image_right read_values n (image_size (base n)) image (image_size (base n)) (length out) (omega arith)
      (passed_both shared (table_check (image_size (base n)) table ∷ []) passed).0

  pub few : n ≤ 256
  few = right.sizes.few

  pub has_room : image_size (base n) ≤ length out
  has_room = right.sizes.fits

  -- What is right of the part that is worked on is right of the whole output.
  of_part : (r : Result) (part : List ℕ) → length part ≡ length (take (image_size (base n)) out) →
      CellsRepaired (base n) (span_flags (base n) table image) image (take (image_size (base n)) out) r part →
      SpansRepaired n table image out r (part ++ drop (image_size (base n)) out)
  of_part r part kept c = first_after (table_checks read_values (base n) n table image (length out)) (window_check (base n) (span_flags (base n) table image) ∷ [])
      (Refused r out (part ++ drop (image_size (base n)) out)) (Repairs (base n) (span_flags (base n) table image) image out r (part ++ drop (image_size (base n)) out)) passed (go c)
    where
      go : CellsRepaired (base n) (span_flags (base n) table image) image (take (image_size (base n)) out) r part →
          CellsRepaired (base n) (span_flags (base n) table image) image out r (part ++ drop (image_size (base n)) out)
      go (inl a) = inl (a.0, record { result = a.1.result; output = ap (λ (xs : List ℕ). xs ++ drop (image_size (base n)) out) a.1.output ∙ take-append-drop (image_size (base n)) out })
      go (inr a) = inr (a.0, repair_all (base n) image out part has_room (kept ∙ length-take-le (image_size (base n)) out has_room) (span_flags (base n) table image) r a.1)

  module _ (z : Sizes) (z_is : shape z ≡ base n) where
    pub tabled : Tabled z table image
    tabled = record {
      closed = base_closed z n z_is;
      sound = subst (λ (sh : Shape). Broken (image_size sh) table → ⊥) (sym z_is) (passed_last shared (table_check (image_size (base n)) table) passed);
      image_is = subst (λ (sh : Shape). ReadImage sh image) (sym z_is) (record { size = right.sizes.exact; readings = record { reading = right.cells } });
    }

    -- The output has room for tracks of l cells.
    module _ (l : ℕ) (l_is : l ≡ track_length (shape z)) where
      size_is : 18 * l ≡ image_size (base n)
      size_is = omega (arith, l_is ∙ ap track_length z_is)

      pub fits : 18 * l ≤ length out
      fits = omega (arith, size_is, has_room)

      pub repaired : (r : Result) (part : List ℕ) → length part ≡ length (take (18 * l) out) →
          CellsRepaired (shape z) (span_flags (shape z) table image) image (take (18 * l) out) r part →
          SpansRepaired n table image out r (part ++ drop (18 * l) out)
      repaired r part kept c =
          let one : length part ≡ length (take (image_size (base n)) out) = kept ∙ ap (λ (k : ℕ). length (take k out)) size_is in
          let two = subst (λ (k : ℕ). CellsRepaired (base n) (span_flags (base n) table image) image (take k out) r part) size_is
          (subst (λ (sh : Shape). CellsRepaired sh (span_flags sh table image) image (take (18 * l) out) r part) z_is c) in
          subst (λ (k : ℕ). SpansRepaired n table image out r (part ++ drop k out)) (sym size_is) (of_part r part one two)
