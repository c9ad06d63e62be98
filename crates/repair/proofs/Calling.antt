-- The calls: their checks, the part of the output that is worked on, and marks in place of flags.
use mathlib.Core.Path.{◌≡◌, refl, sym, ◌∙◌}
use mathlib.Core.Bool.{Bool}
use mathlib.Core.Logic.{◌≢◌, inl, inr}
use mathlib.Core.List.{List, [], ◌∷◌, ◌++◌}
use Prim.Native.Nat.{ℕ, ◌≤◌}
use native.Mathlib.Omega.{arith}
use lib.ListN.{length, take, drop}
use lib.Seq.{length-take-le}
use Rattle.code.specs.Record.{base, Shape}
use Rattle.code.specs.Image.{image_size, cells}
use Rattle.code.specs.Flags.{TrackFlags, whole, word_flags}
use Rattle.code.specs.Lost.{read_values}
use Rattle.code.specs.Reach.{flags_code, none}
use Rattle.code.specs.Numbers.{image_checks, flag_check, reach_check, Passed}
use Rattle.code.specs.Calls.{Result, plain, Refused, Answered, early_checks, repair_checks, RepairNear, Repairs}
use Rattle.code.specs.Promises.{call_flags, Repaired}
use Rattle.code.proofs.Lost.{none_lost}
use Rattle.code.proofs.Codes.{code_within}
use Rattle.code.proofs.Numbers.{first_after, passed_both}
use Rattle.code.proofs.Outputs.{repair_all, mended_as}
use Rattle.code.proofs.Same.{SameFlags, code_same}
use Rattle.solver.specs.Solver.{marked}
use Rattle.checks.specs.First.{FirstAnswer}
use Rattle.code.proofs.Accepted.{ImageRight, image_right}
use Rattle.checks.proofs.Refusing.{passes}
use Rattle.flags.specs.Marks.{ReadImage, CallMarks}
use Rattle.repair.specs.Steps.{Given}
use Rattle.repair.proofs.Flagging.{agree_same}

-- ## Checks

-- With 0 none of the first five applies.
pub passed : (n word : ℕ) (image : List ℕ) (room : ℕ) → FirstAnswer (early_checks read_values (base n) n word image room) (plain 0 0) →
    Passed (early_checks read_values (base n) n word image room)
passed n word image room = passes (early_checks read_values (base n) n word image room) (omega arith)

pub right : (n word : ℕ) (image : List ℕ) (room : ℕ) → Passed (early_checks read_values (base n) n word image room) → ImageRight read_values n (image_size (base n)) image (image_size (base n)) room
right n word image room p = image_right read_values n (image_size (base n)) image (image_size (base n)) room (omega arith)
    (passed_both (image_checks read_values n (image_size (base n)) image (image_size (base n)) room) (flag_check (base n) word ∷ []) p).0

-- ## Flags that say the same

module _ (sh : Shape) (image before : List ℕ) (r : Result) (after : List ℕ) where
  module _ (f g : TrackFlags) (same : SameFlags sh f g) where
    back : SameFlags sh g f
    back s t l = sym (same s t l)

    pub repairs_as : Repairs sh (whole f) image before r after → Repairs sh (whole g) image before r after
    repairs_as = mended_as sh image before r after (RepairNear sh (whole f) image) (RepairNear sh (whole g) image) (λ _ _. none) (λ _ _. none)
        (agree_same sh f g same (cells sh image)) (agree_same sh g f back (cells sh image)) (λ _ s. refl)

-- ## The calls, by the marks of a flag word and of lost cells

module _ (n word : ℕ) (image : List ℕ) (room : ℕ) (p : Passed (early_checks read_values (base n) n word image room)) where
  pub read_image : ReadImage (base n) image
  read_image = let i = right n word image room p in record { size = i.sizes.exact; readings = record { reading = i.cells } }

  pub has_room : image_size (base n) ≤ room
  has_room = (right n word image room p).sizes.fits

module _ (n word : ℕ) (image out : List ℕ) (p : Passed (early_checks read_values (base n) n word image (length out))) (marks : List Bool)
    (m : CallMarks (base n) word image marks) where
  abbrev by_marks : TrackFlags
  by_marks = marked (base n) marks

  -- The flags of the call.
  abbrev by_word : TrackFlags
  by_word = call_flags n word image

  abbrev size : ℕ
  size = image_size (base n)

  pub code_is : flags_code (base n) by_marks ≡ flags_code (base n) by_word
  code_is = code_same (base n) by_marks by_word m.flags

  -- What the work on the record asks.
  pub given : flags_code (base n) by_marks ≢ 0 → Given (base n) marks image (take size out)
  given c =
      let i = right n word image (length out) p in
      record {
        image_is = read_image n word image (length out) p;
        covered = λ s t k l b e. none_lost (base n) (word_flags (base n) word) image s t k (sym (m.flags s t l) ∙ e) b;
        out_has = length-take-le size out i.sizes.fits;
        marks_size = m.size;
        within = code_within (base n) by_marks refl c;
      }

  -- Past the first five: 6, or what is done to the record.
  abbrev After : (Result → List ℕ → Type 0) → Result → List ℕ → Type 0
  After done = Answered (repair_checks read_values (base n) n word by_word image out) done out

  -- 6.
  pub too_many : flags_code (base n) by_marks ≡ 0 → (done : Result → List ℕ → Type 0) → After done (plain 6 0) out
  too_many c done = first_after (early_checks read_values (base n) n word image (length out)) (reach_check (base n) by_word ∷ [])
      (Refused (plain 6 0) out out) (done (plain 6 0) out) p (inl (sym code_is ∙ c, record { result = refl; output = refl }))

  pub repaired : flags_code (base n) by_marks ≢ 0 → (r : Result) (part : List ℕ) → length part ≡ length (take size out) →
      Repairs (base n) (whole by_marks) image (take size out) r part → Repaired n word image out r (part ++ drop size out)
  repaired code r part kept d = first_after (early_checks read_values (base n) n word image (length out)) (reach_check (base n) by_word ∷ [])
      (Refused r out _) (Repairs (base n) (whole by_word) image out r _) p
      (inr (λ e. code (code_is ∙ e), repairs_as (base n) image out r _ by_marks by_word m.flags (repair_all (base n) image out part room whole_part (whole by_marks) r d)))
    where
      room : size ≤ length out
      room = has_room n word image (length out) p

      whole_part : length part ≡ size
      whole_part = kept ∙ length-take-le size out room
