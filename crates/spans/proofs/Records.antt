-- One record: what comes of the solution of its flagged cells.
use mathlib.Core.Path.{◌≡◌, sym, subst, ◌∙◌}
use mathlib.Core.Logic.{inl, inr}
use mathlib.Core.Bool.{Bool, true, false}
use mathlib.Core.List.{List}
use Prim.Native.Nat.{ℕ}
use Rattle.code.specs.Record.{Shape}
use Rattle.code.specs.Image.{image_size, cells}
use Rattle.code.specs.Flags.{CellFlags, AgreeOff}
use Rattle.code.specs.Reach.{none}
use Rattle.code.specs.Calls.{Result, plain, mended, Repairs}
use Rattle.code.specs.Sizes.{shape}
use Rattle.code.specs.declared.sizes.Sizes.{Sizes}
use Rattle.code.proofs.Front.{stays_all}
use Rattle.code.proofs.Outputs.{agree_on, not_found}
use Rattle.track.specs.Track.{known, Copied}
use Rattle.track.proofs.Cells.{copied_all}
use Rattle.track.proofs.Lost.{copy_agree, agree_copy}
use Rattle.syndrome.specs.Syndrome.{Image, Holds, Kept}
use Rattle.syndrome.proofs.Copies.{copy_made, copy_image, copy_kept}
use Rattle.flags.specs.Words.{word_cells}
use Rattle.stretches.specs.Stretches.{Solved}
use Rattle.spans.specs.Steps.{Given, OnlyFlagged}

module _ (z : Sizes) (words near image out : List ℕ) (given : Given z words near image out) where
  abbrev sh : Shape
  sh = shape z

  abbrev flag : CellFlags
  flag = word_cells (shape z) words

  -- The output after the copy is made.
  pub made : (copy : List ℕ) → Copied (known image) out copy → copy ≡ known image
  made copy = copy_made sh image given.image_is.size out copy given.out_has

  pub copied : (copy : List ℕ) → Copied (known image) out copy → Image sh copy
  copied copy c = copy_image sh image given.image_is.size given.image_is.readings copy (made copy c)

  pub kept : (copy syn : List ℕ) → Copied (known image) out copy → Holds sh (cells sh copy) syn → Kept z copy syn
  kept copy syn c h = subst (λ (xs : List ℕ). Kept z xs syn) (sym (made copy c))
      (copy_kept z image copy syn given.image_is.size given.image_is.readings (made copy c) h)

  module _ (copy syn after : List ℕ) (r : Bool) (c : Copied (known image) out copy) (w : Solved z flag copy after syn r) where
    agree : AgreeOff sh flag (cells sh image) (cells sh after)
    agree = agree_on sh flag (copy_agree sh flag image given.covered) (subst (λ (xs : List ℕ). AgreeOff sh flag (cells sh xs) (cells sh after)) (made copy c) w.only)

    -- Only flagged cells were changed.
    pub only_flagged : OnlyFlagged z words image after
    only_flagged = record { image_has = given.image_is.size; out_has = w.kept.image.size; agree = agree }

    -- Answer 0.
    pub found : r ≡ true → (answer : Result) → answer ≡ mended sh (cells sh image) (cells sh after) (λ _. none) → Repairs sh flag image out answer after
    found h answer e = inl (record {
      good = w.good h;
      reached = agree;
      stays = stays_all (image_size sh) out after given.out_has w.kept.image.size;
      result = e;
    })

    -- Answer 7: the image is copied over the output.
    back : (last : List ℕ) → Copied image after last → last ≡ image
    back last d = copied_all image after last d (given.image_is.size ∙ sym w.kept.image.size)

    pub none_found : r ≡ false → (last : List ℕ) → Copied image after last → (answer : Result) → answer ≡ plain 7 0 → Repairs sh flag image out answer last
    none_found h last d answer e = inr (not_found sh image out last (back last d) given.image_is.size given.out_has _
        (λ y g n. w.none h y g (subst (λ (xs : List ℕ). AgreeOff sh flag (cells sh xs) y) (sym (made copy c)) (agree_copy sh flag image given.covered y n)))
        answer e)
