-- Whole records: what repair comes to.
use mathlib.Core.Path.{◌≡◌, ◌∙◌}
use mathlib.Core.Logic.{inl, inr}
use mathlib.Core.Bool.{Bool, true, false}
use mathlib.Core.List.{List}
use Prim.Native.Nat.{ℕ}
use Rattle.std.specs.Prelude.{None}
use native.Mathlib.Omega.{arith}
use Rattle.code.specs.declared.sizes.TrackSet.{TrackSet}
use Rattle.code.specs.declared.sizes.TrackSet.TheVariants.{A, B}
use Rattle.code.specs.Record.{Shape, Cells, Good}
use Rattle.code.specs.Image.{image_size, cells}
use Rattle.code.specs.Flags.{TrackFlags, whole, AgreeOff}
use Rattle.code.specs.Reach.{none}
use Rattle.code.specs.Calls.{Result, plain, mended, Repairs}
use Rattle.code.specs.Sizes.{shape}
use Rattle.code.specs.declared.sizes.Sizes.{Sizes}
use Rattle.code.proofs.Front.{stays_all}
use Rattle.code.proofs.Outputs.{agree_on, not_found}
use Rattle.track.specs.Track.{known}
use Rattle.track.proofs.Lost.{LostCovered, copy_agree, agree_copy}
use Rattle.solver.specs.Solver.{marked}
use Rattle.changes.specs.Changes.{OnlyMarked, names}
use Rattle.plans.specs.declared.Form.{Form}
use Rattle.plans.specs.Plans.{Fits}
use Rattle.mend.specs.Mend.{Explained}
use Rattle.repair.specs.declared.Needs.{Needs}
use Rattle.repair.specs.Steps.{need_of, Prepared, MadeGood, Given}
use Rattle.repair.proofs.Working.{tails_none, found_none, found_good, found_agree}

module _ (z : Sizes) (marks : List Bool) (image out : List ℕ) (given : Given (shape z) marks image out) where
  abbrev sh : Shape
  sh = shape z

  abbrev f : TrackFlags
  f = marked (shape z) marks

  -- Flags that flag these tracks flag every lost cell.
  pub covered : (g : TrackFlags) → ((s : TrackSet) (t : ℕ) → g s t ≡ false → f s t ≡ false) → LostCovered sh (whole g) image
  covered g less s t m l b e = given.covered s t m l b (less s t e)

  -- ## Repair

  module _ (copy words : List ℕ) (need : Needs) (prepared : Prepared z f (known image) copy words need) (p : Form) (fits : Fits sh f p)
      (after : List ℕ) (r : Bool) (made : MadeGood z need p words copy after r) where
    found_there : r ≡ true → AgreeOff sh (whole f) (cells sh image) (cells sh after)
    found_there h = agree_on sh (whole f) (copy_agree sh (whole f) image (covered f (λ s t e. e)))
        (found_agree z f (known image) copy words need prepared f (λ s. None) (λ s t e. (e, λ h. cc)) (λ s t l e d. e)
        p fits made.words (made.found h) after (made.added h) (made.none_needed h))

    -- Only marked tracks were changed.
    pub made_only : r ≡ true → OnlyMarked z marks image after
    made_only h = record {
      marks_size = omega (arith, given.marks_size);
      image_has = given.image_is.size;
      out_has = made.size ∙ prepared.copy.size;
      agree = found_there h;
    }

    -- Answer 0.
    pub repair_found : r ≡ true → (answer : Result) → answer ≡ mended sh (cells sh image) (cells sh after) (names none none) → Repairs sh (whole f) image out answer after
    repair_found h answer e = inl (record {
      good = found_good z f (known image) copy words need prepared f (λ s. None) (λ s t e. (e, λ h. cc)) (λ s t l e d. e)
          p fits made.words (made.found h) after (made.added h);
      reached = found_there h;
      stays = stays_all (image_size sh) out after given.out_has (made.size ∙ prepared.copy.size);
      result = e;
    })

    -- No good record agrees with the working copy.
    none_there : r ≡ false → (y : Cells) → Good sh y → AgreeOff sh (whole f) (cells sh (known image)) y → ⊥
    none_there h y g a = by_need A (λ na. by_need B (λ nb. found_none z f (known image) copy words need prepared f (λ s. None) (λ s t e. (e, λ h. cc)) (λ s t l e d. e)
        p fits made.words (made.failed h (elim [ A ↦ na | B ↦ nb ])) y g a))
      where
        by_need : (s : TrackSet) → (Explained (need_of need s) None → ⊥) → ⊥
        by_need s go = tails_none z f (known image) copy words need prepared f (λ s. None) (λ s t e. (e, λ h. cc)) (λ s t l e d. e) s go y g a

    pub repair_none : r ≡ false → (last : List ℕ) → last ≡ image → (answer : Result) → answer ≡ plain 7 0 → Repairs sh (whole f) image out answer last
    repair_none h last back answer e = inr (not_found sh image out last back given.image_is.size given.out_has _
        (λ y g n. none_there h y g (agree_copy sh (whole f) image (covered f (λ s t e. e)) y n)) answer e)
