-- What the steps of repair give.
use Rattle.std.specs.Prelude.{◌≡◌, Bool, true, false, Option, None, List, ℕ, ◌+◌, ◌<◌, ◌≤◌, length}
use Rattle.code.specs.declared.sizes.TrackSet.{TrackSet}
use Rattle.code.specs.declared.sizes.TrackSet.TheVariants.{A, B}
use Rattle.code.specs.Record.{row_of, Shape, tracks, track_length, vertical_end, tail_tracks}
use Rattle.code.specs.Image.{image_size, cells}
use Rattle.code.specs.Flags.{TrackFlags, Within}
use Rattle.code.specs.Lost.{is_lost}
use Rattle.code.specs.Sizes.{shape}
use Rattle.code.specs.declared.sizes.Sizes.{Sizes}
use Rattle.syndrome.specs.Syndrome.{Image}
use Rattle.solver.specs.Solver.{marked}
use Rattle.flags.specs.Marks.{ReadImage}
use Rattle.plans.specs.declared.Form.{Form}
use Rattle.forms.specs.Found.{Tails, errors}
use Rattle.errors.specs.Rows.{cell}
use Rattle.errors.specs.Steps.{Found}
use Rattle.mend.specs.declared.Need.{Need}
use Rattle.mend.specs.Mend.{SumsIn, Added, Explained, TailsBut}
use Rattle.repair.specs.declared.Needs.{Needs}

-- ## Working copies

abbrev pub need_of : Needs → TrackSet → Need
need_of need A = need.a
need_of need B = need.b

-- A working copy with its sums: it is the image, a list of bits, but that its tails are 0 where rule 4 makes them so. The needs say which
-- extras explain tails that were not.
pub record Prepared (z : Sizes) (f : TrackFlags) (image out words : List ℕ) (need : Needs) : Type 0 where
  pub copy : Image (shape z) out
  pub sums_in : SumsIn z out words
  pub tails : Tails (shape z) (cells (shape z) out)
  pub same : (s : TrackSet) (t m : ℕ) → t < tracks (shape z) s → m < track_length (shape z) → (1 ≤ t → t < tail_tracks (shape z) s → z.positions ≤ m → ⊥) →
      cells (shape z) out s t m ≡ cells (shape z) image s t m
  pub fits : (s : TrackSet) (e : Option ℕ) → Explained (need_of need s) e → TailsBut z s f image (tail_tracks (shape z) s) e
  pub fails : (s : TrackSet) (e : Option ℕ) → (Explained (need_of need s) e → ⊥) → TailsBut z s f image (tail_tracks (shape z) s) e → ⊥

-- ## One set of flags

-- The errors that rows of words have, of a form's tracks.
abbrev pub errors_in : Form → List ℕ → (TrackSet → ℕ → ℕ → ℕ)
errors_in p words = errors p (λ c. cell words (2 + row_of c)) (cell words 0) (cell words 1)

-- Errors were found, pass all tests, and are added; or, where nothing is needed, they fail one.
pub record MadeGood (z : Sizes) (need : Needs) (p : Form) (rows before after : List ℕ) (r : Bool) : Type 0 where
  pub size : length after ≡ length before
  pub words : List ℕ
  pub none_needed : r ≡ true → (s : TrackSet) → Explained (need_of need s) None
  pub found : r ≡ true → Found z (vertical_end (shape z)) p rows words true
  pub added : r ≡ true → Added z (errors_in p words) before after
  pub failed : r ≡ false → ((s : TrackSet) → Explained (need_of need s) None) → Found z (vertical_end (shape z)) p rows words false

-- ## Whole records

-- An image, an output of its size, and marks that are within the limit and leave no lost cell unmarked.
pub record Given (sh : Shape) (marks : List Bool) (image out : List ℕ) : Type 0 where
  pub image_is : ReadImage sh image
  pub covered : (s : TrackSet) (t m : ℕ) → t < tracks sh s → m < track_length sh → marked sh marks s t ≡ false →
      is_lost (cells sh image s t m) ≡ false
  pub out_has : length out ≡ image_size sh
  pub marks_size : length marks ≡ 18
  pub within : Within sh (marked sh marks)
