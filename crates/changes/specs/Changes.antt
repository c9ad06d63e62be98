-- What is said of changed cells.
use Rattle.std.specs.Prelude.{◌≡◌, Bool, false, List, ℕ, ◌+◌, ◌*◌, ◌≤◌, length, get_or}
use Rattle.code.specs.declared.sizes.TrackSet.{TrackSet}
use Rattle.code.specs.declared.sizes.TrackSet.TheVariants.{A, B}
use Rattle.code.specs.Record.{Shape, sum}
use Rattle.code.specs.Image.{all_tracks, image_size, cells}
use Rattle.code.specs.Flags.{whole, AgreeOff}
use Rattle.code.specs.Calls.{differ, changed_cells, changed_mask}
use Rattle.code.specs.Reach.{Extra}
use Rattle.code.specs.Sizes.{shape}
use Rattle.code.specs.declared.sizes.Sizes.{Sizes}
use Rattle.solver.specs.Solver.{marked_by}
use Rattle.changes.specs.declared.Changes.{Changes}

-- Two images have track number g, of l cells.
pub record HasTrack (l g : ℕ) (image out : List ℕ) : Type 0 where
  pub room : g * l + l ≤ length image
  pub sizes : length out ≡ length image

-- The cells of track number g that differ.
unfoldable pub changed_at : ℕ → List ℕ → List ℕ → ℕ → ℕ
changed_at l image out g = sum l (λ m. differ (get_or image (g * l + m) 0) (get_or out (g * l + m) 0))

-- An image and an output that differ in marked tracks at the most.
pub record OnlyMarkedBy {M : Type 0} (counts : M → Bool) (none : M) (z : Sizes) (marks : List M) (image out : List ℕ) : Type 0 where
  pub marks_size : all_tracks (shape z) ≤ length marks
  pub image_has : length image ≡ image_size (shape z)
  pub out_has : length out ≡ image_size (shape z)
  pub agree : AgreeOff (shape z) (whole (marked_by counts none (shape z) marks)) (cells (shape z) image) (cells (shape z) out)

-- By marks that are truth values.
abbrev pub OnlyMarked : Sizes → List Bool → List ℕ → List ℕ → Type 0
OnlyMarked = OnlyMarkedBy (λ m. m) false

-- The changed mask and cells.
pub record Counted (sh : Shape) (image out : List ℕ) (r : Changes) : Type 0 where
  pub mask_is : r.mask ≡ changed_mask sh (cells sh image) (cells sh out)
  pub cells_are : r.cells ≡ changed_cells sh (cells sh image) (cells sh out)

-- The extras of both sets.
abbrev pub names : Extra → Extra → TrackSet → Extra
names a b A = a
names a b B = b
