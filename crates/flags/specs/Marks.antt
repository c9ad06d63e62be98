-- What is said of marks: flags as a list, one a track number.
use Rattle.std.specs.Prelude.{◌≡◌, Bool, false, List, ℕ, ◌+◌, ◌*◌, ◌<◌, length, get_or}
use Rattle.code.specs.declared.sizes.TrackSet.{TrackSet}
use Rattle.code.specs.Record.{Shape, tracks}
use Rattle.code.specs.Image.{image_size}
use Rattle.code.specs.Flags.{word_flags, any}
use Rattle.code.specs.Lost.{is_lost, with_lost}
use Rattle.track.specs.Track.{Readings}
use Rattle.solver.specs.Solver.{marked}
use Rattle.flags.specs.Words.{bit_at}

-- The marks of a flag word: one a track number.
pub record Marks (flags : ℕ) (marks : List Bool) : Type 0 where
  pub size : length marks ≡ 18
  pub marks_at : (g : ℕ) → g < 18 → get_or marks g false ≡ bit_at flags g

-- Has track number g, of l cells, a lost cell?
abbrev pub lost_at : ℕ → List ℕ → ℕ → Bool
lost_at l image g = any l (λ m. is_lost (get_or image (g * l + m) 0))

-- An image whose cells are readings.
pub record ReadImage (sh : Shape) (image : List ℕ) : Type 0 where
  pub size : length image ≡ image_size sh
  pub readings : Readings image

-- The marks of the tracks that a flag word flags, and of those with a lost cell.
pub record CallMarks (sh : Shape) (word : ℕ) (image : List ℕ) (r : List Bool) : Type 0 where
  pub size : length r ≡ 18
  pub flags : (s : TrackSet) (t : ℕ) → t < tracks sh s → marked sh r s t ≡ with_lost sh (word_flags sh word) image s t
