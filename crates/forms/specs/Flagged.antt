-- The flagged tracks of a set, as a list, highest first.
use Rattle.std.specs.Prelude.{◌≡◌, List, [], ◌∷◌, ℕ, ◌+◌, ◌<◌}
use Rattle.code.specs.declared.sizes.TrackSet.{TrackSet}
use Rattle.code.specs.Record.{Shape, tracks, track_length, Cells}
use Rattle.plans.specs.Lists.{Falls, Off}

abbrev pub total : List ℕ → (ℕ → ℕ) → ℕ
total [] f = 0
total (t ∷ ts) f = total ts f + f t

-- In set s the records agree but on these tracks.
pub record Flagged (sh : Shape) (x y : Cells) (s : TrackSet) (ts : List ℕ) : Type 0 where
  pub order : Falls (tracks sh s) ts
  pub agree : (t m : ℕ) → t < tracks sh s → Off t ts → m < track_length sh → x s t m ≡ y s t m
