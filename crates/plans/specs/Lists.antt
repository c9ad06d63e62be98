-- Tracks of a set as a list, the highest first.
use Rattle.std.specs.Prelude.{◌≢◌, List, [], ◌∷◌, ℕ, ◌<◌}

-- The list falls from below n.
abbrev pub Falls : ℕ → List ℕ → Type 0
Falls n [] = Unit {0}
Falls n (t ∷ ts) = (t < n) × Falls t ts

-- t is none of the list.
abbrev pub Off : ℕ → List ℕ → Type 0
Off t [] = Unit {0}
Off t (u ∷ us) = (t ≢ u) × Off t us
