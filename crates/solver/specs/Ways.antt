-- The ways of flagged tracks.
use Rattle.std.specs.Prelude.{◌≡◌, List, ℕ, ◌+◌, ◌*◌, ◌-◌, ◌<◌, get_or, Option, Some, None, IfSome}
use Rattle.code.specs.Record.{other, row_of, tracks, lag, track_length}
use Rattle.code.specs.declared.sizes.TrackSet.{TrackSet}
use Rattle.code.specs.Sizes.{shape}
use Rattle.code.specs.declared.sizes.Sizes.{Sizes}
use Rattle.syndrome.specs.Syndrome.{LineOf}
use Rattle.solver.specs.declared.Plan.{Plan}
use Rattle.solver.specs.declared.Rule.{Rule}
use Rattle.solver.specs.declared.Rule.TheVariants.{Own, Other, Vertical}
use Rattle.solver.specs.declared.Way.{Way}
use Rattle.solver.specs.declared.Ways.{Ways}

-- Where the syndromes that a track goes by begin.
abbrev pub sums_from : Rule → Sizes → TrackSet → ℕ → ℕ
sums_from Own z s t = row_of s * track_length (shape z) + t
sums_from Other z s t = row_of (other s) * track_length (shape z) + (lag (shape z) - t)
sums_from Vertical z s t = (2 + row_of s) * track_length (shape z)

-- The way of a track by a rule.
pub record IsWay (z : Sizes) (s : TrackSet) (rule : Rule) (w : Way) : Type 0 where
  pub track : w.t < tracks (shape z) s
  pub line : LineOf z s w.t w.line
  pub sums : w.sums ≡ sums_from rule z s w.t

-- The tracks of ways.
abbrev pub track_of : Option Way → Option ℕ
track_of None = None
track_of (Some w) = Some w.t

abbrev pub tracks_of : Ways → Plan
tracks_of w = record { low = track_of w.low; high = track_of w.high; last = track_of w.last }

-- The way of a plan's track. A number past the set's tracks has none.
pub record WayOf (z : Sizes) (s : TrackSet) (rule : Rule) (track : Option ℕ) (way : Option Way) : Type 0 where
  pub is : IfSome way (λ w. IsWay z s rule w)
  pub of : (t : ℕ) → track_of way ≡ Some t → track ≡ Some t
  pub found : (t : ℕ) → track ≡ Some t → t < tracks (shape z) s → track_of way ≡ Some t

-- The lowest track goes by its own diagonal, the highest by the other set's, the one left by the vertical.
pub record WaysOf (z : Sizes) (s : TrackSet) (w : Ways) : Type 0 where
  pub low : IfSome w.low (λ i. IsWay z s Own i)
  pub high : IfSome w.high (λ k. IsWay z s Other k)
  pub last : IfSome w.last (λ j. IsWay z s Vertical j)

-- The syndrome that a way reads at a position.
abbrev pub read_sum : List ℕ → Option Way → ℕ → ℕ
read_sum syn None p = 0
read_sum syn (Some w) p = get_or syn (w.sums + p) 0
