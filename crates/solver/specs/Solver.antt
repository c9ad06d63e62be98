-- Marks, and the plans for the marked tracks of a set.
use Rattle.std.specs.Prelude.{◌≡◌, Bool, true, false, List, ℕ, ◌<◌, ◌≤◌, get_or, Some, None}
use Rattle.code.specs.Record.{Shape, data_tracks, tracks}
use Rattle.code.specs.declared.sizes.TrackSet.{TrackSet}
use Rattle.code.specs.declared.sizes.TrackSet.TheVariants.{A, B}
use Rattle.code.specs.Image.{track_number}
use Rattle.code.specs.Flags.{TrackFlags, flag_count}
use Rattle.solver.specs.declared.Plan.{Plan}

-- Flags as a list of marks, one a track number: `counts` says which mark a track, and `none` stands past the list's end.
abbrev pub marked_by : {M : Type 0} → (M → Bool) → M → Shape → List M → TrackFlags
marked_by counts none sh marks s t = counts (get_or marks (track_number sh s t) none)

-- Marks that are truth values.
abbrev pub marked : Shape → List Bool → TrackFlags
marked sh marks s t = get_or marks (track_number sh s t) false

-- The plan names track t.
pub data Named (p : Plan) (t : ℕ) : Type 0 where
  is_low : p.low ≡ Some t → Named p t
  is_high : p.high ≡ Some t → Named p t
  is_last : p.last ≡ Some t → Named p t

-- All that a plan names are tracks of a set.
abbrev pub HasTracks : Shape → TrackSet → Plan → Type 0
HasTracks sh s p = (t : ℕ) → Named p t → t < tracks sh s

-- A plan fits the flags of a set.
-- The lowest flagged track goes by its own diagonal, the highest data track by the other set's, the one left by the vertical.
pub record Planned (sh : Shape) (f : TrackFlags) (s : TrackSet) (p : Plan) : Type 0 where
  pub exist : HasTracks sh s p
  pub flagged : (t : ℕ) → Named p t → f s t ≡ true
  pub others : (t : ℕ) → t < tracks sh s → (Named p t → ⊥) → f s t ≡ false
  pub low_data : (i : ℕ) → p.low ≡ Some i → i ≤ data_tracks sh s
  pub below : (i : ℕ) → p.low ≡ Some i → (t : ℕ) → t < i → f s t ≡ false
  pub high_data : (k : ℕ) → p.high ≡ Some k → ((i : ℕ) × (p.low ≡ Some i) × (i < k)) × (k ≤ data_tracks sh s)
  pub above : (k : ℕ) → p.high ≡ Some k → (t : ℕ) → k < t → t ≤ data_tracks sh s → f s t ≡ false

-- A plan with a lowest track is one of two flagged tracks at least, and one with a highest is one of three.
pub record Fills (sh : Shape) (f : TrackFlags) (s : TrackSet) (p : Plan) : Type 0 where
  pub two : (i : ℕ) → p.low ≡ Some i → 2 ≤ flag_count sh f s
  pub three : (k : ℕ) → p.high ≡ Some k → 3 ≤ flag_count sh f s

-- A plan of one flagged track at the most.
pub record Single (p : Plan) : Type 0 where
  pub no_low : p.low ≡ None
  pub no_high : p.high ≡ None

-- The plan of a set.
abbrev pub plan_of : Plan → Plan → TrackSet → Plan
plan_of a b A = a
plan_of a b B = b
