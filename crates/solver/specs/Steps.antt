-- What the solver's steps give.
use Rattle.std.specs.Prelude.{◌≡◌, ◌≢◌, false, List, ℕ, zero, suc, ◌+◌, ◌-◌, ◌<◌, ◌≤◌, ◌%◌, ltb, Option, Some}
use Rattle.code.specs.Record.{other, Shape, data_tracks, tracks, lag, track_length, Cells, diagonal, vertical, Good}
use Rattle.code.specs.declared.sizes.TrackSet.{TrackSet}
use Rattle.code.specs.Image.{cells}
use Rattle.code.specs.Flags.{TrackFlags}
use Rattle.code.specs.Reach.{pick}
use Rattle.code.specs.Sizes.{shape}
use Rattle.code.specs.declared.sizes.Sizes.{Sizes}
use Rattle.syndrome.specs.Syndrome.{Kept}
use Rattle.solver.specs.declared.Plan.{Plan}
use Rattle.solver.specs.declared.Rule.{Rule}
use Rattle.solver.specs.declared.Rule.TheVariants.{Own, Other, Vertical}
use Rattle.solver.specs.Solver.{Named}

-- ## One cell

-- A sum is added modulo 2 to one cell, if there is a track. A number past the set's tracks stands for none. No other cell is changed.
pub record Settled (z : Sizes) (s : TrackSet) (track : Option ℕ) (p : ℕ) (d : ℕ → ℕ) (out after syn : List ℕ) : Type 0 where
  pub kept : Kept z after syn
  pub here : (t : ℕ) → track ≡ Some t → t < tracks (shape z) s → cells (shape z) after s t p ≡ (cells (shape z) out s t p + d t) % 2
  pub there : (r : TrackSet) (u q : ℕ) → u < tracks (shape z) r → q < track_length (shape z) → (r ≡ s → track ≡ Some u → q ≡ p → ⊥) →
      cells (shape z) after r u q ≡ cells (shape z) out r u q

-- What is added to a cell by its own set's diagonal, by the other set's, by the vertical.
abbrev pub sum_by : Rule → Shape → Cells → TrackSet → ℕ → ℕ → ℕ
sum_by Own sh x s t p = diagonal sh x s (p + t)
sum_by Other sh x s t p = diagonal sh x (other s) (p + (lag sh - t))
sum_by Vertical sh x s t p = vertical sh x s p

abbrev pub By : Rule → Sizes → TrackSet → Option ℕ → ℕ → List ℕ → List ℕ → List ℕ → Type 0
By rule z s track p out after syn = Settled z s track p (λ t. sum_by rule (shape z) (cells (shape z) out) s t p) out after syn

-- What is added to a cell of the tail: track 0 goes by its own diagonal, a data track becomes 0, the vertical track goes by the vertical.
unfoldable pub tail_sum : Shape → Cells → TrackSet → ℕ → ℕ → ℕ
tail_sum sh x s zero p = diagonal sh x s p
tail_sum sh x s (suc t) p = pick (ltb t (data_tracks sh s)) (x s (suc t) p) (vertical sh x s p)

-- r is that sum modulo 2.
pub record TailBit (z : Sizes) (s : TrackSet) (t p : ℕ) (out : List ℕ) (r : ℕ) : Type 0 where
  pub bit : r < 2
  pub sum : r ≡ tail_sum (shape z) (cells (shape z) out) s t p % 2

abbrev pub ByTail : Sizes → TrackSet → Option ℕ → ℕ → List ℕ → List ℕ → List ℕ → Type 0
ByTail z s track p out after syn = Settled z s track p (λ t. tail_sum (shape z) (cells (shape z) out) s t p) out after syn

-- ## A working copy x on the way to a good record y

-- Wherever x agrees with y, x' does.
pub record Still (sh : Shape) (y x x' : Cells) : Type 0 where
  pub cell : (s : TrackSet) (t q : ℕ) → t < tracks sh s → q < track_length sh → x s t q ≡ y s t q → x' s t q ≡ y s t q

-- And x' agrees with y on a set at m.
pub record Made (sh : Shape) (y x x' : Cells) (s : TrackSet) (m : ℕ) : Type 0 where
  pub still : Still sh y x x'
  pub cell : (t : ℕ) → t < tracks sh s → x' s t m ≡ y s t m

-- ## Steps

-- No track below a plan's lowest is flagged, and no data track above its highest. A number past the set's tracks stands for none.
pub record Fits (sh : Shape) (f : TrackFlags) (s : TrackSet) (p : Plan) : Type 0 where
  pub low_data : (i : ℕ) → p.low ≡ Some i → i < tracks sh s → i ≤ data_tracks sh s
  pub below : (i : ℕ) → p.low ≡ Some i → i < tracks sh s → (t : ℕ) → t < i → f s t ≡ false
  pub high_data : (k : ℕ) → p.high ≡ Some k → k < tracks sh s → (0 < k) × (k ≤ data_tracks sh s)
  pub above : (k : ℕ) → p.high ≡ Some k → k < tracks sh s → (t : ℕ) → k < t → t ≤ data_tracks sh s → f s t ≡ false

-- What a step at m goes by. x agrees with y before m and, at m, on the set's tracks that the plan does not name. At a position of the data
-- they also agree from m up to a lag on: on the tracks that f does not flag and, beside a highest track, on the other set.
pub record Known (sh : Shape) (f : TrackFlags) (s : TrackSet) (p : Plan) (y x : Cells) (m : ℕ) : Type 0 where
  pub before : (c : TrackSet) (t q : ℕ) → t < tracks sh c → q < m → x c t q ≡ y c t q
  pub rest : (t : ℕ) → t < tracks sh s → (Named p t → ⊥) → x s t m ≡ y s t m
  pub clear : m < sh.positions → (c : TrackSet) (t q : ℕ) → t < tracks sh c → f c t ≡ false → m ≤ q → q < m + lag sh → x c t q ≡ y c t q
  pub across : m < sh.positions → (k : ℕ) → p.high ≡ Some k → k < tracks sh s → (t q : ℕ) → t < tracks sh (other s) → m ≤ q → q < m + lag sh → x (other s) t q ≡ y (other s) t q

-- One set is solved at m. Only the cells of the plan's tracks at m are changed.
pub record Stepped (z : Sizes) (s : TrackSet) (p : Plan) (m : ℕ) (out after syn : List ℕ) : Type 0 where
  pub kept : Kept z after syn
  pub only : (r : TrackSet) (u q : ℕ) → u < tracks (shape z) r → q < track_length (shape z) → (r ≡ s → Named p u → q ≡ m → ⊥) →
      cells (shape z) after r u q ≡ cells (shape z) out r u q
  pub made : (f : TrackFlags) (y : Cells) → Fits (shape z) f s p → Good (shape z) y →
      Known (shape z) f s p y (cells (shape z) out) m → Made (shape z) y (cells (shape z) out) (cells (shape z) after) s m

-- From one position up to another all cells of a set but those of one track are y's.
abbrev pub Others : Sizes → TrackSet → Option ℕ → ℕ → ℕ → Cells → List ℕ → Type 0
Others z s track from to y out =
    (u q : ℕ) → u < tracks (shape z) s → from ≤ q → q < to → track ≢ Some u → cells (shape z) out s u q ≡ y s u q

-- One track of a set is made right from one position up to another, if all its other tracks are right there. No other cell is changed.
pub record Ahead (z : Sizes) (s : TrackSet) (track : Option ℕ) (from to : ℕ) (out after syn : List ℕ) : Type 0 where
  pub kept : Kept z after syn
  pub order : from ≤ to
  pub only : (r : TrackSet) (u q : ℕ) → u < tracks (shape z) r → q < track_length (shape z) → (r ≡ s → track ≡ Some u → from ≤ q → q < to → ⊥) →
      cells (shape z) after r u q ≡ cells (shape z) out r u q
  pub still : (y : Cells) → Good (shape z) y → Others z s track from to y out → Still (shape z) y (cells (shape z) out) (cells (shape z) after)
  pub right : (y : Cells) → Good (shape z) y → Others z s track from to y out → (t : ℕ) → track ≡ Some t → t < tracks (shape z) s →
      (q : ℕ) → from ≤ q → q < to → cells (shape z) after s t q ≡ y s t q
