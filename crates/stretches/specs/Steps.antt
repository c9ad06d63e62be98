-- What the steps of solving by flagged cells ask and give.
use Rattle.std.specs.Prelude.{◌≡◌, ◌≢◌, Bool, true, false, List, ℕ, ◌+◌, ◌/◌, ◌%◌, ◌^◌, ◌<◌, ◌≤◌, get_or, Option, Some}
use Rattle.code.specs.declared.sizes.TrackSet.{TrackSet}
use Rattle.code.specs.Record.{other, Shape, tracks, lag, track_length, Cells, Good}
use Rattle.code.specs.Image.{cells}
use Rattle.code.specs.Flags.{TrackFlags, CellFlags, word_flags, flag_count, AgreeOff}
use Rattle.code.specs.Reach.{flags_code}
use Rattle.code.specs.Sizes.{shape}
use Rattle.code.specs.declared.sizes.Sizes.{Sizes}
use Rattle.syndrome.specs.Syndrome.{Kept}
use Rattle.solver.specs.declared.Plan.{Plan}
use Rattle.solver.specs.Solver.{Named, HasTracks, Single, plan_of}
use Rattle.solver.specs.Steps.{Fits}
use Rattle.flags.specs.Words.{word_cells, Windows}

-- The tracks whose cell at m is flagged.
abbrev pub flags_at : CellFlags → ℕ → TrackFlags
flags_at flag m s t = flag s t m

-- ## Runs of positions

-- All positions from one up to another have these two words.
pub record Alike (words near : List ℕ) (word wide from to : ℕ) : Type 0 where
  pub word_at : (q : ℕ) → from ≤ q → q < to → get_or words q 0 ≡ word
  pub near_at : (q : ℕ) → from ≤ q → q < to → get_or near q 0 ≡ wide

-- r is past `from`, `to` at the latest, and the words do not change before it.
pub record RunEnd (words near : List ℕ) (from to r : ℕ) : Type 0 where
  pub more : from < r
  pub within : r ≤ to
  pub alike : Alike words near (get_or words from 0) (get_or near from 0) from r

-- ## Plans

-- True only if, of any two bits of a number, one is 0.
pub record OneBit (x : ℕ) (r : Bool) : Type 0 where
  pub one : r ≡ true → (u t : ℕ) → u < t → x / 2 ^ u % 2 ≡ 1 → x / 2 ^ t % 2 ≢ 1

-- True only if a word flags one track of a set at the most.
pub record AtMostOne (sh : Shape) (word : ℕ) (s : TrackSet) (r : Bool) : Type 0 where
  pub most : r ≡ true → flag_count sh (word_flags sh word) s ≤ 1

-- The word of a position and that of its window, whose tracks have a code.
pub record InWindow (sh : Shape) (word wide : ℕ) : Type 0 where
  pub coded : flags_code sh (word_flags sh wide) ≢ 0
  pub covered : (s : TrackSet) (t : ℕ) → t < tracks sh s → word_flags sh wide s t ≡ false → word_flags sh word s t ≡ false

-- f flags no track of a set that g does not.
abbrev pub Below : Shape → TrackFlags → TrackFlags → TrackSet → Type 0
Below sh f g s = (t : ℕ) → t < tracks sh s → g s t ≡ false → f s t ≡ false

-- track is the one flagged track of a set, or none where none is flagged or more than one.
pub record OneTrack (sh : Shape) (f : TrackFlags) (s : TrackSet) (track : Option ℕ) : Type 0 where
  pub exists : (t : ℕ) → track ≡ Some t → t < tracks sh s
  pub flagged : (t : ℕ) → track ≡ Some t → f s t ≡ true
  pub one : (t : ℕ) → track ≡ Some t → flag_count sh f s ≤ 1
  pub others : flag_count sh f s ≤ 1 → (u : ℕ) → u < tracks sh s → track ≢ Some u → f s u ≡ false

-- r is the track if that is flagged, and otherwise none.
pub record IfFlagged (f : TrackFlags) (s : TrackSet) (track r : Option ℕ) : Type 0 where
  pub track_of : (t : ℕ) → r ≡ Some t → track ≡ Some t
  pub flagged : (t : ℕ) → r ≡ Some t → f s t ≡ true
  pub kept : (t : ℕ) → track ≡ Some t → f s t ≡ true → r ≡ Some t

-- The plan for a set at a position: f flags tracks at the position and g those of its window.
-- It names flagged tracks alone and, where there is more than one, all of them. Its order is that of the window's tracks.
pub record PlanAt (sh : Shape) (f g : TrackFlags) (s : TrackSet) (p : Plan) : Type 0 where
  pub exist : HasTracks sh s p
  pub fits : Fits sh g s p
  pub flagged : (t : ℕ) → Named p t → f s t ≡ true
  pub rest : 1 < flag_count sh f s → (t : ℕ) → t < tracks sh s → (Named p t → ⊥) → f s t ≡ false
  pub three : (k : ℕ) → p.high ≡ Some k → 3 ≤ flag_count sh g s

-- A plan suits the flagged cells of a set at m. Beside a highest track the other set has one flagged cell a position at the most, up to a lag on.
pub record Suits (sh : Shape) (flag : CellFlags) (s : TrackSet) (m : ℕ) (p : Plan) : Type 0 where
  pub window : TrackFlags
  pub clear : m < sh.positions → (c : TrackSet) (t q : ℕ) → t < tracks sh c → window c t ≡ false → m ≤ q → q < m + lag sh → flag c t q ≡ false
  pub fits : Fits sh window s p
  pub flagged : (t : ℕ) → t < tracks sh s → Named p t → flag s t m ≡ true
  pub rest : 1 < flag_count sh (flags_at flag m) s → (t : ℕ) → t < tracks sh s → (Named p t → ⊥) → flag s t m ≡ false
  pub across : m < sh.positions → (k : ℕ) → p.high ≡ Some k → (q : ℕ) → m ≤ q → q < m + lag sh → flag_count sh (flags_at flag q) (other s) ≤ 1

-- ## A working copy x on the way to a good record y

-- They agree on the cells that are not flagged; before n, on the sets with one flagged cell at the most at a position; and before m, on all cells.
pub record Ready (sh : Shape) (flag : CellFlags) (y x : Cells) (n m : ℕ) : Type 0 where
  pub good : Good sh y
  pub clear : AgreeOff sh flag x y
  pub ones : (s : TrackSet) (t q : ℕ) → t < tracks sh s → q < n → flag_count sh (flags_at flag q) s ≤ 1 → x s t q ≡ y s t q
  pub before : (s : TrackSet) (t q : ℕ) → t < tracks sh s → q < m → x s t q ≡ y s t q

-- From n and m to n' and m'. Only flagged cells are changed.
pub record Advanced (z : Sizes) (flag : CellFlags) (n m n' m' : ℕ) (out after syn : List ℕ) : Type 0 where
  pub kept : Kept z after syn
  pub only : AgreeOff (shape z) flag (cells (shape z) out) (cells (shape z) after)
  pub ready : (y : Cells) → Ready (shape z) flag y (cells (shape z) out) n m → Ready (shape z) flag y (cells (shape z) after) n' m'

-- The sets with one flagged cell at the most at a position are made right from one position up to another.
abbrev pub OnesTo : Sizes → CellFlags → ℕ → ℕ → List ℕ → List ℕ → List ℕ → Type 0
OnesTo z flag from to out after syn = Advanced z flag from 0 to 0 out after syn

-- And, once that is done at every position, all cells are.
abbrev pub AllTo : Sizes → CellFlags → ℕ → ℕ → List ℕ → List ℕ → List ℕ → Type 0
AllTo z flag from to out after syn = Advanced z flag (track_length (shape z)) from (track_length (shape z)) to out after syn

-- ## Steps

-- The flagged cells of a set, in a run of positions that its plan suits, where the other set has one a position at the most.
pub record SetRun (z : Sizes) (s : TrackSet) (p : Plan) (from to : ℕ) (out after syn : List ℕ) : Type 0 where
  pub kept : Kept z after syn
  pub advanced : (flag : CellFlags) → ((q : ℕ) → from ≤ q → q < to → Suits (shape z) flag s q p) →
      ((q : ℕ) → from ≤ q → q < to → flag_count (shape z) (flags_at flag q) (other s) ≤ 1) → AllTo z flag from to out after syn

-- All flagged cells, in a run of positions that the plans suit. A plan of one track is that of a set with one flagged cell at the most.
pub record AllRun (z : Sizes) (a b : Plan) (from to : ℕ) (out after syn : List ℕ) : Type 0 where
  pub kept : Kept z after syn
  pub advanced : (flag : CellFlags) → ((s : TrackSet) (q : ℕ) → from ≤ q → q < to → Suits (shape z) flag s q (plan_of a b s)) →
      ((s : TrackSet) → Single (plan_of a b s) → (q : ℕ) → from ≤ q → q < to → flag_count (shape z) (flags_at flag q) s ≤ 1) →
      AllTo z flag from to out after syn

-- What a pass makes right from one position up to another, where, with the pass at q, the sets with one flagged cell are right up to `ones q` and all
-- cells up to `all q`.
abbrev pub Passed : (ℕ → ℕ) → (ℕ → ℕ) → Sizes → CellFlags → ℕ → ℕ → List ℕ → List ℕ → List ℕ → Type 0
Passed ones all z flag from to out after syn = Advanced z flag (ones from) (all from) (ones to) (all to) out after syn

-- In a run of positions with these words.
pub record RunSolved (ones all : ℕ → ℕ) (z : Sizes) (word wide from to : ℕ) (out after syn : List ℕ) : Type 0 where
  pub kept : Kept z after syn
  pub advanced : (words near : List ℕ) → Windows (shape z) words near → Alike words near word wide from to →
      Passed ones all z (word_cells (shape z) words) from to out after syn
