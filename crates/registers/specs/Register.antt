-- Document 02, note 4: the encoder's registers of partial sums, one for each set. The source's figure 4 shows one.
use Rattle.std.specs.Prelude.{◌≡◌, List, ℕ, suc, ◌+◌, ◌-◌, ◌%◌, ◌<◌, ltb, get_or}
use Rattle.code.specs.Record.{other, Shape, data_tracks, lag, Cells, diagonal}
use Rattle.code.specs.declared.sizes.TrackSet.{TrackSet}
use Rattle.code.specs.declared.sizes.TrackSet.TheVariants.{A, B}
use Rattle.code.specs.Reach.{pick}
use Rattle.registers.specs.declared.Registers.{Registers}

-- The cells before position m; all others count as 0.
unfoldable pub cells_before : ℕ → Cells → Cells
cells_before m x s t q = pick (ltb q m) (x s t q) 0

-- The register of a set once m positions have passed: place k holds what their cells add to the set's diagonal m + k. So after
-- position m it holds what the cells up to m add to the diagonals m + 1 to m + 15, A's to the positive ones, B's to the negative ones.
pub record Register (sh : Shape) (x : Cells) (s : TrackSet) (m : ℕ) (r : List ℕ) : Type 0 where
  pub place : (k : ℕ) → k < lag sh → get_or r k 0 ≡ diagonal sh (cells_before m x) s (m + k) % 2

-- A set's list of two.
abbrev pub of_set : TrackSet → List ℕ → List ℕ → List ℕ
of_set A a b = a
of_set B a b = b

-- Both registers.
pub record Hold (sh : Shape) (x : Cells) (m : ℕ) (r : Registers) : Type 0 where
  pub register : (s : TrackSet) → Register sh x s m (of_set s r.a r.b)

-- The cell of position m that goes to place k of a set's register: track k + 1 of the set, and after the last data track the other
-- set's from the last data track down to track 0.
abbrev pub entering : Shape → Cells → TrackSet → ℕ → ℕ → ℕ
entering sh x s m k = pick (ltb k (data_tracks sh s)) (x s (suc k) m) (x (other s) (lag sh - suc k) m)

-- A column has these cells of position m for both registers, all but track 0, which goes to the last place.
pub record Enter (sh : Shape) (x : Cells) (m : ℕ) (c : Registers) : Type 0 where
  pub cell : (s : TrackSet) (k : ℕ) → suc k < lag sh → get_or (of_set s c.a c.b) k 0 ≡ entering sh x s m k

-- Track 0 at position m is the head of the set's register.
pub record Heads (x : Cells) (m : ℕ) (r : Registers) : Type 0 where
  pub head : (s : TrackSet) → x s 0 m ≡ get_or (of_set s r.a r.b) 0 0

-- The first n elements of two lists are 0 or 1.
pub record BitsTo (n : ℕ) (a b : List ℕ) : Type 0 where
  pub bit : (s : TrackSet) (k : ℕ) → k < n → get_or (of_set s a b) k 0 < 2

-- What a step gives: from the registers of a record before position m, and its cells there, those after it. Bits stay bits.
pub record Stepped (r : Registers) (c : Registers) (next : Registers) : Type 0 where
  pub hold : (sh : Shape) (x : Cells) (m : ℕ) → lag sh ≡ 15 → BitsTo 14 c.a c.b → Hold sh x m r → Enter sh x m c → Heads x m r → Hold sh x (suc m) next
  pub bits : BitsTo 15 r.a r.b → BitsTo 14 c.a c.b → BitsTo 15 next.a next.b
