-- The errors of a form's tracks, word by word.
use Rattle.std.specs.Prelude.{◌≡◌, ◌≢◌, Bool, true, false, List, ℕ, ◌+◌, ◌*◌, ◌-◌, ◌<◌, ◌≤◌, ◌%◌}
use Rattle.code.specs.declared.sizes.TrackSet.{TrackSet}
use Rattle.code.specs.Record.{row_of, track_length, back}
use Rattle.code.specs.Sizes.{shape}
use Rattle.code.specs.declared.sizes.Sizes.{Sizes}
use Rattle.plans.specs.declared.Form.{Form}
use Rattle.plans.specs.Plans.{pivot, room, count, v_of, u_of, Sized}
use Rattle.words.specs.Words.{bit}
use Rattle.forms.specs.Streams.{Stream, cut}
use Rattle.forms.specs.Forms.{left, gap}
use Rattle.forms.specs.Found.{extent, at_zero, stride, eliminated_row, lower_row, Computed, residue, pivot_sum, Tested}
use Rattle.errors.specs.Rows.{cell, Rows, diagonals, verticals, Next}

-- The rows of errors: u's and v's, the pivots' of A and of B, and u's pair.
abbrev pub ComputedIn : Sizes → ℕ → Form → List ℕ → List ℕ → ℕ → Type 0
ComputedIn z end p rows found n =
    Computed (shape z) end p (diagonals rows) (verticals rows) (cell found 4) (cell found 0) (cell found 1) n

abbrev pub TestedIn : Sizes → ℕ → Form → List ℕ → List ℕ → ℕ → Type 0
TestedIn z end p rows found n = Tested (shape z) end p (diagonals rows) (verticals rows) (cell found 0) (cell found 1) n

-- The pivots' errors are what is left of the verticals.
abbrev pub PivotsIn : Sizes → ℕ → Form → List ℕ → List ℕ → ℕ → Type 0
PivotsIn z end p rows found n = (c : TrackSet) (m : ℕ) → m < n →
    cell found (2 + row_of c) m ≡ cut end (λ q. pivot_sum (shape z) end p (diagonals rows) (verticals rows) (cell found 0) (cell found 1) c q % 2) m

-- Rows of sums and rows of errors of a record, and a form.
pub record Given (z : Sizes) (end : ℕ) (p : Form) (rows found : List ℕ) : Type 0 where
  pub end_data : z.positions ≤ end
  pub end_small : end ≤ track_length (shape z)
  pub sized : Sized (shape z) p
  pub sums : Rows 4 rows
  pub errors : Rows 5 found

-- ## One word

-- The word of u's pair, with v's eliminated.
abbrev pub PairWord : Sizes → ℕ → Form → List ℕ → List ℕ → ℕ → ℕ → Type 0
PairWord z end p rows found i x =
    Next (eliminated_row (shape z) end p (diagonals rows) (verticals rows)) (cell found 4) (stride (shape z) end p) 64 i (extent (shape z) end (u_of p).t) x

-- The word of u's error, from that of its pair.
abbrev pub UpperWord : Sizes → Form → List ℕ → ℕ → ℕ → ℕ → Type 0
UpperWord z p found i pair x = (R : Stream) → ((k : ℕ) → k < 64 → R (64 * i + k) % 2 ≡ bit pair k) →
    Next R (cell found 0) (gap (shape z) (u_of p).s (u_of p).t (pivot p (u_of p).s)) 64 i (track_length (shape z)) x

-- The word of v's error.
abbrev pub LowerWord : Sizes → ℕ → Form → List ℕ → List ℕ → ℕ → ℕ → Type 0
LowerWord z end p rows found i x =
    Next (lower_row (shape z) end p (diagonals rows) (verticals rows) (cell found 0)) (cut end (cell found 1))
    (gap (shape z) (v_of p).s (v_of p).t (pivot p (v_of p).s)) (end - 64 * i) i (extent (shape z) (track_length (shape z)) (v_of p).t) x

-- Only the words from i on of these rows were changed.
pub record Later (i : ℕ) (before after : List ℕ) : Type 0 where
  pub rows : Rows 5 after
  pub early : (r m : ℕ) → r < 5 → m < 64 * i → cell after r m ≡ cell before r m

-- Word i of u's pair and error is put.
pub record UpperPut (z : Sizes) (end : ℕ) (p : Form) (rows before : List ℕ) (i : ℕ) (after : List ℕ) : Type 0 where
  pub later : Later i before after
  pub lower_stays : cell after 1 ≡ cell before 1
  pub pair : (m : ℕ) → m < 64 * (i + 1) → m < extent (shape z) end (u_of p).t →
      cell after 4 m ≡ (eliminated_row (shape z) end p (diagonals rows) (verticals rows) m + back (cell after 4) m (stride (shape z) end p)) % 2
  pub upper : (m : ℕ) → m < 64 * (i + 1) → m < extent (shape z) end (u_of p).t →
      cell after 0 m ≡ (cell after 4 m + back (cell after 0) m (gap (shape z) (u_of p).s (u_of p).t (pivot p (u_of p).s))) % 2
  pub upper_end : (m : ℕ) → 64 * i ≤ m → m < 64 * (i + 1) → extent (shape z) end (u_of p).t ≤ m → cell after 0 m ≡ 0

-- Word i of v's error is put.
pub record LowerPut (z : Sizes) (end : ℕ) (p : Form) (rows before : List ℕ) (i : ℕ) (after : List ℕ) : Type 0 where
  pub later : Later i before after
  pub upper_stays : cell after 0 ≡ cell before 0
  pub pair_stays : cell after 4 ≡ cell before 4
  pub lower : (m : ℕ) → 64 * i ≤ m → m < 64 * (i + 1) → m < extent (shape z) (track_length (shape z)) (v_of p).t →
      cell after 1 m ≡ (lower_row (shape z) end p (diagonals rows) (verticals rows) (cell after 0) m
      + back (cut end (cell after 1)) m (gap (shape z) (v_of p).s (v_of p).t (pivot p (v_of p).s))) % 2
  pub lower_end : (m : ℕ) → 64 * i ≤ m → m < 64 * (i + 1) → extent (shape z) (track_length (shape z)) (v_of p).t ≤ m → cell after 1 m ≡ 0

-- Word i of u's tail is put: of track 0 the cells past `end`, which were 0.
pub record TailPut (z : Sizes) (end : ℕ) (p : Form) (rows before : List ℕ) (i : ℕ) (after : List ℕ) : Type 0 where
  pub later : Later i before after
  pub others : (r : ℕ) → r < 5 → r ≢ 0 → cell after r ≡ cell before r
  pub same : (m : ℕ) → m < extent (shape z) end (u_of p).t → cell after 0 m ≡ cell before 0 m
  pub tail : (m : ℕ) → 64 * i ≤ m → m < 64 * (i + 1) → m < track_length (shape z) → extent (shape z) end (u_of p).t ≤ m →
      cell after 0 m ≡ at_zero (u_of p).t (residue (shape z) end p (diagonals rows) (verticals rows) (cut end (cell after 0)) (cell after 1) (u_of p).s m % 2)

-- Word i of the errors below the pivots is put.
pub record Extended (z : Sizes) (end : ℕ) (p : Form) (rows before : List ℕ) (i : ℕ) (after : List ℕ) : Type 0 where
  pub later : Later i before after
  pub computed : ComputedIn z end p rows after (64 * (i + 1))

-- The word of what is left of a vertical.
pub record PivotWord (z : Sizes) (end : ℕ) (p : Form) (rows found : List ℕ) (c : TrackSet) (i w : ℕ) : Type 0 where
  pub cells : (k : ℕ) → k < 64 → bit w k ≡ pivot_sum (shape z) end p (diagonals rows) (verticals rows) (cell found 0) (cell found 1) c (64 * i + k) % 2

-- Word i of a pivot's error is put, and r says whether it is 0 where the pivot cannot be wrong.
pub record PivotPut (z : Sizes) (end : ℕ) (p : Form) (rows before : List ℕ) (c : TrackSet) (i : ℕ) (after : List ℕ) (r : Bool) : Type 0 where
  pub later : Later i before after
  pub stays : (k : ℕ) → k < 5 → k ≢ 2 + row_of c → cell after k ≡ cell before k
  pub cells : (m : ℕ) → 64 * i ≤ m → m < 64 * (i + 1) →
      cell after (2 + row_of c) m ≡ cut end (λ q. pivot_sum (shape z) end p (diagonals rows) (verticals rows) (cell before 0) (cell before 1) c q % 2) m
  pub right : r ≡ true → (m : ℕ) → 64 * i ≤ m → m < 64 * (i + 1) → m < end → room p c ≤ m →
      pivot_sum (shape z) end p (diagonals rows) (verticals rows) (cell before 0) (cell before 1) c m % 2 ≡ 0
  pub wrong : r ≡ false → ((m : ℕ) → 64 * i ≤ m → m < 64 * (i + 1) → m < end → room p c ≤ m →
      pivot_sum (shape z) end p (diagonals rows) (verticals rows) (cell before 0) (cell before 1) c m % 2 ≡ 0) → ⊥

-- r is true in words of the data past the first alone, where there is a track below the pivots, and for both diagonals where there are two.
pub record ImpliedTold (z : Sizes) (p : Form) (d : TrackSet) (i : ℕ) (r : Bool) : Type 0 where
  pub below : r ≡ true → 1 ≤ count p
  pub two : r ≡ true → d ≢ (v_of p).s → 2 ≤ count p
  pub past : r ≡ true → 1 ≤ i
  pub in_data : r ≡ true → 64 * (i + 1) ≤ z.positions

-- r says whether f is 0 in word i, before position n.
pub record ZeroTold (n : ℕ) (f : Stream) (i : ℕ) (r : Bool) : Type 0 where
  pub right : r ≡ true → (m : ℕ) → 64 * i ≤ m → m < 64 * (i + 1) → m < n → f m % 2 ≡ 0
  pub wrong : r ≡ false → ((m : ℕ) → 64 * i ≤ m → m < 64 * (i + 1) → m < n → f m % 2 ≡ 0) → ⊥

-- r says whether the diagonal of set d is 0 in word i.
abbrev pub DiagonalTold : Sizes → ℕ → Form → List ℕ → List ℕ → TrackSet → ℕ → Bool → Type 0
DiagonalTold z end p rows found d i r =
    ZeroTold (track_length (shape z)) (residue (shape z) end p (diagonals rows) (verticals rows) (cell found 0) (cell found 1) d) i r

-- r says whether what is left of it is, with no errors below the pivots taken off.
abbrev pub LeftTold : Sizes → ℕ → Form → List ℕ → TrackSet → ℕ → Bool → Type 0
LeftTold z end p rows d i r = ZeroTold (track_length (shape z)) (left (shape z) end (diagonals rows) (verticals rows) p d) i r

-- Word i of all errors is put, and r says whether its tests are passed.
pub record Stepped (z : Sizes) (end : ℕ) (p : Form) (rows before : List ℕ) (i : ℕ) (after : List ℕ) (r : Bool) : Type 0 where
  pub later : Later i before after
  pub computed : ComputedIn z end p rows after (64 * (i + 1))
  pub tested : r ≡ true → TestedIn z end p rows after (64 * (i + 1))
  pub pivots : r ≡ true → PivotsIn z end p rows after (64 * (i + 1))
  pub failed : r ≡ false → TestedIn z end p rows after (64 * (i + 1)) → ⊥

-- ## All words

-- Where there are words before the start, all sums are 0 up to a word past it; and no error has been put before it.
pub record Quiet (z : Sizes) (rows : List ℕ) (start : ℕ) : Type 0 where
  pub zero : 0 < start → (r m : ℕ) → r < 4 → m < 64 * (start + 1) → m < track_length (shape z) → cell rows r m ≡ 0

pub record Fresh (found : List ℕ) (start : ℕ) : Type 0 where
  pub rows : Rows 5 found
  pub zero : (r m : ℕ) → r < 5 → m < 64 * start → cell found r m ≡ 0

-- The word to begin with: the start or the one after it, before which the pivots' errors are 0.
pub record Begun (start : ℕ) (before after : List ℕ) (r : ℕ) : Type 0 where
  pub order : start ≤ r
  pub within : r ≤ 33
  pub fresh : Fresh after start
  pub same : r ≡ start → after ≡ before
  pub next : r ≢ start → (0 < start) × (r ≡ start + 1)
  pub zero : r ≢ start → (c : TrackSet) (m : ℕ) → m < 64 * r → cell after (2 + row_of c) m ≡ 0

-- What `find` gives: all errors, and all tests are passed; or the errors so far, and a test is failed.
pub record Found (z : Sizes) (end : ℕ) (p : Form) (rows found : List ℕ) (r : Bool) : Type 0 where
  pub upto : ℕ
  pub computed : ComputedIn z end p rows found upto
  pub all : r ≡ true → track_length (shape z) ≤ upto
  pub tested : r ≡ true → TestedIn z end p rows found upto
  pub pivots : r ≡ true → PivotsIn z end p rows found upto
  pub failed : r ≡ false → TestedIn z end p rows found upto → ⊥
