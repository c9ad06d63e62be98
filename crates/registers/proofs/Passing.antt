-- A position passes: what its cells add to the diagonals ahead.
use mathlib.Core.Path.{◌≡◌, refl, sym, ◌∙◌}
use mathlib.Core.Logic.{◌≢◌, by_cases}
use mathlib.Core.List.{List}
use Prim.Native.Nat.{ℕ, suc, ◌+◌, ◌-◌, ◌%◌, ◌<◌, ◌≤◌}
use native.Mathlib.Decide.{dec_lt, ℕ_discrete}
use native.Mathlib.Omega.{arith}
use borrow.Author.Tests.{lt-ltb, le-ltb}
use lib.Bits.{xor_lt}
use lib.ListN.{length, get_or, set}
use lib.Seq.{get_or-set_same, get_or-set_other}
use Rattle.code.specs.Record.{other, Shape, data_tracks, lag, Cells, diagonal}
use Rattle.code.specs.declared.sizes.TrackSet.{TrackSet}
use Rattle.code.specs.declared.sizes.TrackSet.TheVariants.{A, B}
use Rattle.code.proofs.Cell.{lag_sets}
use Rattle.code.proofs.Sums.{sum_zero, back_zero, shifted_same, shifted_but_one}
use Rattle.code.proofs.Digits.{xor_bits}
use Rattle.registers.specs.declared.Registers.{Registers}
use Rattle.registers.specs.Places.{Shifted}
use Rattle.registers.specs.Register.{cells_before, Register, of_set, Hold, entering, Enter, Heads, BitsTo, Stepped}

-- ## The cells before a position

-- A cell is before position m, or it is not.
module _ (x : Cells) (s : TrackSet) (t q m : ℕ) where
  before_is : q < m → cells_before m x s t q ≡ x s t q
  unfolding cells_before
  before_is h = rw (lt-ltb q m h)

  before_none : m ≤ q → cells_before m x s t q ≡ 0
  unfolding cells_before
  before_none h = rw (le-ltb q m h)

-- Position m makes a difference at m alone.
before_next : (x : Cells) (s : TrackSet) (t q m : ℕ) → q ≢ m → cells_before (suc m) x s t q ≡ cells_before m x s t q
before_next x s t q m d = by_cases (dec_lt q m)
    (λ h. before_is x s t q (suc m) (omega arith) ∙ sym (before_is x s t q m h))
    (λ h. before_none x s t q (suc m) (omega arith) ∙ sym (before_none x s t q m (omega arith)))

-- ## Diagonals

-- The data tracks of the set, and of the other one.
module _ (sh : Shape) (x : Cells) (s : TrackSet) (m : ℕ) where
  abbrev T : ℕ
  T = data_tracks sh s

  abbrev O : ℕ
  O = data_tracks sh (other s)

  -- The diagonal d has a cell of position m.
  abbrev Adds : ℕ → ℕ → Type 0
  Adds d v = diagonal sh (cells_before (suc m) x) s d ≡ diagonal sh (cells_before m x) s d + v

  -- It is one of the set, or one of the other set.
  adds_own : (k d : ℕ) → m + suc k ≡ d → k < T → Adds d (x s (suc k) m)
  unfolding diagonal
  adds_own k d e h = omega (
    arith,
    lag_sets sh s,
    before_is x s (suc k) m (suc m) (omega arith),
    before_none x s (suc k) m m (omega arith),
    shifted_but_one (suc T) (cells_before (suc m) x s) (cells_before m x s) (λ t. t) d (suc k) m (omega arith) e
        (λ t q l f i. before_next x s t q m (omega arith)),
    shifted_same (suc O) (cells_before (suc m) x (other s)) (cells_before m x (other s)) (λ t. lag sh - t) d
        (λ t q l i. before_next x (other s) t q m (omega (arith, lag_sets sh s))),
  )

  adds_across : (k d : ℕ) → m + suc k ≡ d → T ≤ k → k < lag sh → Adds d (x (other s) (lag sh - suc k) m)
  unfolding diagonal
  adds_across k d e h b = omega (
    arith,
    before_is x (other s) (lag sh - suc k) m (suc m) (omega arith),
    before_none x (other s) (lag sh - suc k) m m (omega arith),
    shifted_same (suc T) (cells_before (suc m) x s) (cells_before m x s) (λ t. t) d
        (λ t q l i. before_next x s t q m (omega arith)),
    shifted_but_one (suc O) (cells_before (suc m) x (other s)) (cells_before m x (other s)) (λ t. lag sh - t) d (lag sh - suc k) m (omega (arith, lag_sets sh s)) (omega arith)
        (λ t q l f i. before_next x (other s) t q m (omega (arith, lag_sets sh s))),
  )

  -- The diagonals ahead have one cell of position m each.
  adds : (k d : ℕ) → m + suc k ≡ d → k < lag sh → Adds d (entering sh x s m k)
  adds k d e b = by_cases (dec_lt k T)
      (λ h. rw (lt-ltb k T h) (adds_own k d e h))
      (λ h. let l : T ≤ k = omega arith in rw (le-ltb k T l) (adds_across k d e l b))

  -- The diagonal a lag ahead has no cell before m.
  none_yet : diagonal sh (cells_before m x) s (m + lag sh) ≡ 0
  unfolding diagonal
  none_yet = omega (
    arith,
    sum_zero (suc T) _ (λ t l. back_zero (cells_before m x s t) (m + lag sh) t (λ q e. before_none x s t q m (omega (arith, lag_sets sh s)))),
    sum_zero (suc O) _ (λ t l. back_zero (cells_before m x (other s) t) (m + lag sh) (lag sh - t) (λ q e. before_none x (other s) t q m (omega (arith, lag_sets sh s)))),
  )

  -- A cell that is 0 from position m on is the cell before m.
  same_before : (o : TrackSet) (t q : ℕ) → (m ≤ q → x o t q ≡ 0) → x o t q ≡ cells_before m x o t q
  same_before o t q h = by_cases (dec_lt q m)
      (λ l. sym (before_is x o t q m l))
      (λ l. h (omega arith) ∙ sym (before_none x o t q m (omega arith)))

  -- Of the diagonal at d only track 0 at d is not before m, where the data tracks are 0 from m on.
  pub but_check : (d : ℕ) → m ≤ d → d < m + lag sh → ((o : TrackSet) (t q : ℕ) → 1 ≤ t → t ≤ data_tracks sh o → m ≤ q → q < d → x o t q ≡ 0) →
      diagonal sh x s d ≡ diagonal sh (cells_before m x) s d + x s 0 d
  unfolding diagonal
  but_check d from below none = omega (
    arith,
    before_none x s 0 d m from,
    shifted_but_one (suc T) (x s) (cells_before m x s) (λ t. t) d 0 d (omega arith) (omega arith)
        (λ t q l f i. same_before s t q (λ h. none s t q (omega arith) (omega arith) h (omega arith))),
    shifted_same (suc O) (x (other s)) (cells_before m x (other s)) (λ t. lag sh - t) d
        (λ t q l i. same_before (other s) t q (λ h. none (other s) t q (omega (arith, lag_sets sh s)) (omega arith) h (omega (arith, lag_sets sh s)))),
  )

-- Before any position has passed all is 0.
pub at_start : (sh : Shape) (x : Cells) (s : TrackSet) (d : ℕ) → diagonal sh (cells_before 0 x) s d ≡ 0
unfolding diagonal
at_start sh x s d = omega (
  arith,
  sum_zero (suc (data_tracks sh s)) _ (λ t l. back_zero (cells_before 0 x s t) d t (λ q e. before_none x s t q 0 (omega arith))),
  sum_zero (suc (data_tracks sh (other s))) _ (λ t l. back_zero (cells_before 0 x (other s) t) d (lag sh - t) (λ q e. before_none x (other s) t q 0 (omega arith))),
)

-- ## The step

-- The register of a set after position m: shifted, with the cells of m added, the head of the other set's register `o` last.
module _ (sh : Shape) (x : Cells) (s : TrackSet) (m : ℕ) (places : lag sh ≡ 15) (r o c next : List ℕ) (mine : Register sh x s m r) (theirs : Register sh x (other s) m o)
    (room : 14 < length c) (shifted : Shifted r (set c 14 (get_or o 0 0)) next) (cell : (k : ℕ) → suc k < lag sh → get_or c k 0 ≡ entering sh x s m k)
    (bit : (k : ℕ) → k < 14 → get_or c k 0 < 2) (head : x (other s) 0 m ≡ get_or o 0 0) where
  -- All places but the last.
  early : (k : ℕ) → k < 14 → get_or next k 0 ≡ diagonal sh (cells_before (suc m) x) s (suc m + k) % 2
  early k h =
      let e : suc m + k ≡ m + suc k = omega arith in
      rw (e, shifted.place k h, get_or-set_other c 14 k (get_or o 0 0) 0 (omega arith), mine.place (suc k) (omega arith), cell k (omega arith)) (omega (
        arith,
        xor_bits (diagonal sh (cells_before m x) s (m + suc k) % 2) (entering sh x s m k) (omega arith) (rw (cell k (omega arith)) at (bit k h)),
        adds sh x s m k (m + suc k) refl (omega arith),
      ))

  -- The last.
  late : get_or next 14 0 ≡ diagonal sh (cells_before (suc m) x) s (suc m + 14) % 2
  late =
      let e : suc m + 14 ≡ m + lag sh = omega arith in
      let first : lag sh - 15 ≡ 0 = omega arith in
      rw (e, shifted.last, get_or-set_same c 14 (get_or o 0 0) 0 room) (omega (
        arith,
        head,
        theirs.place 0 (omega arith),
        none_yet sh x s m,
        rw first at (adds_across sh x s m 14 (m + lag sh) (omega arith) (omega (arith, lag_sets sh s)) (omega arith)),
      ))

  register_next : Register sh x s (suc m) next
  register_next = record { place = λ k h. by_cases (ℕ_discrete k 14) (λ e. rw e late) (λ d. early k (omega arith)) }

-- Bits stay bits.
bits_next : (r o c next : List ℕ) → ((k : ℕ) → k < 15 → get_or r k 0 < 2) → get_or o 0 0 < 2 → ((k : ℕ) → k < 14 → get_or c k 0 < 2) → 14 < length c →
    Shifted r (set c 14 (get_or o 0 0)) next → (k : ℕ) → k < 15 → get_or next k 0 < 2
bits_next r o c next mine head bit room shifted k h = by_cases (ℕ_discrete k 14)
    (λ e. rw (e, shifted.last, get_or-set_same c 14 (get_or o 0 0) 0 room) head)
    (λ d. rw (shifted.place k (omega arith), get_or-set_other c 14 k (get_or o 0 0) 0 d) (xor_lt 1 _ _ (mine (suc k) (omega arith)) (bit k (omega arith))))

-- Both registers.
module _ (r : Registers) (c : Registers) (a b : List ℕ) (room_a : 14 < length c.a) (room_b : 14 < length c.b)
    (p : Shifted r.a (set c.a 14 (get_or r.b 0 0)) a) (q : Shifted r.b (set c.b 14 (get_or r.a 0 0)) b) where
  registers_next : (sh : Shape) (x : Cells) (m : ℕ) → lag sh ≡ 15 → BitsTo 14 c.a c.b → Hold sh x m r → Enter sh x m c → Heads x m r →
      (s : TrackSet) → Register sh x s (suc m) (of_set s a b)
  registers_next sh x m places bits h n g A = register_next sh x A m places r.a r.b c.a a (h.register A) (h.register B) room_a p (n.cell A) (bits.bit A) (g.head B)
  registers_next sh x m places bits h n g B = register_next sh x B m places r.b r.a c.b b (h.register B) (h.register A) room_b q (n.cell B) (bits.bit B) (g.head A)

  both_bits : BitsTo 15 r.a r.b → BitsTo 14 c.a c.b → (s : TrackSet) (k : ℕ) → k < 15 → get_or (of_set s a b) k 0 < 2
  both_bits mine new A = bits_next r.a r.b c.a a (mine.bit A) (mine.bit B 0 (omega arith)) (new.bit A) room_a p
  both_bits mine new B = bits_next r.b r.a c.b b (mine.bit B) (mine.bit A 0 (omega arith)) (new.bit B) room_b q

  pub stepped : Stepped r c (record { a = a; b = b })
  stepped = record {
    hold = λ sh x m places bits h n g. record { register = registers_next sh x m places bits h n g };
    bits = λ mine new. record { bit = both_bits mine new };
  }
