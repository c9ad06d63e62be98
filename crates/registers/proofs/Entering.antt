-- From a payload to the cells that enter the registers.
use mathlib.Core.Path.{◌≡◌, sym, ap, ◌∙◌}
use mathlib.Core.Logic.{by_cases}
use mathlib.Core.List.{List}
use Prim.Native.Nat.{ℕ, suc, ◌+◌, ◌*◌, ◌-◌, ◌/◌, ◌%◌, ◌^◌, ◌<◌, ◌≤◌}
use native.Mathlib.Decide.{dec_lt}
use native.Mathlib.Omega.{arith}
use borrow.Author.Tests.{lt-ltb, le-ltb}
use lib.ListN.{get_or}
use lib.Pow.{shr_le}
use Rattle.code.specs.Record.{other, Shape, data_tracks, lag, track_length, Cells}
use Rattle.code.specs.declared.sizes.TrackSet.{TrackSet}
use Rattle.code.specs.declared.sizes.TrackSet.TheVariants.{A, B}
use Rattle.code.specs.Payload.{digits, payload_index}
use Rattle.code.proofs.Digits.{digits_inj, digits_digit, digits_lt}
use Rattle.registers.specs.declared.Registers.{Registers}
use Rattle.registers.specs.Places.{BitsAt}
use Rattle.registers.specs.Register.{of_set, Enter, BitsTo}
use Rattle.registers.specs.Steps.{Sevens, DataOf, first_byte, SevenAt, Ordered, BlockBytes, CellsOf}

-- ## What the functions give

-- Seven bytes of each set, in the order of each register.
pub ordered_bytes : (payload : List ℕ) (at : ℕ) (a b places_a places_b : List ℕ) → SevenAt payload at a → SevenAt payload (at + 7) b → Ordered a b places_a → Ordered b a places_b →
    BlockBytes payload at (record { a = places_a; b = places_b })
ordered_bytes payload at a b places_a places_b p q u v = record { own = own; across = across }
  where
    index : (i j : ℕ) → i ≡ j → get_or payload i 0 ≡ get_or payload j 0
    index i j e = ap (λ n. get_or payload n 0) e

    own : (s : TrackSet) (k : ℕ) → k < 7 → get_or (of_set s places_a places_b) k 0 ≡ get_or payload (at + first_byte s + k) 0
    own A k h = u.first k h ∙ p.byte_at k h ∙ index _ _ (omega arith)
    own B k h = v.first k h ∙ q.byte_at k h

    across : (s : TrackSet) (k : ℕ) → k < 7 → get_or (of_set s places_a places_b) (7 + k) 0 ≡ get_or payload (at + first_byte (other s) + (6 - k)) 0
    across A k h = u.then k h ∙ q.byte_at (6 - k) (omega arith)
    across B k h = v.then k h ∙ p.byte_at (6 - k) (omega arith) ∙ index _ _ (omega arith)

-- The bits of both sets' places.
pub both_bits_at : (bytes : Registers) (k : ℕ) (a b : List ℕ) → BitsAt bytes.a k a → BitsAt bytes.b k b → CellsOf bytes k (record { a = a; b = b })
both_bits_at bytes k a b p q = record { bits_at = go }
  where
    go : (s : TrackSet) → BitsAt (of_set s bytes.a bytes.b) k (of_set s a b)
    go A = p
    go B = q

-- The cells are bits.
pub cells_bits : (bytes : Registers) (k : ℕ) (cells : Registers) → CellsOf bytes k cells → BitsTo 14 cells.a cells.b
cells_bits bytes k cells c = record { bit = λ s i h. omega (arith, (c.bits_at s).place i (omega arith)) }

-- ## What that is in a record

-- A cell is a bit of the byte that its track carries.
cell_of_byte : (f : ℕ → ℕ) (v j k : ℕ) → ((i : ℕ) → i < 8 → f i < 2) → v ≡ digits 8 f → j < 8 → k + suc j ≡ 8 → v / 2 ^ k % 2 ≡ f j
cell_of_byte f v j k bits e h i =
    let place : 8 - suc j ≡ k = omega arith in
    let small : v < 2 ^ 8 = omega (arith, digits_lt 8 f bits) in
    rw place at (digits_inj 8 (λ p. v / 2 ^ (8 - suc p) % 2) f (λ p l. omega arith) bits (digits_digit 8 v small ∙ e) j h)

module _ (sh : Shape) (n : ℕ) (payload : List ℕ) (x : Cells) (sevens : Sevens sh n) (d : DataOf sh n payload x) where
  -- Both sets have seven data tracks.
  tracks_seven : (s : TrackSet) → data_tracks sh s ≡ 7
  tracks_seven A = sevens.t1_seven
  tracks_seven B = sevens.t2_seven

  -- Where a track's byte is in the payload.
  index_is : (b : ℕ) (s : TrackSet) (c : ℕ) → payload_index sh b s c ≡ 14 * b + first_byte s + c
  index_is b A c = rw (sevens.t1_seven, sevens.t2_seven) (omega arith)
  index_is b B c = rw (sevens.t1_seven, sevens.t2_seven) (omega arith)

  -- Position j of block b on track c + 1.
  data_cell : (b j k : ℕ) → b < n → j < 8 → k + suc j ≡ 8 → (s : TrackSet) (c : ℕ) → c < 7 → get_or payload (14 * b + first_byte s + c) 0 / 2 ^ k % 2 ≡ x s (suc c) (8 * b + j)
  data_cell b j k h i e s c l =
      let t = tracks_seven s in
      rw (sym (index_is b s c)) (cell_of_byte (λ p. x s (suc c) (8 * b + p)) _ j k
      (λ p g. d.bits s (suc c) (8 * b + p) (omega arith) (omega arith) (omega (arith, sevens.blocks)))
      (d.carries.byte b s c h (omega arith)) i e)

  -- What enters in order: the set's own tracks, then the other's.
  enter_by : (m : ℕ) (c : Registers) →
      ((s : TrackSet) (k : ℕ) → k < 7 → get_or (of_set s c.a c.b) k 0 ≡ x s (suc k) m) →
      ((s : TrackSet) (k : ℕ) → k < 7 → get_or (of_set s c.a c.b) (7 + k) 0 ≡ x (other s) (suc (6 - k)) m) →
      Enter sh x m c
  enter_by m c own across = record {
    cell = λ s k h. by_cases (dec_lt k (data_tracks sh s))
        (λ l. rw (lt-ltb k (data_tracks sh s) l) (own s k (omega (arith, tracks_seven s))))
        (λ l.
        let t = tracks_seven s in
        let g : data_tracks sh s ≤ k = omega arith in
        let i : k ≡ 7 + (k - 7) = omega arith in
        let track : lag sh - suc k ≡ suc (6 - (k - 7)) = omega (arith, sevens.t1_seven, sevens.t2_seven) in
        rw (le-ltb k (data_tracks sh s) g, track) (ap (λ p. get_or (of_set s c.a c.b) p 0) i ∙ across s (k - 7) (omega (arith, sevens.t1_seven, sevens.t2_seven))));
  }

  -- Position j of block b: bit 7 - j of its bytes.
  pub enter_data : (b j k m : ℕ) (bytes cells : Registers) → b < n → j < 8 → k + suc j ≡ 8 → 8 * b + j ≡ m → BlockBytes payload (14 * b) bytes → CellsOf bytes k cells → Enter sh x m cells
  enter_data b j k m bytes cells h i e f p q = rw (sym f) (enter_by (8 * b + j) cells
      (λ s c l. (q.bits_at s).place c (omega arith) ∙ rw (p.own s c l) (data_cell b j k h i e s c l))
      (λ s c l. (q.bits_at s).place (7 + c) (omega arith) ∙ rw (p.across s c l) (data_cell b j k h i e (other s) (6 - c) (omega arith))))

  -- A position of the tail: nothing.
  pub enter_tail : (m k : ℕ) (bytes cells : Registers) → 8 * n ≤ m → m < track_length sh → ((s : TrackSet) (i : ℕ) → i < 15 → get_or (of_set s bytes.a bytes.b) i 0 ≡ 0) → CellsOf bytes k cells → Enter sh x m cells
  enter_tail m k bytes cells h l none q = enter_by m cells
      (λ s c g. zero_at s c (omega arith) ∙ sym (d.tail s (suc c) m (omega arith) (omega (arith, tracks_seven s)) (omega (arith, sevens.blocks)) l))
      (λ s c g. zero_at s (7 + c) (omega arith) ∙ sym (d.tail (other s) (suc (6 - c)) m (omega arith) (omega (arith, tracks_seven (other s))) (omega (arith, sevens.blocks)) l))
    where
      zero_at : (s : TrackSet) (i : ℕ) → i < 15 → get_or (of_set s cells.a cells.b) i 0 ≡ 0
      zero_at s i g = (q.bits_at s).place i g ∙ rw (none s i g) (omega (arith, shr_le 0 k))
