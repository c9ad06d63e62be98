-- Tracks 0 position by position.
use mathlib.Core.Path.{◌≡◌, sym, ap, ◌∙◌}
use mathlib.Core.Logic.{◌≢◌, by_cases}
use mathlib.Core.List.{List, append-nil}
use Prim.Native.Nat.{ℕ, zero, suc, ◌+◌, ◌*◌, ◌-◌, ◌%◌, ◌<◌, ◌≤◌}
use native.Mathlib.Decide.{dec_lt, ℕ_discrete}
use native.Mathlib.Nat.{add-zero}
use native.Mathlib.Omega.{arith}
use borrow.Rule.Slice.PartMut.{put_mid, mid_len, same_len_mid}
use lib.ListN.{length, get_or, take, drop, set, replicate, get_or-replicate, length-drop}
use lib.Seq.{get_or-set_same, get_or-set_other, get_or-drop, set-get_or}
use Rattle.code.specs.Record.{Shape, track_length, Cells, diagonal}
use Rattle.code.specs.declared.sizes.TrackSet.{TrackSet}
use Rattle.code.specs.declared.sizes.TrackSet.TheVariants.{A, B}
use Rattle.track.specs.Track.{Bits}
use Rattle.track.proofs.Cells.{every}
use Rattle.track.proofs.Parts.{put_before, put_in}
use Rattle.registers.specs.declared.Registers.{Registers}
use Rattle.registers.specs.Places.{BitsAt}
use Rattle.registers.specs.Register.{of_set, Hold, Enter, BitsTo}
use Rattle.registers.specs.Steps.{Sevens, DataOf, ChecksOf, BlockBytes, CellsOf, Passed, Passing, HeldAt, Held, TwoPassed, TwoHeld, Carried, slid, TailHeld}
use Rattle.registers.proofs.Passing.{but_check, at_start}
use Rattle.registers.proofs.Entering.{cells_bits, enter_data, enter_tail}
use Rattle.registers.proofs.Sliding.{slide_head, nothing, slid_stepped}

-- A write at m or behind it changes nothing for the first m positions, nor for the registers that there are for them.
pub passing_stays : (n : ℕ) (payload : List ℕ) (m : ℕ) (a b after_a after_b : List ℕ) (r : Registers) →
    ((s : TrackSet) (q : ℕ) → q < m → get_or (of_set s after_a after_b) q 0 ≡ get_or (of_set s a b) q 0) → Passing n payload m a b r → Passing n payload m after_a after_b r
passing_stays n payload m a b after_a after_b r stays p = record {
  registers = p.registers;
  tracks = record { bit = λ s q h. rw (stays s q h) (p.tracks.bit s q h) };
  hold = λ sh x sevens d c. p.hold sh x sevens d (before x c);
  even = λ sh x sevens d c. p.even sh x sevens d (before x c);
}
  where
    before : (x : Cells) → ChecksOf m after_a after_b x → ChecksOf m a b x
    before x c = record { cell = λ s q h. c.cell s q h ∙ stays s q h }

held_stays : (n : ℕ) (payload : List ℕ) (m : ℕ) (a b after_a after_b : List ℕ) →
    ((s : TrackSet) (q : ℕ) → q < m → get_or (of_set s after_a after_b) q 0 ≡ get_or (of_set s a b) q 0) → Held n payload m a b → Held n payload m after_a after_b
held_stays n payload m a b after_a after_b stays h = record {
  held = λ q l.
      let there = h.held q l in
      record { registers = there.registers; passing = passing_stays n payload q a b after_a after_b there.registers (λ s i g. stays s i (omega arith)) there.passing };
}

-- There are registers for one more.
held_next : (n : ℕ) (payload : List ℕ) (m i : ℕ) (a b : List ℕ) (next : Registers) → suc m ≡ i → Held n payload m a b → Passing n payload i a b next → Held n payload i a b
held_next n payload m i a b next e h p = record {
  held = λ q l. by_cases (ℕ_discrete q i)
      (λ same. rw same (record { registers = next; passing = p }))
      (λ d. h.held q (omega arith));
}

-- One more position has passed.
module _ (n : ℕ) (payload : List ℕ) (m k : ℕ) (r : Registers) (bytes : Registers) (a b after_a after_b : List ℕ) (next : Registers)
    (p : Passing n payload m a b r) (q : Passed m k r bytes a b after_a after_b next) (room_a : m < length a) (room_b : m < length b)
    (enter : (sh : Shape) (x : Cells) → Sevens sh n → DataOf sh n payload x → Enter sh x m q.cells) where
  -- The heads are written at m, and the rest stays.
  at_m : (s : TrackSet) → get_or (of_set s after_a after_b) m 0 ≡ get_or (of_set s r.a r.b) 0 0
  at_m A = rw q.track_a (get_or-set_same a m _ 0 room_a)
  at_m B = rw q.track_b (get_or-set_same b m _ 0 room_b)

  off_m : (s : TrackSet) (i : ℕ) → i ≢ m → get_or (of_set s after_a after_b) i 0 ≡ get_or (of_set s a b) i 0
  off_m A i d = rw q.track_a (get_or-set_other a m i _ 0 d)
  off_m B i d = rw q.track_b (get_or-set_other b m i _ 0 d)

  bits : BitsTo 14 q.cells.a q.cells.b
  bits = cells_bits bytes k q.cells q.taken

  module _ (sh : Shape) (x : Cells) (sevens : Sevens sh n) (d : DataOf sh n payload x) (c : ChecksOf (suc m) after_a after_b x) where
    -- The record has the tracks 0 that were there before.
    checks_before : ChecksOf m a b x
    checks_before = record { cell = λ s i h. c.cell s i (omega arith) ∙ off_m s i (omega arith) }

    head : (s : TrackSet) → x s 0 m ≡ get_or (of_set s r.a r.b) 0 0
    head s = c.cell s m (omega arith) ∙ at_m s

    held : Hold sh x m r
    held = p.hold sh x sevens d checks_before

    next_hold : Hold sh x (suc m) next
    next_hold = q.stepped.hold sh x m (omega (arith, sevens.t1_seven, sevens.t2_seven)) bits held (enter sh x sevens d) (record { head = head })

    next_even : (s : TrackSet) (i : ℕ) → i < suc m → diagonal sh x s i % 2 ≡ 0
    next_even s i h = by_cases (ℕ_discrete i m)
        (λ e. rw e (omega (arith, but_check sh x s m m (omega arith) (omega (arith, sevens.t1_seven, sevens.t2_seven)) (λ o t q l g f i. absurd (omega arith)), head s, rw add-zero at ((held.register s).place 0 (omega arith)))))
        (λ f. p.even sh x sevens d checks_before s i (omega arith))

  next_bit : (s : TrackSet) (i : ℕ) → i < suc m → get_or (of_set s after_a after_b) i 0 < 2
  next_bit s i h = by_cases (ℕ_discrete i m)
      (λ e. rw (e, at_m s) (p.registers.bit s 0 (omega arith)))
      (λ d. rw (off_m s i d) (p.tracks.bit s i (omega arith)))

  passing_more : (i : ℕ) → suc m ≡ i → Passing n payload i after_a after_b next
  passing_more i e = rw (sym e) (record {
    registers = q.stepped.bits p.registers bits;
    tracks = record { bit = next_bit };
    hold = next_hold;
    even = next_even;
  })

  held_more : (i : ℕ) → suc m ≡ i → Held n payload m a b → Held n payload i after_a after_b
  held_more i e h = held_next n payload m i after_a after_b next e (held_stays n payload m a b after_a after_b (λ s q l. off_m s q (omega arith)) h) (passing_more i e)

-- A position of the tail.
passing_tail : (n : ℕ) (payload : List ℕ) (m k i : ℕ) (r : Registers) (bytes : Registers) (a b after_a after_b : List ℕ) (next : Registers) → ((s : TrackSet) (i : ℕ) → i < 15 → get_or (of_set s bytes.a bytes.b) i 0 ≡ 0) →
    8 * n ≤ m → m < 8 * n + 15 → suc m ≡ i → m < length a → m < length b →
    Passing n payload m a b r → Passed m k r bytes a b after_a after_b next → Passing n payload i after_a after_b next
passing_tail n payload m k i r bytes a b after_a after_b next zeros h l after room_a room_b s q = passing_more n payload m k r bytes a b after_a after_b next s q room_a room_b
    (λ sh x sevens d. enter_tail sh n payload x sevens d m k bytes q.cells h (omega (arith, sevens.t1_seven, sevens.t2_seven, sevens.blocks)) zeros q.taken) i after

-- Two positions of a block.
module _ (m k : ℕ) (r : Registers) (bytes : Registers) (a b a' b' after_a after_b : List ℕ) (r' next : Registers) (room_a : m + 2 ≤ length a) (room_b : m + 2 ≤ length b) (low : k < 7)
    (size_a : length a' ≡ length a) (size_b : length b' ≡ length b)
    (p : Passed m (k + 1) r bytes a b a' b' r') (q : Passed (m + 1) k r' bytes a' b' after_a after_b next) where
  module _ (n : ℕ) (payload : List ℕ) (block : ℕ) (has : block < n) (e : m + k ≡ 8 * block + 6) (bs : BlockBytes payload (14 * block) bytes) (s : Passing n payload m a b r) where
    enter_one : (sh : Shape) (x : Cells) → Sevens sh n → DataOf sh n payload x → Enter sh x m p.cells
    enter_one sh x sevens d = enter_data sh n payload x sevens d block (m - 8 * block) (k + 1) m bytes p.cells has (omega arith) (omega arith) (omega arith) bs p.taken

    enter_two : (sh : Shape) (x : Cells) → Sevens sh n → DataOf sh n payload x → Enter sh x (m + 1) q.cells
    enter_two sh x sevens d = enter_data sh n payload x sevens d block (m + 1 - 8 * block) k (m + 1) bytes q.cells has (omega arith) (omega arith) (omega arith) bs q.taken

    one : Passing n payload (m + 1) a' b' r'
    one = passing_more n payload m (k + 1) r bytes a b a' b' r' s p (omega arith) (omega arith) enter_one (m + 1) (omega arith)

    two : Passing n payload (m + 2) after_a after_b next
    two = passing_more n payload (m + 1) k r' bytes a' b' after_a after_b next one q (omega arith) (omega arith) enter_two (m + 2) (omega arith)

    both_held : Held n payload m a b → Held n payload (m + 2) after_a after_b
    both_held h =
        let first = held_more n payload m (k + 1) r bytes a b a' b' r' s p (omega arith) (omega arith) enter_one (m + 1) (omega arith) h in
        held_more n payload (m + 1) k r' bytes a' b' after_a after_b next one q (omega arith) (omega arith) enter_two (m + 2) (omega arith) first

  pub two_passed : TwoPassed m k r bytes a b after_a after_b next
  two_passed = record { passing = two }

  pub two_held : TwoHeld m k r bytes a b after_a after_b
  two_held = record { held = both_held }

-- The eight positions of a block.
module _ (n : ℕ) (payload : List ℕ) (block : ℕ) (bytes : Registers) (r r2 r4 r6 r8 : Registers) (a a2 a4 a6 a8 b b2 b4 b6 b8 : List ℕ) (has : block < n) (bs : BlockBytes payload (14 * block) bytes)
    (s : Passing n payload (8 * block) a b r) (p : TwoPassed (8 * block) 6 r bytes a b a2 b2 r2) (q : TwoPassed (8 * block + 2) 4 r2 bytes a2 b2 a4 b4 r4)
    (u : TwoPassed (8 * block + 4) 2 r4 bytes a4 b4 a6 b6 r6) (v : TwoPassed (8 * block + 6) 0 r6 bytes a6 b6 a8 b8 r8) where
  abbrev to4 : 8 * block + 2 + 2 ≡ 8 * block + 4
  to4 = omega arith

  abbrev to6 : 8 * block + 4 + 2 ≡ 8 * block + 6
  to6 = omega arith

  abbrev to8 : 8 * block + 6 + 2 ≡ 8 * (block + 1)
  to8 = omega arith

  s2 : Passing n payload (8 * block + 2) a2 b2 r2
  s2 = p.passing n payload block has (omega arith) bs s

  s4 : Passing n payload (8 * block + 4) a4 b4 r4
  s4 = rw to4 at (q.passing n payload block has (omega arith) bs s2)

  s6 : Passing n payload (8 * block + 6) a6 b6 r6
  s6 = rw to6 at (u.passing n payload block has (omega arith) bs s4)

  pub block_passed : Passing n payload (8 * (block + 1)) a8 b8 r8
  block_passed = rw to8 at (v.passing n payload block has (omega arith) bs s6)

  pub block_held : TwoHeld (8 * block) 6 r bytes a b a2 b2 → TwoHeld (8 * block + 2) 4 r2 bytes a2 b2 a4 b4 → TwoHeld (8 * block + 4) 2 r4 bytes a4 b4 a6 b6 →
      TwoHeld (8 * block + 6) 0 r6 bytes a6 b6 a8 b8 → Held n payload (8 * block) a b → Held n payload (8 * (block + 1)) a8 b8
  block_held held2 held4 held6 held8 h =
      let h2 = held2.held n payload block has (omega arith) bs s h in
      let h4 = rw to4 at (held4.held n payload block has (omega arith) bs s2 h2) in
      let h6 = rw to6 at (held6.held n payload block has (omega arith) bs s4 h4) in
      rw to8 at (held8.held n payload block has (omega arith) bs s6 h6)

-- Registers of 0.
none : (s : TrackSet) (i : ℕ) → i < 15 → get_or (of_set s (replicate 15 0) (replicate 15 0)) i 0 ≡ 0
none A i h = get_or-replicate 15 i 0 0 h
none B i h = get_or-replicate 15 i 0 0 h

none_taken : CellsOf nothing 0 nothing
none_taken = record { bits_at = go }
  where
    go : (s : TrackSet) → BitsAt (of_set s nothing.a nothing.b) 0 (of_set s nothing.a nothing.b)
    go A = record { place = λ i h. rw (none A i h) }
    go B = record { place = λ i h. rw (none B i h) }

-- No position has passed.
pub passing_none : (n : ℕ) (payload a b : List ℕ) → Passing n payload 0 a b (record { a = replicate 15 0; b = replicate 15 0 })
passing_none n payload a b = record {
  registers = record { bit = λ s k h. rw (none s k h) (omega arith) };
  tracks = record { bit = λ s k h. absurd (omega arith) };
  hold = λ sh x sevens d c. record { register = λ s. record { place = λ k h. rw at_start (none s k (omega (arith, sevens.t1_seven, sevens.t2_seven))) } };
  even = λ sh x sevens d c s q h. absurd (omega arith);
}

pub held_none : (n : ℕ) (payload a b : List ℕ) → Held n payload 0 a b
held_none n payload a b = record { held = λ q h. let e : q ≡ 0 = omega arith in rw e (record { registers = nothing; passing = passing_none n payload a b }) }

-- All positions have passed.
carried : (n : ℕ) (payload a b : List ℕ) (r : Registers) → length a ≡ 8 * n + 15 → length b ≡ 8 * n + 15 → Passing n payload (8 * n + 15) a b r → Carried n payload a b
carried n payload a b r size_a size_b p = record {
  bits = bits;
  even = λ sh x sevens d c s m h.
      let l : track_length sh ≡ 8 * n + 15 = omega (arith, sevens.t1_seven, sevens.t2_seven, sevens.blocks) in
      p.even sh x sevens d (rw l at c) s m (omega arith);
}
  where
    bits : (s : TrackSet) → Bits (of_set s a b)
    bits A = record { bit = every (λ v. v < 2) a (omega arith) (λ i h. p.tracks.bit A i (omega arith)) }
    bits B = record { bit = every (λ v. v < 2) b (omega arith) (λ i h. p.tracks.bit B i (omega arith)) }

-- ## The tail

-- A stretch whose tail is put.
module _ (n : ℕ) (xs ys : List ℕ) (size : length xs ≡ 8 * n + 15) (few : length ys ≡ length (take (length xs - 8 * n) (drop (8 * n) xs))) where
  abbrev put : List ℕ
  put = put_mid (8 * n) (length xs - 8 * n) xs ys

  put_size : length put ≡ 8 * n + 15
  put_size = same_len_mid (8 * n) (length xs - 8 * n) xs ys few ∙ size

  fifteen : length ys ≡ 8 * n + 15 - 8 * n
  fifteen = omega (arith, few, mid_len (8 * n) (length xs) xs (omega arith), size)

  put_stays : (q : ℕ) → q < 8 * n → get_or put q 0 ≡ get_or xs q 0
  put_stays q h = rw size (put_before xs ys (8 * n) 15 (omega arith) fifteen q h)

  put_tail : (k : ℕ) → k < 15 → get_or put (8 * n + k) 0 ≡ get_or ys k 0
  put_tail k h = rw size (put_in xs ys (8 * n) 15 (omega arith) fifteen k h)

-- The tail passes by positions: tracks 0 are the places, and the registers are the places that slide.
module _ (n : ℕ) (payload : List ℕ) (r : Registers) (a b after_a after_b : List ℕ) (p : Passing n payload (8 * n) a b r)
    (places_a : length r.a ≡ 15) (places_b : length r.b ≡ 15) (size_a : length after_a ≡ 8 * n + 15) (size_b : length after_b ≡ 8 * n + 15)
    (stays : (s : TrackSet) (q : ℕ) → q < 8 * n → get_or (of_set s after_a after_b) q 0 ≡ get_or (of_set s a b) q 0)
    (put : (s : TrackSet) (k : ℕ) → k < 15 → get_or (of_set s after_a after_b) (8 * n + k) 0 ≡ get_or (of_set s r.a r.b) k 0) where
  -- The heads stand as tracks 0.
  stands_a : (j : ℕ) → j < 15 → after_a ≡ set after_a (8 * n + j) (get_or (slid j r).a 0 0)
  stands_a j h = sym (ap (set after_a (8 * n + j)) (slide_head r.a r.b places_a j h ∙ sym (put A j h)) ∙ set-get_or after_a (8 * n + j) 0)

  stands_b : (j : ℕ) → j < 15 → after_b ≡ set after_b (8 * n + j) (get_or (slid j r).b 0 0)
  stands_b j h = sym (ap (set after_b (8 * n + j)) (slide_head r.b r.a places_b j h ∙ sym (put B j h)) ∙ set-get_or after_b (8 * n + j) 0)

  one_more : (j : ℕ) → j < 15 → Passed (8 * n + j) 0 (slid j r) nothing after_a after_b after_a after_b (slid (suc j) r)
  one_more j h = record {
    track_a = stands_a j h;
    track_b = stands_b j h;
    cells = nothing;
    taken = none_taken;
    stepped = slid_stepped r places_a places_b j h;
  }

  -- At each position of the tail they hold what the cells so far add to the diagonals ahead.
  pub passing_slid : (j : ℕ) → j ≤ 15 → Passing n payload (8 * n + j) after_a after_b (slid j r)
  passing_slid zero h = simp (add-zero, append-nil) (passing_stays n payload (8 * n) a b after_a after_b r stays p)
  passing_slid (suc j) h = passing_tail n payload (8 * n + j) 0 (8 * n + suc j) (slid j r) nothing after_a after_b after_a after_b (slid (suc j) r) none
      (omega arith) (omega arith) (omega arith) (omega arith) (omega arith) (passing_slid j (omega arith)) (one_more j (omega arith))

-- Registers of which these are the places.
passing_places : (n : ℕ) (payload : List ℕ) (m : ℕ) (a b : List ℕ) (r places : Registers) →
    ((s : TrackSet) (k : ℕ) → k < 15 → get_or (of_set s places.a places.b) k 0 ≡ get_or (of_set s r.a r.b) k 0) → Passing n payload m a b r → Passing n payload m a b places
passing_places n payload m a b r places same p = record {
  registers = record { bit = λ s k h. rw (same s k h) (p.registers.bit s k h) };
  tracks = p.tracks;
  hold = λ sh x sevens d c. record { register = λ s. record { place = λ k h. same s k (omega (arith, sevens.t1_seven, sevens.t2_seven)) ∙ ((p.hold sh x sevens d c).register s).place k h } };
  even = p.even;
}

-- Tracks 0 of the tail are the places.
module _ (n : ℕ) (payload : List ℕ) (r : Registers) (a b after_a after_b : List ℕ) (p : Passing n payload (8 * n) a b r)
    (size_a : length after_a ≡ 8 * n + 15) (size_b : length after_b ≡ 8 * n + 15)
    (stays : (s : TrackSet) (q : ℕ) → q < 8 * n → get_or (of_set s after_a after_b) q 0 ≡ get_or (of_set s a b) q 0)
    (put : (s : TrackSet) (k : ℕ) → k < 15 → get_or (of_set s after_a after_b) (8 * n + k) 0 ≡ get_or (of_set s r.a r.b) k 0) where
  abbrev places : Registers
  places = record { a = drop (8 * n) after_a; b = drop (8 * n) after_b }

  placed : (s : TrackSet) (k : ℕ) → get_or (of_set s after_a after_b) (8 * n + k) 0 ≡ get_or (of_set s places.a places.b) k 0
  placed A k = sym (get_or-drop (8 * n) after_a k 0)
  placed B k = sym (get_or-drop (8 * n) after_b k 0)

  passing : Passing n payload (8 * n) a b places
  passing = passing_places n payload (8 * n) a b r places (λ s k h. sym (placed s k) ∙ put s k h) p

  carried_by_places : Carried n payload after_a after_b
  carried_by_places = carried n payload after_a after_b (slid 15 places) size_a size_b
      (passing_slid n payload places a b after_a after_b passing (omega (arith, length-drop (8 * n) after_a)) (omega (arith, length-drop (8 * n) after_b)) size_a size_b stays (λ s k h. placed s k) 15 (omega arith))

-- As the code puts it.
module _ (n : ℕ) (payload : List ℕ) (r : Registers) (a b ys zs : List ℕ) (size_a : length a ≡ 8 * n + 15) (size_b : length b ≡ 8 * n + 15)
    (few_a : length ys ≡ length (take (length a - 8 * n) (drop (8 * n) a))) (few_b : length zs ≡ length (take (length b - 8 * n) (drop (8 * n) b))) (is_a : ys ≡ r.a) (is_b : zs ≡ r.b)
    (p : Passing n payload (8 * n) a b r) where
  abbrev put_a : List ℕ
  put_a = put_mid (8 * n) (length a - 8 * n) a ys

  abbrev put_b : List ℕ
  put_b = put_mid (8 * n) (length b - 8 * n) b zs

  stays : (s : TrackSet) (q : ℕ) → q < 8 * n → get_or (of_set s put_a put_b) q 0 ≡ get_or (of_set s a b) q 0
  stays A = put_stays n a ys size_a few_a
  stays B = put_stays n b zs size_b few_b

  tail : (s : TrackSet) (k : ℕ) → k < 15 → get_or (of_set s put_a put_b) (8 * n + k) 0 ≡ get_or (of_set s r.a r.b) k 0
  tail A k h = put_tail n a ys size_a few_a k h ∙ rw is_a
  tail B k h = put_tail n b zs size_b few_b k h ∙ rw is_b

  slides : (j : ℕ) → j ≤ 15 → Passing n payload (8 * n + j) put_a put_b (slid j r)
  slides = passing_slid n payload r a b put_a put_b p (rw is_a at (fifteen n a ys size_a few_a) ∙ omega arith) (rw is_b at (fifteen n b zs size_b few_b) ∙ omega arith)
      (put_size n a ys size_a few_a) (put_size n b zs size_b few_b) stays tail

  pub tail_passed : Carried n payload (put_mid (8 * n) (length a - 8 * n) a ys) (put_mid (8 * n) (length b - 8 * n) b zs)
  tail_passed = carried_by_places n payload r a b put_a put_b p (put_size n a ys size_a few_a) (put_size n b zs size_b few_b) stays tail

  pub tail_slid : TailHeld n payload (put_mid (8 * n) (length a - 8 * n) a ys) (put_mid (8 * n) (length b - 8 * n) b zs)
  tail_slid = record { registers = r; passing = slides }

  pub tail_held : Held n payload (8 * n) a b → Held n payload (8 * n + 15) (put_mid (8 * n) (length a - 8 * n) a ys) (put_mid (8 * n) (length b - 8 * n) b zs)
  tail_held h = record {
    held = λ q l. by_cases (dec_lt q (8 * n))
        (λ g. (held_stays n payload (8 * n) a b put_a put_b stays h).held q (omega arith))
        (λ g. let e : 8 * n + (q - 8 * n) ≡ q = omega arith in
        let there : HeldAt n payload (8 * n + (q - 8 * n)) put_a put_b = record { registers = slid (q - 8 * n) r; passing = slides (q - 8 * n) (omega arith) } in
        rw e at there);
  }
