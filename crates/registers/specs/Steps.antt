-- What the registers are stepped for: tracks 0 of the record of a payload.
use Rattle.std.specs.Prelude.{◌≡◌, List, ◌++◌, ℕ, ◌+◌, ◌*◌, ◌-◌, ◌%◌, ◌<◌, ◌≤◌, length, get_or, take, drop, set}
use Rattle.code.specs.Record.{other, Shape, data_tracks, track_length, Cells, diagonal}
use Rattle.code.specs.declared.sizes.TrackSet.{TrackSet}
use Rattle.code.specs.declared.sizes.TrackSet.TheVariants.{A, B}
use Rattle.code.specs.Payload.{Carries}
use Rattle.track.specs.Track.{Bits}
use Rattle.registers.specs.declared.Registers.{Registers}
use Rattle.registers.specs.Places.{BitsAt}
use Rattle.registers.specs.Register.{of_set, Hold, BitsTo, Stepped}

-- Seven data tracks a set, and n blocks.
pub record Sevens (sh : Shape) (n : ℕ) : Type 0 where
  pub t1_seven : sh.t1 ≡ 7
  pub t2_seven : sh.t2 ≡ 7
  pub blocks : sh.positions ≡ 8 * n

-- The data tracks of a record are those of a payload.
pub record DataOf (sh : Shape) (n : ℕ) (payload : List ℕ) (x : Cells) : Type 0 where
  pub carries : Carries sh n x payload
  pub bits : (s : TrackSet) (t m : ℕ) → 1 ≤ t → t ≤ data_tracks sh s → m < track_length sh → x s t m < 2
  pub tail : (s : TrackSet) (t m : ℕ) → 1 ≤ t → t ≤ data_tracks sh s → sh.positions ≤ m → m < track_length sh → x s t m ≡ 0

-- The first m cells of its tracks 0 are those of two stretches.
pub record ChecksOf (m : ℕ) (a b : List ℕ) (x : Cells) : Type 0 where
  pub cell : (s : TrackSet) (q : ℕ) → q < m → x s 0 q ≡ get_or (of_set s a b) q 0

-- ## From a payload to columns

-- The bytes of a set's tracks begin here in a block.
abbrev pub first_byte : TrackSet → ℕ
first_byte A = 0
first_byte B = 7

-- Seven bytes of a payload from `at` on.
pub record SevenAt (payload : List ℕ) (at : ℕ) (bytes : List ℕ) : Type 0 where
  pub byte_at : (k : ℕ) → k < 7 → get_or bytes k 0 ≡ get_or payload (at + k) 0

-- Seven bytes in order, then seven in reverse.
pub record Ordered (own across places : List ℕ) : Type 0 where
  pub first : (k : ℕ) → k < 7 → get_or places k 0 ≡ get_or own k 0
  pub then : (k : ℕ) → k < 7 → get_or places (7 + k) 0 ≡ get_or across (6 - k) 0

-- The bytes of the block at `at`, in the order in which their cells enter the registers.
pub record BlockBytes (payload : List ℕ) (at : ℕ) (c : Registers) : Type 0 where
  pub own : (s : TrackSet) (k : ℕ) → k < 7 → get_or (of_set s c.a c.b) k 0 ≡ get_or payload (at + first_byte s + k) 0
  pub across : (s : TrackSet) (k : ℕ) → k < 7 → get_or (of_set s c.a c.b) (7 + k) 0 ≡ get_or payload (at + first_byte (other s) + (6 - k)) 0

-- Bit k of each byte.
pub record CellsOf (bytes : Registers) (k : ℕ) (cells : Registers) : Type 0 where
  pub bits_at : (s : TrackSet) → BitsAt (of_set s bytes.a bytes.b) k (of_set s cells.a cells.b)

-- ## Positions

-- Position m passes: the heads are written as tracks 0, and bit k of each byte enters the registers.
pub record Passed (m k : ℕ) (r : Registers) (bytes : Registers) (a b after_a after_b : List ℕ) (next : Registers) : Type 0 where
  pub track_a : after_a ≡ set a m (get_or r.a 0 0)
  pub track_b : after_b ≡ set b m (get_or r.b 0 0)
  pub cells : Registers
  pub taken : CellsOf bytes k cells
  pub stepped : Stepped r cells next

-- A payload of n blocks, and two stretches of a record's tracks.
pub record Stretches (n : ℕ) (payload a b : List ℕ) : Type 0 where
  pub small : n ≤ 256
  pub bytes : n * 14 ≤ length payload
  pub size_a : length a ≡ 8 * n + 15
  pub size_b : length b ≡ 8 * n + 15

-- The first m positions have passed: tracks 0 so far are bits and make the diagonals so far even, and the registers are those of
-- every record with that payload and these tracks 0.
pub record Passing (n : ℕ) (payload : List ℕ) (m : ℕ) (a b : List ℕ) (r : Registers) : Type 0 where
  pub registers : BitsTo 15 r.a r.b
  pub tracks : BitsTo m a b
  pub hold : (sh : Shape) (x : Cells) → Sevens sh n → DataOf sh n payload x → ChecksOf m a b x → Hold sh x m r
  pub even : (sh : Shape) (x : Cells) → Sevens sh n → DataOf sh n payload x → ChecksOf m a b x → (s : TrackSet) (q : ℕ) → q < m → diagonal sh x s q % 2 ≡ 0

-- There are registers of the first m positions: they hold what the cells so far add to the diagonals ahead.
pub record HeldAt (n : ℕ) (payload : List ℕ) (m : ℕ) (a b : List ℕ) : Type 0 where
  pub registers : Registers
  pub passing : Passing n payload m a b registers

-- So there are for each number of positions up to m.
pub record Held (n : ℕ) (payload : List ℕ) (m : ℕ) (a b : List ℕ) : Type 0 where
  pub held : (q : ℕ) → q ≤ m → HeldAt n payload q a b

-- Two positions of a block pass, with bits k + 1 and k of its bytes.
pub record TwoPassed (m k : ℕ) (r : Registers) (bytes : Registers) (a b after_a after_b : List ℕ) (next : Registers) : Type 0 where
  pub passing : (n : ℕ) (payload : List ℕ) (block : ℕ) → block < n → m + k ≡ 8 * block + 6 → BlockBytes payload (14 * block) bytes →
      Passing n payload m a b r → Passing n payload (m + 2) after_a after_b next

-- And the registers that there were so far there still are, and those of the two.
pub record TwoHeld (m k : ℕ) (r : Registers) (bytes : Registers) (a b after_a after_b : List ℕ) : Type 0 where
  pub held : (n : ℕ) (payload : List ℕ) (block : ℕ) → block < n → m + k ≡ 8 * block + 6 → BlockBytes payload (14 * block) bytes →
      Passing n payload m a b r → Held n payload m a b → Held n payload (m + 2) after_a after_b

-- What `carry` gives: two stretches of bits that are the tracks 0 of the payload's record, as they make its diagonals even.
pub record Carried (n : ℕ) (payload a b : List ℕ) : Type 0 where
  pub bits : (s : TrackSet) → Bits (of_set s a b)
  pub even : (sh : Shape) (x : Cells) → Sevens sh n → DataOf sh n payload x → ChecksOf (track_length sh) a b x →
      (s : TrackSet) (m : ℕ) → m < track_length sh → diagonal sh x s m % 2 ≡ 0

-- ## The tail

-- The registers once j positions of the tail have passed, from those before it. No cells enter but tracks 0, so the places slide
-- by j, and behind them stand the tracks 0 that have entered, which are the other register's first places.
abbrev pub slid : ℕ → Registers → Registers
slid j r = record { a = drop j r.a ++ take j r.b; b = drop j r.b ++ take j r.a }

-- At each position of the tail the registers are those before it, slid.
pub record TailHeld (n : ℕ) (payload a b : List ℕ) : Type 0 where
  pub registers : Registers
  pub passing : (j : ℕ) → j ≤ 15 → Passing n payload (8 * n + j) a b (slid j registers)
