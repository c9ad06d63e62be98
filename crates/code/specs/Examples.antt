-- Document 01, "Checked examples": those marked P, for one block (n = 1, L = 23, 414 cells).
use Rattle.std.specs.Prelude.{◌≡◌, List, [], ◌∷◌, ◌++◌, ℕ, ◌+◌, ◌*◌, ◌^◌, ◌≤◌, length, drop, set, replicate}
use Rattle.code.specs.Record.{A, B, base, track_length, Good}
use Rattle.code.specs.Image.{track_number, cells}
use Rattle.code.specs.Lost.{read_values}
use Rattle.code.specs.Reach.{Extra, none, extra}
use Rattle.code.specs.Numbers.{first_bad}
use Rattle.code.specs.Calls.{Result, plain}
use Rattle.code.specs.Promises.{Encoded, Repaired, Traced, TracedWithin}

-- The index of A(m,t) and of B(m,t).
abbrev pub a : ℕ → ℕ → ℕ
a m t = track_number (base 1) A t * track_length (base 1) + m

abbrev pub b : ℕ → ℕ → ℕ
b m t = track_number (base 1) B t * track_length (base 1) + m

-- The image that is all zero but for the cells listed.
unfoldable pub ones : List ℕ → List ℕ
ones [] = replicate 414 0
ones (i ∷ is) = set (ones is) i 1

-- Answer 0 with its mask, its changed cells and its extras.
abbrev pub answer_0 : ℕ → ℕ → Extra → Extra → Result
answer_0 mask changed in_a in_b = record { answer = 0; detail = 0; mask = mask; changed = changed; extra_a = in_a; extra_b = in_b }

-- What the document says of a call: the cells of the image that are 1, the result, the cells of the output that are 1.
pub data Example : Type 0 where
  good : List ℕ → Example
  encode : List ℕ → List ℕ → Example
  repair trace : ℕ → List ℕ → Result → List ℕ → Example
  refuse : ℕ → ℕ → Example

-- In every output that is long enough. A refusal by flags is the same for every image. What is said of tracing holds of both calls: without
-- a ceiling, and with 2.
abbrev pub Holds : Example → Type 0
Holds (good is) = Good (base 1) (cells (base 1) (ones is))
Holds (encode payload is) = (before : List ℕ) → 414 ≤ length before → Encoded 1 payload before (plain 0 0) (ones is ++ drop 414 before)
Holds (repair flags is r os) = (before : List ℕ) → 414 ≤ length before → Repaired 1 flags (ones is) before r (ones os ++ drop 414 before)
Holds (trace flags is r os) = (before : List ℕ) → 414 ≤ length before →
    Traced 1 flags (ones is) before r (ones os ++ drop 414 before) × TracedWithin 1 flags 2 (ones is) before r (ones os ++ drop 414 before)
Holds (refuse flags number) = (image before : List ℕ) → length image ≡ 414 → first_bad read_values image ≡ 414 → 414 ≤ length before →
    Repaired 1 flags image before (plain number 0) before
    × (Traced 1 flags image before (plain number 0) before × TracedWithin 1 flags 2 image before (plain number 0) before)

-- The record of the payload 128, 0, …, 0 without its cell A(0,1).
abbrev pub rest_of_128 : List ℕ
rest_of_128 = a 1 0 ∷ a 0 8 ∷ a 1 8 ∷ b 14 0 ∷ b 14 8 ∷ b 16 0 ∷ b 16 8 ∷ []

abbrev pub examples : List Example
examples =
    good []
    ∷ encode (128 ∷ replicate 13 0) (a 0 1 ∷ rest_of_128)
    ∷ repair 2 rest_of_128 (answer_0 2 1 none none) (a 0 1 ∷ rest_of_128)
    ∷ trace 0 (a 0 1 ∷ a 0 2 ∷ []) (plain 7 0) (a 0 1 ∷ a 0 2 ∷ [])
    ∷ trace 2 (a 0 1 ∷ a 0 2 ∷ []) (answer_0 6 2 (extra 2) none) []
    ∷ repair 0 (a 22 8 ∷ []) (plain 7 0) (a 22 8 ∷ [])
    ∷ trace 0 (a 22 8 ∷ []) (answer_0 256 1 (extra 8) none) []
    ∷ repair 0 (a 8 3 ∷ []) (plain 7 0) (a 8 3 ∷ [])
    ∷ repair 526 (a 3 1 ∷ b 20 0 ∷ []) (answer_0 514 2 none none) []
    ∷ refuse 15 6
    ∷ refuse (2 ^ 18) 5
    ∷ []

-- Every example of a list holds.
abbrev pub Hold : List Example → Type 0
Hold [] = Unit {0}
Hold (e ∷ es) = Holds e × Hold es
