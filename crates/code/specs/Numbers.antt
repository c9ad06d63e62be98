-- Document 01, "Numbers, in checking order", and those that document 02 adds.
use Rattle.std.specs.Prelude.{◌≡◌, ◌⊎◌, ◌≢◌, List, [], ◌∷◌, ◌++◌, ℕ, suc, ◌^◌, ◌<◌, ◌≤◌, length, ltb}
use Rattle.code.specs.Record.{Shape}
use Rattle.code.specs.Image.{all_tracks}
use Rattle.code.specs.Flags.{TrackFlags, CellFlags}
use Rattle.code.specs.Reach.{pick, flags_code}
use Rattle.code.specs.Packed.{PaddingSet}
use Rattle.code.specs.Spans.{Table, Broken, WindowTooMany}
use Rattle.code.specs.Files.{Cartridge, HasRoom}

-- A number, the detail that goes with it, and the condition under which it is given.
pub record Check : Type 1 where
  pub number : ℕ
  pub detail : ℕ
  pub applies : Type 0

-- 1: the block count is above 256. A record of no blocks is one too (document 02, note 3).
abbrev pub count_check : ℕ → Check
count_check n = record { number = 1; detail = 0; applies = 256 < n }

-- 2: the input's length is not the size that the call asks for.
abbrev pub length_check : ℕ → ℕ → Check
length_check size input = record { number = 2; detail = 0; applies = input ≢ size }

-- 3: the output is shorter than the result.
abbrev pub room_check : ℕ → ℕ → Check
room_check size output = record { number = 3; detail = 0; applies = output < size }

-- The index of the first cell that has none of the values below `values`, and the length where there is none.
unfoldable pub first_bad : ℕ → List ℕ → ℕ
first_bad values [] = 0
first_bad values (x ∷ xs) = pick (ltb x values) (suc (first_bad values xs)) 0

-- 4: the image has a cell that is neither 0 nor 1, nor lost where the call takes lost cells (document 02, note 2), and the detail is
-- the index of the first one.
abbrev pub cell_check : ℕ → List ℕ → Check
cell_check values image = record { number = 4; detail = first_bad values image; applies = first_bad values image < length image }

-- 5: the flag word has a bit from 18 up.
abbrev pub flag_check : Shape → ℕ → Check
flag_check sh flags = record { number = 5; detail = 0; applies = 2 ^ all_tracks sh ≤ flags }

-- 12, where tracing takes a ceiling: it is above 2. It is checked after 5.
abbrev pub ceiling_check : ℕ → Check
ceiling_check ceiling = record { number = 12; detail = 0; applies = 2 < ceiling }

-- 6: the table's code for the flags is 0.
abbrev pub reach_check : Shape → TrackFlags → Check
reach_check sh f = record { number = 6; detail = 0; applies = flags_code sh f ≡ 0 }

-- 8, on unpacking: a padding bit is 1.
abbrev pub padding_check : ℕ → List ℕ → Check
padding_check n packed = record { number = 8; detail = 0; applies = PaddingSet n packed }

-- 9, where flags are by stretch: the table of pairs is broken. It is checked in place of 5.
abbrev pub table_check : ℕ → Table → Check
table_check cells table = record { number = 9; detail = 0; applies = Broken cells table }

-- 6, where flags are by stretch: at some position the tracks with a flagged cell in its window have code 0.
abbrev pub window_check : Shape → CellFlags → Check
window_check sh flag = record { number = 6; detail = 0; applies = WindowTooMany sh flag }

-- 2, of the writer of a file: fewer bytes are left than an entry takes.
abbrev pub left_check : ℕ → ℕ → Check
left_check needed left = record { number = 2; detail = 0; applies = left < needed }

-- 10: the file, its directory or an entry's length or count breaks the rules.
abbrev pub file_check : List ℕ → Check
file_check file = record { number = 10; detail = 0; applies = ¬ Cartridge file }

-- 11: the entries are too many, or they do not fit the file or the output.
abbrev pub fit_check : ℕ → ℕ → ℕ → Check
fit_check count size room = record { number = 11; detail = 0; applies = ¬ HasRoom count size room }

-- ## Lists of checks, in checking order

-- 1 and 2: the block count, the size that the call asks for and the input's length.
abbrev pub input_checks : ℕ → ℕ → ℕ → List {1} Check
input_checks n wanted input = count_check n ∷ length_check wanted input ∷ []

-- 1 to 3: also the result's size and the output's length.
abbrev pub size_checks : ℕ → ℕ → ℕ → ℕ → ℕ → List {1} Check
size_checks n wanted input size output = input_checks n wanted input ++ (room_check size output ∷ [])

-- 1 to 4, of a call that is given an image whose cells have these values.
abbrev pub image_checks : ℕ → ℕ → ℕ → List ℕ → ℕ → ℕ → List {1} Check
image_checks values n wanted image size output = size_checks n wanted (length image) size output ++ (cell_check values image ∷ [])

-- A condition decides between two statements.
abbrev pub Decides : Type 0 → Type 0 → Type 0 → Type 0
Decides c holds fails = (c × holds) ⊎ (¬ c × fails)

-- The first check that applies says what is right; where none applies, `rest` does.
abbrev pub First : List {1} Check → (Check → Type 0) → Type 0 → Type 0
First [] right rest = rest
First (c ∷ cs) right rest = Decides c.applies (right c) (First cs right rest)

-- None of the checks applies.
abbrev pub Passed : List {1} Check → Type 0
Passed [] = Unit {0}
Passed (c ∷ cs) = ¬ c.applies × Passed cs
