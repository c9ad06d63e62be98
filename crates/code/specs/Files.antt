-- Document 02, note 6: a cartridge file. Its records are in the packed form, of sets with 7 data tracks.
use Rattle.std.specs.Prelude.{◌≡◌, ℕ, zero, suc, ◌+◌, ◌*◌, ◌/◌, ◌%◌, ◌<◌, ◌≤◌, length, get_or, take, drop}
use mathlib.Core.List.{List, [], ◌∷◌, ◌++◌, foldr}
use Rattle.code.specs.Packed.{packed_size}

-- "All are most significant byte first": the number in the k bytes from place i on,
unfoldable pub number : ℕ → List ℕ → ℕ → ℕ
number zero xs i = 0
number (suc k) xs i = number k xs i * 256 + get_or xs (i + k) 0

-- and the k bytes of a number.
unfoldable pub bytes_of : ℕ → ℕ → List ℕ
bytes_of zero x = []
bytes_of (suc k) x = bytes_of k (x / 256) ++ (x % 256 ∷ [])

-- ## Entries

-- "An entry's bytes are a four-byte key, a two-byte block count n and the packed record, 6 + 18(n + 2) in all." Of the entry with which
-- some bytes begin:
abbrev pub entry_key : List ℕ → ℕ
entry_key xs = number 4 xs 0

abbrev pub entry_blocks : List ℕ → ℕ
entry_blocks xs = number 2 xs 4

abbrev pub entry_record : List ℕ → List ℕ
entry_record xs = take (packed_size (entry_blocks xs)) (drop 6 xs)

abbrev pub entry_size : ℕ → ℕ
entry_size n = 6 + packed_size n

-- These bytes are an entry, by count and length.
pub record Entry (xs : List ℕ) : Type 0 where
  pub blocks : entry_blocks xs ≤ 256
  pub size : length xs ≡ entry_size (entry_blocks xs)

-- ## The file

-- "It begins with a two-byte number of entries, … and for each a four-byte offset and a four-byte length"
abbrev pub entry_count : List ℕ → ℕ
entry_count file = number 2 file 0

abbrev pub directory_size : ℕ → ℕ
directory_size count = 2 + 8 * count

abbrev pub entry_offset : List ℕ → ℕ → ℕ
entry_offset file i = number 4 file (2 + 8 * i)

abbrev pub entry_length : List ℕ → ℕ → ℕ
entry_length file i = number 4 file (6 + 8 * i)

abbrev pub entry_end : List ℕ → ℕ → ℕ
entry_end file i = entry_offset file i + entry_length file i

-- The bytes of entry i.
abbrev pub entry_at : List ℕ → ℕ → List ℕ
entry_at file i = take (entry_length file i) (drop (entry_offset file i) file)

-- "one file of at most 65,536 bytes"; "a two-byte number of entries, at most 64"
abbrev pub most_bytes : ℕ
most_bytes = 65536

abbrev pub most_entries : ℕ
most_entries = 64

-- These bytes are a cartridge file: they follow the note's rules. Of the packed records it says how long they are.
pub record Cartridge (file : List ℕ) : Type 0 where
  pub small : length file ≤ most_bytes
  pub few : entry_count file ≤ most_entries
  pub listed : directory_size (entry_count file) ≤ length file
  -- "sorted by offset"; "Entries don't overlap, may leave gaps,
  pub apart : (i j : ℕ) → i < j → j < entry_count file → entry_end file i ≤ entry_offset file j
  -- begin after the directory and end within the file."
  pub after : (i : ℕ) → i < entry_count file → directory_size (entry_count file) ≤ entry_offset file i
  pub within : (i : ℕ) → i < entry_count file → entry_end file i ≤ length file
  pub entries : (i : ℕ) → i < entry_count file → Entry (entry_at file i)

-- ## The writer's file

-- "a number of entries and their bytes one after another": the entries, each as long as its count says.
unfoldable pub cut : ℕ → List ℕ → List (List ℕ)
cut zero xs = []
cut (suc k) xs = let size = entry_size (entry_blocks xs) in take size xs ∷ cut k (drop size xs)

-- "It lays them without gaps in that order": the directory of entries of which the first begins at `offset`, and the file.
unfoldable pub directory : ℕ → List (List ℕ) → List ℕ
directory offset [] = []
directory offset (e ∷ es) = bytes_of 4 offset ++ bytes_of 4 (length e) ++ directory (offset + length e) es

abbrev pub joined : List (List ℕ) → List ℕ
joined es = foldr ◌++◌ [] es

abbrev pub file_of : List (List ℕ) → List ℕ
file_of es = bytes_of 2 (length es) ++ directory (directory_size (length es)) es ++ joined es

-- "over 64 entries, or they do not fit the file or the output" is number 11: so many entries, a file of `size` bytes and an output of `room`
-- are in order.
pub record HasRoom (count size room : ℕ) : Type 0 where
  pub few : count ≤ most_entries
  pub small : size ≤ most_bytes
  pub inside : size ≤ room
