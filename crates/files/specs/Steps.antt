-- What the functions below the reader of a file do.
use Rattle.std.specs.Prelude.{◌≡◌, List, ℕ, ◌<◌, ◌≤◌, length}
use Rattle.code.specs.Files.{Entry, entry_count, directory_size, entry_offset, entry_end, entry_at, Cartridge}

-- Entry i follows the rules, where the directory and the entries before it end at `from`.
pub record EntryRight (file : List ℕ) (from i : ℕ) : Type 0 where
  pub after : from ≤ entry_offset file i
  pub within : entry_end file i ≤ length file
  pub entry : Entry (entry_at file i)

-- It does, and ends here.
pub record IsEnd (file : List ℕ) (from i end : ℕ) : Type 0 where
  pub right : EntryRight file from i
  pub ends : end ≡ entry_end file i

-- The first i entries follow the rules, and they and the directory end at `end` or before. Where all entries do, the next begins there
-- or later.
pub record Chained (file : List ℕ) (i end : ℕ) : Type 0 where
  pub directory : directory_size (entry_count file) ≤ end
  pub right : (j : ℕ) → j < i → EntryRight file (directory_size (entry_count file)) j
  pub apart : (j k : ℕ) → j < k → k < i → entry_end file j ≤ entry_offset file k
  pub ends : (j : ℕ) → j < i → entry_end file j ≤ end
  pub next : Cartridge file → i < entry_count file → end ≤ entry_offset file i
