-- The directory that is written entry by entry: its places so far, and behind them the directory of the entries left, are the directory.
use mathlib.Core.Path.{◌≡◌, sym, ap, ◌∙◌}
use mathlib.Core.List.{List, ◌++◌, append_assoc, append-nil}
use Prim.Native.Nat.{ℕ, suc, ◌+◌, ◌*◌, ◌-◌, ◌<◌, ◌≤◌}
use native.Mathlib.Omega.{arith}
use borrow.Rule.Slice.PartMut.{put_mid, post_of, same_len_mid, mid_len}
use lib.ListN.{length, take, drop, length-append, length-drop}
use lib.Seq.{take_at, take_all, length-take-le}
use Rattle.code.specs.Files.{bytes_of, entry_blocks, entry_size, directory_size, cut, directory}
use Rattle.code.specs.Numbers.{Passed}
use Rattle.code.specs.Calls.{all_entries_checks}
use Rattle.code.proofs.Cutting.{Begins, passed_begins, passed_next}
use Rattle.code.proofs.Numerals.{length_bytes}
use Rattle.writer.proofs.Bytes.{rest_part}

-- One entry of a directory more, and none.
module _ (k : ℕ) (xs : List ℕ) (offset : ℕ) (whole : entry_size (entry_blocks xs) ≤ length xs) where
  abbrev size : ℕ
  size = entry_size (entry_blocks xs)

  next_place : directory offset (cut (suc k) xs) ≡ bytes_of 4 offset ++ bytes_of 4 size ++ directory (offset + size) (cut k (drop size xs))
  unfolding cut directory
  next_place = ap (λ l. bytes_of 4 offset ++ bytes_of 4 l ++ directory (offset + l) (cut k (drop size xs))) (length-take-le size xs whole)

no_place : (places : List ℕ) (offset : ℕ) (xs : List ℕ) → places ++ directory offset (cut 0 xs) ≡ places
unfolding cut directory
no_place places offset xs = append-nil places

-- The places of the first i entries are written; those left are these bytes, and the next of them stands at `offset` in the file.
pub record Listed (count : ℕ) (entries : List ℕ) (offset : ℕ) (left : List ℕ) (i : ℕ) (places : List ℕ) : Type 0 where
  pub ends : offset + length left ≡ directory_size count + length entries
  pub room : length places ≡ 8 * count
  pub passed : Passed (all_entries_checks (count - i) left)
  pub listed : take (8 * i) places ++ directory offset (cut (count - i) left) ≡ directory (directory_size count) (cut count entries)

-- While entries are left:
module _ (count : ℕ) (entries : List ℕ) (offset : ℕ) (left : List ℕ) (i : ℕ) (places : List ℕ) (l : Listed count entries offset left i places) (more : i < count) where
  abbrev k : ℕ
  k = count - (i + 1)

  one_more : count - i ≡ suc k
  one_more = omega arith

  passed_here : Passed (all_entries_checks (suc k) left)
  passed_here = rw one_more at l.passed

  -- The bytes left begin with one.
  pub listed_begins : Begins left
  listed_begins = passed_begins k left passed_here

  -- One place more.
  pub listed_more : (size : ℕ) (place : List ℕ) → size ≡ entry_size (entry_blocks left) → place ≡ bytes_of 4 offset ++ bytes_of 4 size →
      Listed count entries (offset + size) (take (length left - size) (drop size left)) (i + 1) (put_mid (8 * i) (8 * i + 8 - 8 * i) places place)
  listed_more size place e y = record {
    ends = omega (arith, l.ends, whole, ap length (rest_part left size), length-drop size left);
    room = same_len_mid (8 * i) (8 * i + 8 - 8 * i) places place (eight ∙ omega (arith, mid_len (8 * i) (8 * i + 8) places (omega (arith, l.room)))) ∙ l.room;
    passed = rw behind (passed_next k left passed_here);
    listed =
        ap (λ z. take (8 * (i + 1)) new ++ directory (offset + size) (cut k z)) behind
        ∙ ap (λ z. z ++ directory (offset + size) (cut k (drop (entry_size (entry_blocks left)) left))) first
        ∙ append_assoc (take (8 * i) places) place (directory (offset + size) (cut k (drop (entry_size (entry_blocks left)) left)))
        ∙ ap (λ z. take (8 * i) places ++ z) (sym (next_place k left offset listed_begins.whole ∙ rw (← e, ← y)))
        ∙ (rw one_more at l.listed);
  }
    where
      whole : size ≤ length left
      whole = omega (arith, e, listed_begins.whole)

      behind : take (length left - size) (drop size left) ≡ drop (entry_size (entry_blocks left)) left
      behind = rest_part left size ∙ ap (λ s. drop s left) e

      eight : length place ≡ 8
      eight = ap length y ∙ length-append (bytes_of 4 offset) (bytes_of 4 size) ∙ omega (arith, length_bytes 4 offset, length_bytes 4 size)

      new : List ℕ
      new = put_mid (8 * i) (8 * i + 8 - 8 * i) places place

      first : take (8 * (i + 1)) new ≡ take (8 * i) places ++ place
      first = ap (take (8 * (i + 1))) (sym (append_assoc (take (8 * i) places) place (post_of (8 * i) (8 * i + 8 - 8 * i) places)))
          ∙ take_at (take (8 * i) places ++ place) (post_of (8 * i) (8 * i + 8 - 8 * i) places) (8 * (i + 1))
          (length-append (take (8 * i) places) place ∙ omega (arith, length-take-le (8 * i) places (omega (arith, l.room)), eight))

-- All places.
pub listed_all : (count : ℕ) (entries : List ℕ) (offset : ℕ) (left : List ℕ) (i : ℕ) (places : List ℕ) → Listed count entries offset left i places → count ≤ i →
    places ≡ directory (directory_size count) (cut count entries)
listed_all count entries offset left i places l h =
    let none : count - i ≡ 0 = omega arith in
    sym (no_place places offset left)
    ∙ ap (λ z. z ++ directory offset (cut 0 left)) (sym (take_all (8 * i) places (omega (arith, l.room))))
    ∙ (rw none at l.listed)
