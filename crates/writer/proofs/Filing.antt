-- The file, written part after part.
use mathlib.Core.Path.{◌≡◌, sym, ap, ◌∙◌}
use mathlib.Core.List.{List, ◌++◌, append_assoc}
use Prim.Native.Nat.{ℕ, ◌+◌, ◌*◌, ◌-◌}
use native.Mathlib.Omega.{arith}
use borrow.Rule.Slice.PartMut.{put_mid}
use lib.ListN.{length, drop, length-append, length-drop}
use Rattle.code.specs.Files.{bytes_of, directory_size, cut, directory, file_of}
use Rattle.code.specs.Numbers.{Passed}
use Rattle.code.specs.Calls.{all_entries_checks}
use Rattle.code.proofs.Numerals.{length_bytes}
use Rattle.code.proofs.Files.{length_directory, length_cut, joined_cut}
use Rattle.writer.proofs.Bytes.{put_behind, put_last}

module _ (count : ℕ) (entries out : List ℕ) (room : length out ≡ directory_size count + length entries) (passed : Passed (all_entries_checks count entries)) where
  abbrev list : List ℕ
  list = directory (directory_size count) (cut count entries)

  -- The file by its parts.
  file_parts : bytes_of 2 count ++ list ++ entries ≡ file_of (cut count entries)
  file_parts = rw (length_cut count entries, joined_cut count entries passed)

  -- The directory's length, and that of all before the entries.
  list_length : length list ≡ 8 * count
  list_length = length_directory (directory_size count) (cut count entries) ∙ ap (λ n. 8 * n) (length_cut count entries)

  front_length : length (bytes_of 2 count ++ list) ≡ directory_size count
  front_length = length-append (bytes_of 2 count) list ∙ omega (arith, length_bytes 2 count, list_length)

  -- The number and the directory are written, and so much is left for the entries.
  abbrev middle : List ℕ
  middle = put_mid 2 (directory_size count - 2) (bytes_of 2 count ++ drop 2 out) list

  abbrev left : List ℕ
  left = drop (directory_size count - 2) (drop 2 out)

  two_parts : middle ≡ bytes_of 2 count ++ list ++ left
  two_parts =
      put_behind 2 (directory_size count - 2) (bytes_of 2 count) (drop 2 out) list (length_bytes 2 count) ∙ sym (append_assoc (bytes_of 2 count) list left)

  left_length : length left ≡ length entries
  left_length = length-drop (directory_size count - 2) (drop 2 out) ∙ omega (arith, length-drop 2 out, room)

  middle_length : length middle ≡ directory_size count + length entries
  middle_length = ap length two_parts ∙ length-append (bytes_of 2 count ++ list) left ∙ omega (arith, front_length, left_length)

  pub file_put : put_mid (directory_size count) (length middle - directory_size count) middle entries ≡ file_of (cut count entries)
  file_put =
      ap (λ z. put_mid (directory_size count) (length middle - directory_size count) z entries) two_parts
      ∙ put_last (directory_size count) (length middle - directory_size count) (bytes_of 2 count ++ list) left entries front_length (omega (arith, middle_length, left_length))
      ∙ file_parts
