-- Laws of a file of entries, of any list of them, and of the entries that the writer cuts its bytes into (document 02, note 6).
use mathlib.Core.Path.{◌≡◌, refl, sym, ap, ap₂, ◌∙◌}
use mathlib.Core.List.{List, [], ◌∷◌, ◌++◌, append_assoc}
use Prim.Native.Nat.{ℕ, zero, suc, ◌+◌, ◌*◌, ◌^◌, ◌<◌, ◌≤◌}
use native.Mathlib.Omega.{arith}
use lib.ListN.{length, get_or, take, drop, length-append, take-append-drop}
use lib.Seq.{length-take-le, drop-cons, take_at, drop_at, take-suc, take-take, take-add, drop-append-add}
use Rattle.code.specs.Packed.{packed_size, PaddingSet}
use Rattle.code.specs.Files.{
  number,
  bytes_of,
  entry_blocks,
  entry_record,
  entry_size,
  Entry,
  entry_count,
  directory_size,
  entry_offset,
  entry_length,
  entry_at,
  most_bytes,
  most_entries,
  Cartridge,
  cut,
  directory,
  joined,
  file_of,
}
use Rattle.code.specs.Numbers.{Passed}
use Rattle.code.specs.Calls.{all_entries_checks}
use Rattle.code.proofs.Numerals.{number_front, number_behind, number_take, length_bytes, number_bytes}
use Rattle.code.proofs.Cutting.{Begins, passed_begins, passed_next, passed_end}

-- ## Entries one after another

-- Those of two lists.
pub joined_append : (es fs : List (List ℕ)) → joined (es ++ fs) ≡ joined es ++ joined fs
joined_append [] fs = refl
joined_append (e ∷ es) fs = ap (λ (r : List ℕ). e ++ r) (joined_append es fs) ∙ sym (append_assoc e (joined es) (joined fs))

-- Around place i.
pub joined_split : (es : List (List ℕ)) (i : ℕ) → joined es ≡ joined (take i es) ++ joined (drop i es)
joined_split es i = ap joined (sym (take-append-drop i es)) ∙ joined_append (take i es) (drop i es)

-- The bytes of the entries before place i.
abbrev pub bytes_before : List (List ℕ) → ℕ → ℕ
bytes_before es i = length (joined (take i es))

-- The entry at that place stands behind them,
pub joined_at : (es : List (List ℕ)) (i : ℕ) → i < length es → take (length (get_or es i [])) (drop (bytes_before es i) (joined es)) ≡ get_or es i []
joined_at es i h =
    ap (λ (r : List ℕ). take (length (get_or es i [])) r)
    (ap (drop (bytes_before es i)) (joined_split es i) ∙ drop_at (joined (take i es)) (joined (drop i es)) (bytes_before es i) refl ∙ ap joined (drop-cons es i [] h))
    ∙ take_at (get_or es i []) (joined (drop (suc i) es)) (length (get_or es i [])) refl

-- and the next entry behind that.
pub before_next : (es : List (List ℕ)) (i : ℕ) → i < length es → bytes_before es (suc i) ≡ bytes_before es i + length (get_or es i [])
before_next es i h =
    let e = get_or es i [] in
    let last : length (e ++ []) ≡ length e + 0 = length-append e [] in
    let both = ap length (ap joined (take-suc es i [] h) ∙ joined_append (take i es) (e ∷ [])) in
    omega (arith, both, length-append (joined (take i es)) (e ++ []), last)

-- Fewer entries have no more bytes, and no more than all.
pub before_all : (es : List (List ℕ)) (i : ℕ) → bytes_before es i ≤ length (joined es)
before_all es i = omega (arith, ap length (joined_split es i), length-append (joined (take i es)) (joined (drop i es)))

pub before_le : (es : List (List ℕ)) (i j : ℕ) → i ≤ j → bytes_before es i ≤ bytes_before es j
before_le es i j h = omega (arith, ap (λ (r : List (List ℕ)). length (joined r)) (take-take i j es h), before_all (take j es) i)

-- ## The directory

-- The two numbers of an entry have eight bytes.
pair_length : (o n : ℕ) → length (bytes_of 4 o ++ bytes_of 4 n) ≡ 8
pair_length o n = omega (arith, length-append (bytes_of 4 o) (bytes_of 4 n), length_bytes 4 o, length_bytes 4 n)

-- The directory has eight bytes an entry.
pub length_directory : (o : ℕ) (es : List (List ℕ)) → length (directory o es) ≡ 8 * length es
unfolding directory
length_directory o [] = refl
length_directory o (e ∷ es) =
    omega (arith, length-append (bytes_of 4 o ++ bytes_of 4 (length e)) (directory (o + length e) es), pair_length o (length e), length_directory (o + length e) es)

-- The offset and the length at place i.
pub directory_offset : (o : ℕ) (es : List (List ℕ)) (i : ℕ) → i < length es → o + length (joined es) < 256 ^ 4 →
    number 4 (directory o es) (8 * i) ≡ o + bytes_before es i
unfolding directory
directory_offset o [] i h small = absurd (omega arith)
directory_offset o (e ∷ es) zero h small =
    let pair = bytes_of 4 o ++ bytes_of 4 (length e) in
    number_front 4 pair (directory (o + length e) es) 0 (omega (arith, pair_length o (length e)))
    ∙ number_front 4 (bytes_of 4 o) (bytes_of 4 (length e)) 0 (omega (arith, length_bytes 4 o))
    ∙ number_bytes 4 o (omega arith) ∙ omega arith
directory_offset o (e ∷ es) (suc i) h small =
    let pair = bytes_of 4 o ++ bytes_of 4 (length e) in
    let behind = directory (o + length e) es in
    ap (number 4 (pair ++ behind)) {x = 8 * suc i} {y = 8 + 8 * i} (omega arith)
    ∙ number_behind 4 pair behind 8 (8 * i) (pair_length o (length e))
    ∙ directory_offset (o + length e) es i (omega arith) (omega (arith, length-append e (joined es)))
    ∙ omega (arith, length-append e (joined (take i es)))

pub directory_length : (o : ℕ) (es : List (List ℕ)) (i : ℕ) → i < length es → length (joined es) < 256 ^ 4 →
    number 4 (directory o es) (4 + 8 * i) ≡ length (get_or es i [])
unfolding directory
directory_length o [] i h small = absurd (omega arith)
directory_length o (e ∷ es) zero h small =
    let pair = bytes_of 4 o ++ bytes_of 4 (length e) in
    number_front 4 pair (directory (o + length e) es) 4 (omega (arith, pair_length o (length e)))
    ∙ number_behind 4 (bytes_of 4 o) (bytes_of 4 (length e)) 4 0 (length_bytes 4 o)
    ∙ number_bytes 4 (length e) (omega (arith, length-append e (joined es)))
directory_length o (e ∷ es) (suc i) h small =
    let pair = bytes_of 4 o ++ bytes_of 4 (length e) in
    let behind = directory (o + length e) es in
    ap (number 4 (pair ++ behind)) {x = 4 + 8 * suc i} {y = 8 + (4 + 8 * i)} (omega arith)
    ∙ number_behind 4 pair behind 8 (4 + 8 * i) (pair_length o (length e))
    ∙ directory_length (o + length e) es i (omega arith) (omega (arith, length-append e (joined es)))

-- ## The file

module _ (es : List (List ℕ)) where
  abbrev count : ℕ
  count = length es

  -- What stands before the entries: their number and the directory.
  abbrev pub head : List ℕ
  head = bytes_of 2 count ++ directory (directory_size count) es

  pub length_head : length head ≡ directory_size count
  length_head =
      omega (arith, length-append (bytes_of 2 count) (directory (directory_size count) es), length_bytes 2 count, length_directory (directory_size count) es)

  -- The file's length, its number of entries,
  pub length_file : length (file_of es) ≡ directory_size count + length (joined es)
  length_file = omega (arith, length-append head (joined es), length_head)

  module _ (few : count ≤ most_entries) (small : length (file_of es) ≤ most_bytes) where
    pub file_count : entry_count (file_of es) ≡ count
    file_count =
        number_front 2 head (joined es) 0 (omega (arith, length_head))
        ∙ number_front 2 (bytes_of 2 count) (directory (directory_size count) es) 0 (omega (arith, length_bytes 2 count))
        ∙ number_bytes 2 count (omega arith)

    -- and the two numbers at place i of its directory.
    module _ (i : ℕ) (h : i < count) where
      pub file_offset : entry_offset (file_of es) i ≡ directory_size count + bytes_before es i
      file_offset =
          number_front 4 head (joined es) (2 + 8 * i) (omega (arith, length_head))
          ∙ number_behind 4 (bytes_of 2 count) (directory (directory_size count) es) 2 (8 * i) (length_bytes 2 count)
          ∙ directory_offset (directory_size count) es i h (omega (arith, length_file))

      pub file_length : entry_length (file_of es) i ≡ length (get_or es i [])
      file_length =
          number_front 4 head (joined es) (6 + 8 * i) (omega (arith, length_head))
          ∙ ap (number 4 head) {x = 6 + 8 * i} {y = 2 + (4 + 8 * i)} (omega arith)
          ∙ number_behind 4 (bytes_of 2 count) (directory (directory_size count) es) 2 (4 + 8 * i) (length_bytes 2 count)
          ∙ directory_length (directory_size count) es i h (omega (arith, length_file))

      -- Entry i of the file is entry i of the list.
      pub file_entry : entry_at (file_of es) i ≡ get_or es i []
      file_entry =
          ap₂ (λ (l o : ℕ). take l (drop o (file_of es))) file_length (file_offset ∙ ap (λ (n : ℕ). n + bytes_before es i) (sym length_head))
          ∙ ap (take (length (get_or es i []))) (drop-append-add head (joined es) (bytes_before es i)) ∙ joined_at es i h

    -- The file follows the rules.
    pub file_cartridge : ((i : ℕ) → i < count → Entry (get_or es i [])) → Cartridge (file_of es)
    file_cartridge each = record {
      small = small;
      few = omega (arith, file_count);
      listed = omega (arith, file_count, length_file);
      apart = λ i j h l.
          let inside : j < count = omega (arith, file_count) in
          omega (arith, file_offset i (omega arith), file_length i (omega arith), file_offset j inside, before_next es i (omega arith), before_le es (suc i) j h);
      after = λ i h. omega (arith, file_count, file_offset i (omega (arith, file_count)));
      within = λ i h.
          let inside : i < count = omega (arith, file_count) in
          omega (arith, file_offset i inside, file_length i inside, before_next es i inside, before_all es (suc i), length_file);
      entries = λ i h. let inside : i < count = omega (arith, file_count) in rw (file_entry i inside) (each i inside);
    }

-- ## The entries that bytes are cut into

-- They are as many as asked for.
pub length_cut : (k : ℕ) (xs : List ℕ) → length (cut k xs) ≡ k
unfolding cut
length_cut zero xs = refl
length_cut (suc k) xs = ap suc (length_cut k (drop (entry_size (entry_blocks xs)) xs))

-- Together they are the bytes.
pub joined_cut : (k : ℕ) (xs : List ℕ) → Passed (all_entries_checks k xs) → joined (cut k xs) ≡ xs
unfolding cut
joined_cut zero [] p = refl
joined_cut zero (x ∷ xs) p = absurd (omega (arith, passed_end (x ∷ xs) p))
joined_cut (suc k) xs p =
    let size = entry_size (entry_blocks xs) in
    ap (λ (r : List ℕ). take size xs ++ r) (joined_cut k (drop size xs) (passed_next k xs p)) ∙ take-append-drop size xs

-- So their file is as long as the writer's check says.
pub length_cut_file : (k : ℕ) (xs : List ℕ) → Passed (all_entries_checks k xs) → length (file_of (cut k xs)) ≡ directory_size k + length xs
length_cut_file k xs p = omega (arith, length_file (cut k xs), length_cut k xs, ap length (joined_cut k xs p))

-- What holds of every entry with which bytes begin holds of each of them.
cut_each : (P : List ℕ → Type 0) → ((xs : List ℕ) → Begins xs → P (take (entry_size (entry_blocks xs)) xs)) →
    (k : ℕ) (xs : List ℕ) → Passed (all_entries_checks k xs) → (i : ℕ) → i < k → P (get_or (cut k xs) i [])
unfolding cut
cut_each P first zero xs p i h = absurd (omega arith)
cut_each P first (suc k) xs p zero h = first xs (passed_begins k xs p)
cut_each P first (suc k) xs p (suc i) h = cut_each P first k (drop (entry_size (entry_blocks xs)) xs) (passed_next k xs p) i (omega arith)

-- The entry with which bytes begin has their count and their record.
module _ (xs : List ℕ) (b : Begins xs) where
  abbrev size : ℕ
  size = entry_size (entry_blocks xs)

  first_blocks : entry_blocks (take size xs) ≡ entry_blocks xs
  first_blocks = number_take 2 xs size 4 (omega arith)

  first_entry : Entry (take size xs)
  first_entry = record { blocks = omega (arith, first_blocks, b.blocks); size = length-take-le size xs b.whole ∙ ap entry_size (sym first_blocks) }

  first_record : entry_record (take size xs) ≡ entry_record xs
  first_record =
      let n = packed_size (entry_blocks xs) in
      ap₂ (λ (k : ℕ) (r : List ℕ). take k r) (ap packed_size first_blocks)
      (ap (drop 6) (take-add 6 n xs) ∙ drop_at (take 6 xs) (take n (drop 6 xs)) 6 (length-take-le 6 xs b.head))
      ∙ take-take n n (drop 6 xs) (omega arith)

-- Each is an entry, and its record has no padding bit that is 1.
pub cut_entry : (k : ℕ) (xs : List ℕ) → Passed (all_entries_checks k xs) → (i : ℕ) → i < k → Entry (get_or (cut k xs) i [])
cut_entry = cut_each Entry first_entry

pub cut_unpadded : (k : ℕ) (xs : List ℕ) → Passed (all_entries_checks k xs) → (i : ℕ) → i < k →
    let e = get_or (cut k xs) i [] in ¬ PaddingSet (entry_blocks e) (entry_record e)
cut_unpadded = cut_each (λ e. ¬ PaddingSet (entry_blocks e) (entry_record e)) (λ xs b. rw (first_record xs b, first_blocks xs b) b.unpadded)
