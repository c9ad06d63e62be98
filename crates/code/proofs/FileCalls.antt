-- The calls on cartridge files: whatever their contracts allow has point 1 of the supply, and a written file yields its entries
-- (document 02, note 6).
use mathlib.Core.Path.{◌≡◌, refl, sym, ap, ◌∙◌}
use mathlib.Core.Logic.{◌⊎◌, inl, inr, ⊎_elim, ◌≢◌, by_cases}
use mathlib.Core.List.{List, [], ◌∷◌, ◌++◌}
use Prim.Native.Nat.{ℕ, ◌+◌, ◌-◌, ◌<◌, ◌≤◌}
use native.Mathlib.Decide.{dec_lt, ℕ_discrete}
use native.Mathlib.Omega.{arith}
use lib.ListN.{length, get_or, take, drop, length-append, length-drop}
use lib.Seq.{length-take-le, take_at, get_or-append-add, get_or-drop}
use Rattle.code.specs.Record.{base}
use Rattle.code.specs.Image.{image_size}
use Rattle.code.specs.Packed.{packed_size, PaddingSet}
use Rattle.code.specs.Files.{entry_blocks, entry_record, Entry, entry_count, directory_size, entry_at, most_bytes, most_entries, Cartridge, cut, file_of, HasRoom}
use Rattle.code.specs.Numbers.{Check, padding_check, file_check, fit_check, size_checks, Decides, First, Passed}
use Rattle.code.specs.Calls.{
  Result,
  Refused,
  Stays,
  Unpacks,
  all_entries_checks,
  write_checks,
  WriteRefused,
  Writes,
  index_checks,
  no_stretch,
  entry_stretch,
  counted,
}
use Rattle.code.specs.Promises.{WasUnpacked, FileWritten, EntryFound, EntryShown, FileCounted}
use Rattle.code.specs.Supply.{UnpacksTo, WriterPoint1, Yields, WrittenYields, HandedOut, ReaderPoint1}
use Rattle.code.specs.declared.Written.{Written}
use Rattle.code.specs.declared.Stretch.{Stretch}
use Rattle.code.specs.declared.Counted.{Counted}
use Rattle.code.proofs.Accepted.{sizes_pass}
use Rattle.code.proofs.Cutting.{entries_each}
use Rattle.code.proofs.Determined.{first_agree}
use Rattle.code.proofs.Files.{file_count, file_entry, file_cartridge, length_cut, joined_cut, length_cut_file, cut_entry, cut_unpadded}
use Rattle.code.proofs.Numbers.{passed_both, passed_last, first_append, first_rest, Each, each_append, each_map, first_each, answer_of, Through}

-- ## What is not broken holds

-- Of an order of two numbers.
module _ (P : Type 0) (d : ¬ (¬ P)) where
  le_kept : (a b : ℕ) → (P → a ≤ b) → a ≤ b
  le_kept a b h = by_cases (dec_lt b a) (λ l. absurd (d (λ p. let k = h p in omega arith))) (λ l. omega arith)

-- Of the rules of a file, and of the room for one.
pub cartridge_stable : (file : List ℕ) → ¬ (¬ Cartridge file) → Cartridge file
cartridge_stable file d = record {
  small = le_kept _ d _ _ (λ c. c.small);
  few = le_kept _ d _ _ (λ c. c.few);
  listed = le_kept _ d _ _ (λ c. c.listed);
  apart = λ i j h l. le_kept _ d _ _ (λ c. c.apart i j h l);
  after = λ i h. le_kept _ d _ _ (λ c. c.after i h);
  within = λ i h. le_kept _ d _ _ (λ c. c.within i h);
  entries = λ i h. record {
    blocks = le_kept _ d _ _ (λ c. (c.entries i h).blocks);
    size = by_cases (ℕ_discrete _ _) (λ e. e) (λ n. absurd (d (λ c. n (c.entries i h).size)));
  };
}

room_stable : (count size room : ℕ) → ¬ (¬ HasRoom count size room) → HasRoom count size room
room_stable count size room d = record { few = le_kept _ d _ _ (λ r. r.few); small = le_kept _ d _ _ (λ r. r.small); inside = le_kept _ d _ _ (λ r. r.inside) }

-- ## An entry's record

-- Of an entry only a padding bit keeps the record from being unpacked.
module _ (e : List ℕ) (whole : Entry e) where
  abbrev blocks : ℕ
  blocks = entry_blocks e

  abbrev packed : List ℕ
  packed = entry_record e

  length_record : length packed ≡ packed_size blocks
  length_record = length-take-le (packed_size blocks) (drop 6 e) (omega (arith, length-drop 6 e, whole.size))

  padding_decides : (before : List ℕ) (q : Result) (last : List ℕ) → WasUnpacked blocks packed before q last → image_size (base blocks) ≤ length before →
      Decides (PaddingSet blocks packed) (Refused q before last (padding_check blocks packed)) (Unpacks blocks packed before q last)
  padding_decides before q last u room =
      let sizes = size_checks blocks (packed_size blocks) (length packed) (image_size (base blocks)) (length before) in
      let padding = padding_check blocks packed ∷ [] in
      let right = Refused q before last in
      let rest = Unpacks blocks packed before q last in
      first_rest sizes right (First padding right rest)
      (sizes_pass blocks (packed_size blocks) (length packed) (image_size (base blocks)) (length before) whole.blocks length_record room)
      (first_append sizes padding right rest u)

  entry_unpacks : UnpacksTo (λ k. (k ≡ 0) ⊎ (k ≡ 8)) e
  entry_unpacks before q last u room = ⊎_elim (λ a. inr (ap answer_of a.1.result)) (λ a. inl (ap answer_of a.1.result)) (padding_decides before q last u room)

  unpadded_unpacks : ¬ PaddingSet blocks packed → UnpacksTo (λ k. k ≡ 0) e
  unpadded_unpacks clean before q last u room = ⊎_elim (λ a. absurd (clean a.0)) (λ a. ap answer_of a.1.result) (padding_decides before q last u room)

-- ## What the reader hands out

-- Of a file that follows the rules it counts all entries and hands out each,
module _ (file : List ℕ) (good : Cartridge file) where
  pub counts_all : (r : Counted) → FileCounted file r → r ≡ counted 0 (entry_count file)
  counts_all r = first_rest (file_check file ∷ []) (λ c. r ≡ counted c.number 0) (r ≡ counted 0 (entry_count file)) (λ n. n good, tt)

  pub shows_entry : (i : ℕ) (part : List ℕ) → i < entry_count file → EntryShown file i part → part ≡ entry_at file i
  shows_entry i part h = first_rest (index_checks file i) (λ c. part ≡ []) (part ≡ entry_at file i) (λ n. n good, (λ l. omega arith, tt))

-- and of no file anything past the last.
pub shows_none : (file : List ℕ) (i : ℕ) (part : List ℕ) → entry_count file ≤ i → EntryShown file i part → part ≡ []
shows_none file i part h = first_each (index_checks file i) (λ c. part ≡ []) (λ e. e, (λ e. e, tt)) (λ p e. absurd (p.1.0 h))

-- ## The writer

-- What holds of 1, 2, 8 and 11 holds of each number that it gives.
write_each : (P : ℕ → Type 0) → P 1 → P 2 → P 8 → P 11 → (count : ℕ) (xs : List ℕ) (room : ℕ) → Each (λ c. P c.number) (write_checks count xs room)
write_each P one two eight eleven count xs room =
    each_append (λ c. P c.number) (all_entries_checks count xs) (fit_check count (directory_size count + length xs) room ∷ []) (entries_each P one two eight count xs)
    (eleven, tt)

-- Past its checks the file is as long as they say, fits, and yields the entries.
module _ (count : ℕ) (entries : List ℕ) (room : ℕ) (p : Passed (write_checks count entries room)) where
  abbrev es : List (List ℕ)
  es = cut count entries

  abbrev file : List ℕ
  file = file_of es

  abbrev size : ℕ
  size = directory_size count + length entries

  cut_passed : Passed (all_entries_checks count entries)
  cut_passed = (passed_both (all_entries_checks count entries) (fit_check count size room ∷ []) p).0

  fits : HasRoom count size room
  fits = room_stable count size room (passed_last (all_entries_checks count entries) (fit_check count size room) p)

  few_written : length es ≤ most_entries
  few_written = omega (arith, fits.few, length_cut count entries)

  small_written : length file ≤ most_bytes
  small_written = omega (arith, fits.small, length_cut_file count entries cut_passed)

  fits_output : length file ≤ room
  fits_output = omega (arith, fits.inside, length_cut_file count entries cut_passed)

  count_written : entry_count file ≡ count
  count_written = file_count es few_written small_written ∙ length_cut count entries

  written_cartridge : Cartridge file
  written_cartridge = file_cartridge es few_written small_written (λ i h. cut_entry count entries cut_passed i (omega (arith, length_cut count entries)))

  file_yields : Yields count entries file
  file_yields = record {
    each = cut_entry count entries cut_passed;
    together = joined_cut count entries cut_passed;
    unpacked = λ i h. unpadded_unpacks (get_or es i []) (cut_entry count entries cut_passed i h) (cut_unpadded count entries cut_passed i h);
    accepted = written_cartridge;
    counts = λ r c. counts_all file written_cartridge r c ∙ ap (counted 0) count_written;
    yields = λ i part h s.
        shows_entry file written_cartridge i part (omega (arith, count_written)) s ∙ file_entry es few_written small_written i (omega (arith, length_cut count entries));
    ends = λ i part h. shows_none file i part (omega (arith, count_written));
  }

  -- Written over the output's first bytes, it leaves the later ones.
  written_stays : (before : List ℕ) → length before ≡ room → Stays (length file) before (file ++ drop (length file) before)
  written_stays before e = record {
    lengths = omega (arith, length-append file (drop (length file) before), length-drop (length file) before, fits_output);
    later = λ i h.
        let place : length file + (i - length file) ≡ i = omega arith in
        ap (λ (j : ℕ). get_or (file ++ drop (length file) before) j 0) (sym place) ∙ get_or-append-add file (drop (length file) before) (i - length file) 0
        ∙ get_or-drop (length file) before (i - length file) 0 ∙ ap (λ (j : ℕ). get_or before j 0) place;
  }

abbrev written_answer : Written → ℕ
written_answer r = r.answer

abbrev written_length : Written → ℕ
written_length r = r.length

-- A writer's own answers.
abbrev Own : ℕ → Type 0
Own k = (k ≤ 2) ⊎ ((k ≡ 8) ⊎ (k ≡ 11))

-- What point 1 says of one answer.
record Leaves (before : List ℕ) (r : Written) (after : List ℕ) : Type 0 where
  pub own : Own r.answer
  pub untouched : r.answer ≢ 0 → (r.length ≡ 0) × (after ≡ before)
  pub later : Stays r.length before after

module _ (count : ℕ) (entries before : List ℕ) (r : Written) (after : List ℕ) (w : FileWritten count entries before r after) where
  leaves : Leaves before r after
  leaves = first_each (write_checks count entries (length before)) (WriteRefused before r after)
      (each_map (write_checks count entries (length before)) (λ c o a. rw (a.result, a.output) (record {
        own = o;
        untouched = λ d. (refl, refl);
        later = record { lengths = refl; later = λ i h. refl };
      }))
      (write_each Own (inl (omega arith)) (inl (omega arith)) (inr (inl refl)) (inr (inr refl)) count entries (length before)))
      (λ p a. rw (a.result, a.output) (record {
        own = inl (omega arith);
        untouched = λ d. absurd (d refl);
        later = written_stays count entries (length before) p before refl;
      })) w

  pub writer_point_1 : WriterPoint1 count entries before r after
  writer_point_1 = record {
    answer = ⊎_elim (λ h. omega arith) (⊎_elim (λ e. omega arith) (λ e. omega arith)) leaves.own;
    own_answer = leaves.own;
    fixed = λ other bytes v. first_agree (write_checks count entries (length before))
        (λ c a b. (b.result ∙ sym a.result, b.output ∙ sym a.output))
        (λ p a b. (b.result ∙ sym a.result, b.output ∙ sym a.output)) w v;
    untouched = leaves.untouched;
    later = leaves.later;
  }

  -- Answer 0: the checks were passed, and the file was written.
  wrote : r.answer ≡ 0 → Through (write_checks count entries (length before)) (Writes (file_of (cut count entries)) before r after)
  wrote z = first_each (write_checks count entries (length before)) (WriteRefused before r after)
      (each_map (write_checks count entries (length before)) (λ c o a. absurd (o (sym (ap written_answer a.result) ∙ z)))
      (write_each (λ k. k ≢ 0) (λ e. omega arith) (λ e. omega arith) (λ e. omega arith) (λ e. omega arith) count entries (length before)))
      (λ p a. record { passed = p; done = a }) w

-- So what was written yields the entries.
pub written_yields : (count : ℕ) (entries before : List ℕ) → WrittenYields count entries before
written_yields count entries before r after w z =
    let t = wrote count entries before r after w z in
    let file = file_of (cut count entries) in
    let first : take r.length after ≡ file =
    ap (take r.length) t.done.output ∙ take_at file (drop (length file) before) r.length (sym (ap written_length t.done.result)) in
    rw first (file_yields count entries (length before) t.passed)

-- ## The reader

-- The answers are fixed by the file and the index.
module _ (file : List ℕ) where
  pub count_fixed : (r other : Counted) → FileCounted file r → FileCounted file other → other ≡ r
  count_fixed r other =
      first_agree (file_check file ∷ []) (λ (c : Check) (a : r ≡ counted c.number 0) (b : other ≡ counted c.number 0). b ∙ sym a) (λ p a b. b ∙ sym a)

  module _ (i : ℕ) where
    pub shown_fixed : (part other : List ℕ) → EntryShown file i part → EntryShown file i other → other ≡ part
    shown_fixed part other = first_agree (index_checks file i) (λ (c : Check) (a : part ≡ []) (b : other ≡ []). b ∙ sym a) (λ p a b. b ∙ sym a)

    found_fixed : (r other : Stretch) → EntryFound file i r → EntryFound file i other → other ≡ r
    found_fixed r other =
        first_agree (index_checks file i) (λ (c : Check) (a : r ≡ no_stretch c.number) (b : other ≡ no_stretch c.number). b ∙ sym a) (λ p a b. b ∙ sym a)

    -- The part is the stretch.
    abbrev stretch_of : Stretch → List ℕ
    stretch_of r = take r.length (drop r.offset file)

    found_shown : (r : Stretch) (part : List ℕ) → EntryFound file i r → EntryShown file i part → part ≡ stretch_of r
    found_shown r part = first_agree (index_checks file i) (λ (c : Check) (a : r ≡ no_stretch c.number) (b : part ≡ []). b ∙ sym (ap stretch_of a))
        (λ p a b. b ∙ sym (ap stretch_of a))

    -- Point 1 where the file breaks the rules, and where it follows them.
    broken : ¬ Cartridge file → (r : Stretch) → EntryFound file i r → r ≡ no_stretch 10 → ReaderPoint1 file i r
    broken n r f e =
        let ten = ap (λ (s : Stretch). s.answer) e in
        record {
          answer = inr ten;
          fixed = λ other. found_fixed r other f;
          said_10 = (λ k. n, λ k. ten);
          empty = λ k. e;
          handed_out = λ z. absurd (omega arith);
          past_last = λ z. absurd (omega arith);
          shown = λ part. found_shown r part f;
          numbered = λ c m. (λ z. absurd (omega arith), λ d. first_each (file_check file ∷ []) (λ k. c ≡ counted k.number 0) (λ a. a, tt) (λ p a. absurd (p.0 n)) m);
        }

    followed : Cartridge file → (r : Stretch) → EntryFound file i r → r.answer ≡ 0 →
        (i < entry_count file → HandedOut file r) → (entry_count file ≤ i → r ≡ no_stretch 0) → ReaderPoint1 file i r
    followed g r f z handed past = record {
      answer = inl z;
      fixed = λ other. found_fixed r other f;
      said_10 = (λ e. absurd (omega arith), λ n. absurd (n g));
      empty = λ d. absurd (d z);
      handed_out = λ k. handed;
      past_last = λ k. past;
      shown = λ part. found_shown r part f;
      numbered = λ c n. (λ k. counts_all file g c n, λ d. absurd (d z));
    }

    -- The stretch of an entry.
    handed : Cartridge file → i < entry_count file → HandedOut file (entry_stretch file i)
    handed g h = record { behind = g.after i h; within = g.within i h; entry = g.entries i h; unpacked = entry_unpacks (entry_at file i) (g.entries i h) }

    pub reader_point_1 : (r : Stretch) → EntryFound file i r → ReaderPoint1 file i r
    reader_point_1 r (inl a) = broken a.0 r (inl a) a.1
    reader_point_1 r (inr (d, inl a)) =
        followed (cartridge_stable file d) r (inr (d, inl a)) (ap (λ (s : Stretch). s.answer) a.1) (λ h. absurd (omega (arith, a.0))) (λ h. a.1)
    reader_point_1 r (inr (d, inr a)) =
        followed (cartridge_stable file d) r (inr (d, inr a)) (ap (λ (s : Stretch). s.answer) a.1)
        (λ h. rw a.1 (handed (cartridge_stable file d) h)) (λ h. absurd (a.0 h))
