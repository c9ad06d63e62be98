-- The contracts of the calls. Document 01's have its shape of n blocks, its checks and its flags, bit g of the flag word for track number
-- g.
use Rattle.std.specs.Prelude.{◌≡◌, List, [], ◌∷◌, ℕ, length}
use Rattle.code.specs.Record.{base}
use Rattle.code.specs.Flags.{TrackFlags, whole, word_flags}
use Rattle.code.specs.Lost.{read_values, with_lost}
use Rattle.code.specs.Reach.{Tracing, cautious, within, traced_reach}
use Rattle.code.specs.Spans.{Table, span_flags}
use Rattle.code.specs.Files.{entry_count, entry_at, cut, file_of}
use Rattle.code.specs.Numbers.{file_check, First}
use Rattle.code.specs.Calls.{
  Result,
  Answered,
  encode_checks,
  Encodes,
  read_checks,
  ReadOrNot,
  repair_checks,
  trace_checks,
  Repairs,
  Traces,
  span_checks,
  view_checks,
  Shown,
  pack_checks,
  Packs,
  unpack_checks,
  Unpacks,
  write_checks,
  WriteRefused,
  Writes,
  index_checks,
  no_stretch,
  entry_stretch,
  counted,
}
use Rattle.code.specs.declared.Written.{Written}
use Rattle.code.specs.declared.Stretch.{Stretch}
use Rattle.code.specs.declared.Counted.{Counted}

-- Encoder: block count, payload, output before, answer, output after.
abbrev pub Encoded : ℕ → List ℕ → List ℕ → Result → List ℕ → Type 0
Encoded n payload before = Answered (encode_checks (base n) n payload before) (Encodes (base n) n payload before) before

-- Reader: block count, image, output before, answer, output after. A cell has the values below `values`.
abbrev pub ReadBy : ℕ → ℕ → List ℕ → List ℕ → Result → List ℕ → Type 0
ReadBy values n image before = Answered (read_checks values (base n) n image before) (ReadOrNot (base n) n image before) before

-- Document 02, note 2: a cell may be lost. An image with a lost cell is no good record.
abbrev pub WasRead : ℕ → List ℕ → List ℕ → Result → List ℕ → Type 0
WasRead = ReadBy read_values

-- Repairer where f are the flagged tracks: block count, flag word, image, output before, answer, output after.
abbrev pub RepairedBy : ℕ → ℕ → ℕ → TrackFlags → List ℕ → List ℕ → Result → List ℕ → Type 0
RepairedBy values n word f image before =
    Answered (repair_checks values (base n) n word f image before) (Repairs (base n) (whole f) image before) before

-- Tracer: the same, with the extras that this way of tracing allows beside the flags.
abbrev pub TracedBy : Tracing → ℕ → ℕ → ℕ → TrackFlags → List ℕ → List ℕ → Result → List ℕ → Type 0
TracedBy way values n word f image before =
    Answered (trace_checks way values (base n) n word f image before) (Traces (base n) (traced_reach way (base n) f) f image before) before

-- Document 02, note 2: the flagged tracks are those of the flag word and those with a lost cell.
abbrev pub call_flags : ℕ → ℕ → List ℕ → TrackFlags
call_flags n word image = with_lost (base n) (word_flags (base n) word) image

abbrev pub Repaired : ℕ → ℕ → List ℕ → List ℕ → Result → List ℕ → Type 0
Repaired n word image = RepairedBy read_values n word (call_flags n word image) image

-- Document 02, note 7: cautious tracing, and tracing with a ceiling: block count, flag word, ceiling, image, output before, answer, output
-- after.
abbrev pub Traced : ℕ → ℕ → List ℕ → List ℕ → Result → List ℕ → Type 0
Traced n word image = TracedBy cautious read_values n word (call_flags n word image) image

abbrev pub TracedWithin : ℕ → ℕ → ℕ → List ℕ → List ℕ → Result → List ℕ → Type 0
TracedWithin n word ceiling image = TracedBy (within ceiling) read_values n word (call_flags n word image) image

-- Repair with flags by stretch, of document 02, note 5: block count, table, image, output before, answer, output after.
abbrev pub SpansRepaired : ℕ → Table → List ℕ → List ℕ → Result → List ℕ → Type 0
SpansRepaired n table image before =
    let flag = span_flags (base n) table image in
    Answered (span_checks read_values (base n) n table flag image before) (Repairs (base n) flag image before) before

-- Track view: block count, image, track number, the part handed over.
abbrev pub Viewed : ℕ → List ℕ → ℕ → List ℕ → Type 0
Viewed n image g = Shown (view_checks (base n) n image g) (base n) image g

-- Packing, of document 02: block count, image, output before, answer, output after.
abbrev pub WasPacked : ℕ → List ℕ → List ℕ → Result → List ℕ → Type 0
WasPacked n image before = Answered (pack_checks n image before) (Packs n image before) before

-- Unpacking: block count, packed form, output before, answer, output after.
abbrev pub WasUnpacked : ℕ → List ℕ → List ℕ → Result → List ℕ → Type 0
WasUnpacked n packed before = Answered (unpack_checks n packed before) (Unpacks n packed before) before

-- Writer of a cartridge file, of document 02, note 6: number of entries, their bytes, output before, answer, output after.
abbrev pub FileWritten : ℕ → List ℕ → List ℕ → Written → List ℕ → Type 0
FileWritten count entries before r after =
    First (write_checks count entries (length before)) (WriteRefused before r after) (Writes (file_of (cut count entries)) before r after)

-- Reader of a cartridge file: file, index, answer and stretch of the file.
abbrev pub EntryFound : List ℕ → ℕ → Stretch → Type 0
EntryFound file i r = First (index_checks file i) (λ c. r ≡ no_stretch c.number) (r ≡ entry_stretch file i)

-- The same: file, index, the part handed out.
abbrev pub EntryShown : List ℕ → ℕ → List ℕ → Type 0
EntryShown file i part = First (index_checks file i) (λ c. part ≡ []) (part ≡ entry_at file i)

-- The number of a file's entries: file, answer and number.
abbrev pub FileCounted : List ℕ → Counted → Type 0
FileCounted file r = First (file_check file ∷ []) (λ c. r ≡ counted c.number 0) (r ≡ counted 0 (entry_count file))
