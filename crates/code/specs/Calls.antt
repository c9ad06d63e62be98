-- For each call, which answer and which output bytes are right for an input: those of document 01 over any shape, any list of checks
-- and any flags, then what document 02 adds. Promises.antt has the calls.
use Rattle.std.specs.Prelude.{◌≡◌, ◌⊎◌, ◌&&◌, not, List, [], ◌∷◌, ◌++◌, ℕ, zero, suc, ◌+◌, ◌*◌, ◌^◌, ◌<◌, ◌≤◌, length, get_or, take, drop, eqb}
use Rattle.code.specs.Record.{TrackSet, A, B, Shape, base, tracks, track_length, Cells, sum, Good}
use Rattle.code.specs.Image.{track_number, all_tracks, image_size, cells}
use Rattle.code.specs.Payload.{payload_size, Carries}
use Rattle.code.specs.Flags.{TrackFlags, CellFlags, AgreeOff}
use Rattle.code.specs.Lost.{bit_values}
use Rattle.code.specs.Reach.{pick, Extra, none, extra, InReach, Tracing, cautious, within}
use Rattle.code.specs.Packed.{packed_size, PackedForm}
use Rattle.code.specs.Spans.{Table}
use Rattle.code.specs.Files.{entry_blocks, entry_record, entry_size, entry_count, entry_offset, entry_length, directory_size}
use Rattle.code.specs.Numbers.{
  Check,
  count_check,
  length_check,
  flag_check,
  ceiling_check,
  reach_check,
  padding_check,
  table_check,
  window_check,
  left_check,
  file_check,
  fit_check,
  input_checks,
  size_checks,
  image_checks,
  Decides,
  First,
}
use Rattle.code.specs.declared.Reach.{Reach}
use Rattle.code.specs.declared.Written.{Written}
use Rattle.code.specs.declared.Stretch.{Stretch}
use Rattle.code.specs.declared.Counted.{Counted}

-- ## What a call returns

-- The answer is 0 or a number. An extra is named by its track number g.
pub record Result : Type 0 where
  pub answer : ℕ
  pub detail : ℕ
  pub mask : ℕ
  pub changed : ℕ
  pub extra_a : Extra
  pub extra_b : Extra

-- An answer with no changed cell and no extra: every number, and 0 from encoder and reader.
abbrev pub plain : ℕ → ℕ → Result
plain number detail = record { answer = number; detail = detail; mask = 0; changed = 0; extra_a = none; extra_b = none }

-- A number that leaves the output as it came.
pub record Refused (r : Result) (before after : List ℕ) (c : Check) : Type 0 where
  pub result : r ≡ plain c.number c.detail
  pub output : after ≡ before

-- This answer and this output are right for a call with these checks: the first that applies refuses it, and where none applies
-- `done` says what is right.
abbrev pub Answered : List {1} Check → (Result → List ℕ → Type 0) → List ℕ → Result → List ℕ → Type 0
Answered checks done before r after = First checks (Refused r before after) (done r after)

-- Bytes from `size` up stay.
pub record Stays (size : ℕ) (before after : List ℕ) : Type 0 where
  pub lengths : length after ≡ length before
  pub later : (i : ℕ) → size ≤ i → get_or after i 0 ≡ get_or before i 0

-- ## Encoder

-- It gives 1 to 3.
abbrev pub encode_checks : Shape → ℕ → List ℕ → List ℕ → List {1} Check
encode_checks sh n payload before = size_checks n (payload_size sh n) (length payload) (image_size sh) (length before)

-- 0: the output's first bytes are the good record that carries the payload; there is one (`same_payload` of proofs/Payloads).
pub record Encodes (sh : Shape) (n : ℕ) (payload before : List ℕ) (r : Result) (after : List ℕ) : Type 0 where
  pub result : r ≡ plain 0 0
  pub good : Good sh (cells sh after)
  pub carries : Carries sh n (cells sh after) payload
  pub stays : Stays (image_size sh) before after

-- ## Reader

-- It gives 1 to 4 and 7. `values` are those that a cell may have.
abbrev pub read_checks : ℕ → Shape → ℕ → List ℕ → List ℕ → List {1} Check
read_checks values sh n image before = image_checks values n (image_size sh) image (payload_size sh n) (length before)

-- 0: the payload fills the output's first bytes.
pub record Reads (sh : Shape) (n : ℕ) (image before : List ℕ) (r : Result) (after : List ℕ) : Type 0 where
  pub result : r ≡ plain 0 0
  pub carries : Carries sh n (cells sh image) after
  pub stays : Stays (payload_size sh n) before after

-- 7: the image is not good, and the output stays as it came.
pub record NotRead (before : List ℕ) (r : Result) (after : List ℕ) : Type 0 where
  pub result : r ≡ plain 7 0
  pub output : after ≡ before

-- Which of the two: whether the image is good.
abbrev pub ReadOrNot : Shape → ℕ → List ℕ → List ℕ → Result → List ℕ → Type 0
ReadOrNot sh n image before r after =
    Decides (Good sh (cells sh image)) (Reads sh n image before r after) (NotRead before r after)

-- ## Changed cells

-- 1 where two cells differ.
abbrev pub differ : ℕ → ℕ → ℕ
differ x y = pick (eqb x y) 0 1

-- The cells of track t of set s that differ.
unfoldable pub changed_in : Shape → Cells → Cells → TrackSet → ℕ → ℕ
changed_in sh x y s t = sum (track_length sh) (λ m. differ (x s t m) (y s t m))

-- A sum over all tracks of both sets.
abbrev pub over_tracks : Shape → (TrackSet → ℕ → ℕ) → ℕ
over_tracks sh f = sum (tracks sh A) (f A) + sum (tracks sh B) (f B)

-- All the cells that differ.
unfoldable pub changed_cells : Shape → Cells → Cells → ℕ
changed_cells sh x y = over_tracks sh (changed_in sh x y)

-- Bit g of the mask is set exactly if some cell of track g differs.
abbrev pub mask_bit : ℕ → ℕ → ℕ
mask_bit g changed = pick (eqb changed 0) 0 (2 ^ g)

unfoldable pub changed_mask : Shape → Cells → Cells → ℕ
changed_mask sh x y = over_tracks sh (λ s t. mask_bit (track_number sh s t) (changed_in sh x y s t))

-- The changed track of a set outside the flags, by its track number, among the first k tracks.
unfoldable pub changed_extra : Shape → TrackFlags → Cells → Cells → TrackSet → ℕ → Extra
changed_extra sh f x y s zero = none
changed_extra sh f x y s (suc t) =
    pick (not (f s t) && not (eqb (changed_in sh x y s t) 0)) (extra (track_number sh s t)) (changed_extra sh f x y s t)

-- ## Repair and tracing

-- What both calls return with answer 0.
abbrev pub mended : Shape → Cells → Cells → (TrackSet → Extra) → Result
mended sh x y named =
    record {
      answer = 0;
      detail = 0;
      mask = changed_mask sh x y;
      changed = changed_cells sh x y;
      extra_a = named A;
      extra_b = named B;
    }

-- The two calls differ in which records count as near, and in the extras that tracing names.
-- The output holds a good record that is near the image.
pub record Found (sh : Shape) (near : Cells → Type 0) (named : TrackSet → Extra) (image before : List ℕ) (r : Result) (after : List ℕ) : Type 0 where
  pub good : Good sh (cells sh after)
  pub reached : near (cells sh after)
  pub stays : Stays (image_size sh) before after
  pub result : r ≡ mended sh (cells sh image) (cells sh after) named

-- 7: no good record is near, and the output's first bytes are a copy of the image.
pub record NotFound (sh : Shape) (near : Cells → Type 0) (image before : List ℕ) (r : Result) (after : List ℕ) : Type 0 where
  pub no_record : (y : Cells) → Good sh y → near y → ⊥
  pub copy : (i : ℕ) → i < image_size sh → get_or after i 0 ≡ get_or image i 0
  pub stays : Stays (image_size sh) before after
  pub result : r ≡ plain 7 0

abbrev pub Mended : Shape → (Cells → Type 0) → (List ℕ → TrackSet → Extra) → List ℕ → List ℕ → Result → List ℕ → Type 0
Mended sh near named image before r after =
    Found sh near (named after) image before r after ⊎ NotFound sh near image before r after

-- 1 to 5, before the flags are counted, where the output has `room` bytes. `values` are those that a cell may have.
abbrev pub early_checks : ℕ → Shape → ℕ → ℕ → List ℕ → ℕ → List {1} Check
early_checks values sh n word image room = image_checks values n (image_size sh) image (image_size sh) room ++ (flag_check sh word ∷ [])

-- Both calls give 1 to 6, by the flag word and by which tracks are flagged, then 0 or 7.
abbrev pub repair_checks : ℕ → Shape → ℕ → ℕ → TrackFlags → List ℕ → List ℕ → List {1} Check
repair_checks values sh n word f image before = early_checks values sh n word image (length before) ++ (reach_check sh f ∷ [])

-- Tracing with a ceiling gives 12 between 5 and 6.
abbrev pub ceiling_checks : Tracing → List {1} Check
ceiling_checks cautious = []
ceiling_checks (within ceiling) = ceiling_check ceiling ∷ []

abbrev pub trace_checks : Tracing → ℕ → Shape → ℕ → ℕ → TrackFlags → List ℕ → List ℕ → List {1} Check
trace_checks way values sh n word f image before =
    (early_checks values sh n word image (length before) ++ ceiling_checks way) ++ (reach_check sh f ∷ [])

-- Repair allows no extras: the good records that equal the image on every unflagged cell.
abbrev pub RepairNear : Shape → CellFlags → List ℕ → Cells → Type 0
RepairNear sh flag image = AgreeOff sh flag (cells sh image)

abbrev pub Repairs : Shape → CellFlags → List ℕ → List ℕ → Result → List ℕ → Type 0
Repairs sh flag image = Mended sh (RepairNear sh flag image) (λ _ _. none) image

-- Tracing allows the extras of a reach, and names those that were changed.
abbrev pub TraceNear : Shape → Reach → TrackFlags → List ℕ → Cells → Type 0
TraceNear sh w f image = InReach sh w f (cells sh image)

abbrev pub trace_named : Shape → TrackFlags → List ℕ → List ℕ → TrackSet → Extra
trace_named sh f image after s = changed_extra sh f (cells sh image) (cells sh after) s (tracks sh s)

abbrev pub Traces : Shape → Reach → TrackFlags → List ℕ → List ℕ → Result → List ℕ → Type 0
Traces sh w f image = Mended sh (TraceNear sh w f image) (trace_named sh f image) image

-- ## Document 02, note 5: repair with flags by stretch

-- 1 to 4, then 9, before the flags are counted.
abbrev pub table_checks : ℕ → Shape → ℕ → Table → List ℕ → ℕ → List {1} Check
table_checks values sh n table image room =
    image_checks values n (image_size sh) image (image_size sh) room ++ (table_check (image_size sh) table ∷ [])

-- Then 6, by which cells are flagged. Past it the call is `Repairs`, of those cells.
abbrev pub span_checks : ℕ → Shape → ℕ → Table → CellFlags → List ℕ → List ℕ → List {1} Check
span_checks values sh n table flag image before = table_checks values sh n table image (length before) ++ (window_check sh flag ∷ [])

-- ## Track view

-- The track number is 18 or above. (The view has no number; this stands in its list of checks.)
abbrev pub track_check : Shape → ℕ → Check
track_check sh g = record { number = 0; detail = 0; applies = all_tracks sh ≤ g }

abbrev pub view_checks : Shape → ℕ → List ℕ → ℕ → List {1} Check
view_checks sh n image g = input_checks n (image_size sh) (length image) ++ (track_check sh g ∷ [])

-- The stretch of track number g, or an empty part where a check applies.
abbrev pub Shown : List {1} Check → Shape → List ℕ → ℕ → List ℕ → Type 0
Shown checks sh image g part = First checks (λ c. part ≡ []) (part ≡ take (track_length sh) (drop (g * track_length sh) image))

-- ## Document 02, note 1: packing and unpacking

-- Packing gives 1 to 4; a lost cell cannot be packed.
abbrev pub pack_checks : ℕ → List ℕ → List ℕ → List {1} Check
pack_checks n image before = image_checks bit_values n (image_size (base n)) image (packed_size n) (length before)

-- 0: the output's first bytes are the image's packed form.
pub record Packs (n : ℕ) (image before : List ℕ) (r : Result) (after : List ℕ) : Type 0 where
  pub result : r ≡ plain 0 0
  pub form : PackedForm n (cells (base n) image) after
  pub stays : Stays (packed_size n) before after

-- Unpacking gives 1 to 3 and 8.
abbrev pub unpack_checks : ℕ → List ℕ → List ℕ → List {1} Check
unpack_checks n packed before =
    size_checks n (packed_size n) (length packed) (image_size (base n)) (length before) ++ (padding_check n packed ∷ [])

-- 0: the output's first bytes are the image of bits that has this packed form; there is one (`same_form` of proofs/Packing).
pub record Unpacks (n : ℕ) (packed before : List ℕ) (r : Result) (after : List ℕ) : Type 0 where
  pub result : r ≡ plain 0 0
  pub bits : (i : ℕ) → i < image_size (base n) → get_or after i 0 < 2
  pub form : PackedForm n (cells (base n) after) packed
  pub stays : Stays (image_size (base n)) before after

-- ## Document 02, note 6: cartridge files

-- "the writer goes entry by entry: 2 (under six bytes left), 1, 2 (too few bytes for the count), 8", where xs are the bytes left;
abbrev pub entry_checks : List ℕ → List {1} Check
entry_checks xs =
    left_check 6 (length xs) ∷ count_check (entry_blocks xs) ∷ left_check (entry_size (entry_blocks xs)) (length xs)
    ∷ padding_check (entry_blocks xs) (entry_record xs) ∷ []

-- "bytes left over give 2";
abbrev pub all_entries_checks : ℕ → List ℕ → List {1} Check
all_entries_checks zero xs = length_check 0 (length xs) ∷ []
all_entries_checks (suc k) xs = entry_checks xs ++ all_entries_checks k (drop (entry_size (entry_blocks xs)) xs)

-- "11, … the writer's last check."
abbrev pub write_checks : ℕ → List ℕ → ℕ → List {1} Check
write_checks count xs room = all_entries_checks count xs ++ (fit_check count (directory_size count + length xs) room ∷ [])

-- "returns the file's length, 0 with a refusal"
pub record WriteRefused (before : List ℕ) (r : Written) (after : List ℕ) (c : Check) : Type 0 where
  pub result : r ≡ record { answer = c.number; length = 0 }
  pub output : after ≡ before

-- 0: the file fills the output's first bytes, and later bytes stay.
pub record Writes (file before : List ℕ) (r : Written) (after : List ℕ) : Type 0 where
  pub result : r ≡ record { answer = 0; length = length file }
  pub output : after ≡ file ++ drop (length file) before

-- "An index past the last entry gives 0 and an empty stretch." (It has no number of its own; this stands in the reader's list of checks.)
abbrev pub index_check : List ℕ → ℕ → Check
index_check file i = record { number = 0; detail = 0; applies = entry_count file ≤ i }

-- The reader gives 10 first.
abbrev pub index_checks : List ℕ → ℕ → List {1} Check
index_checks file i = file_check file ∷ index_check file i ∷ []

-- Entry i as a stretch of the file, or an empty stretch where a check applies.
abbrev pub no_stretch : ℕ → Stretch
no_stretch number = record { answer = number; offset = 0; length = 0 }

abbrev pub entry_stretch : List ℕ → ℕ → Stretch
entry_stretch file i = record { answer = 0; offset = entry_offset file i; length = entry_length file i }

abbrev pub counted : ℕ → ℕ → Counted
counted number count = record { answer = number; entries = count }
