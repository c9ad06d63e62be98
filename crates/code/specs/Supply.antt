-- The three points of the supply, a record a point and a field a sentence, what document 01 says besides of the values that repair
-- and tracing return, and what document 02 says of packing, of lost cells, of records of no blocks, of flags by stretch, of cartridge
-- files and of ceilings. Whatever the contracts allow has them: `point_1`, `point_2`, `point_3`, `point_3_by_cells` and `values` of
-- proofs/Supply, `packing_undone` and `unpacking_undone` of proofs/Undoing, `as_before` of proofs/Lost, `no_blocks` of proofs/NoBlocks,
-- `span_values` and `as_repair` of proofs/Stretches, `repair_is_a_case` of proofs/WholeTracks, `writer_point_1`, `written_yields` and
-- `reader_point_1` of proofs/FileCalls, `ceilings` of proofs/Ceilings.
use Rattle.std.specs.Prelude.{◌≡◌, ◌⊎◌, ◌≢◌, ◌↔◌, true, false, List, [], ◌∷◌, ℕ, ◌+◌, ◌*◌, ◌^◌, ◌<◌, ◌≤◌, length, get_or, take, drop}
use Rattle.code.specs.Record.{TrackSet, A, B, Shape, base, tracks, track_length, Cells, Good, Same, blank}
use Rattle.code.specs.Image.{track_number, all_tracks, image_size, cells}
use Rattle.code.specs.Payload.{payload_size, Carries}
use Rattle.code.specs.Flags.{TrackFlags, whole, word_flags, flag_count, Within}
use Rattle.code.specs.Packed.{packed_size}
use Rattle.code.specs.Reach.{table_reach, ceiling_reach, Extra, none, extra, AtMostOne, Ambiguous, Tracing, cautious, within, traced_reach}
use Rattle.code.specs.Numbers.{Passed}
use Rattle.code.specs.Calls.{Result, plain, Answered, Stays, changed_in, changed_cells, early_checks, repair_checks, RepairNear, TraceNear, Traces, no_stretch, counted}
use Rattle.code.specs.Lost.{bit_values, read_values, is_lost}
use Rattle.code.specs.Spans.{Table, span_flags, Broken, WindowsCoded, OnTracks, word_table}
use Rattle.code.specs.Files.{entry_blocks, entry_record, Entry, entry_count, directory_size, Cartridge, cut, joined}
use Rattle.code.specs.Promises.{
  Encoded,
  ReadBy,
  WasRead,
  RepairedBy,
  TracedBy,
  call_flags,
  Repaired,
  Traced,
  TracedWithin,
  SpansRepaired,
  Viewed,
  WasPacked,
  WasUnpacked,
  FileWritten,
  EntryFound,
  EntryShown,
  FileCounted,
}
use Rattle.code.specs.declared.Written.{Written}
use Rattle.code.specs.declared.Stretch.{Stretch}
use Rattle.code.specs.declared.Counted.{Counted}

-- The call met none of these numbers.
abbrev pub MetNone : List ℕ → Result → Type 0
MetNone [] r = Unit {0}
MetNone (k ∷ ks) r = (r.answer ≢ k) × MetNone ks r

-- The calls that change an image: repair, and tracing in one of its two ways.
pub data Mending : Type 0 where
  repair : Mending
  trace : Tracing → Mending

-- ## Point 1

-- A call, the track view aside, with its input: any block count, length, cell value and flag word. `before` is the output as it came.
-- The calls on cartridge files, which return other values, have their point 1 at the end of this file.
pub data Input : Type 0 where
  encode : (n : ℕ) (payload before : List ℕ) → Input
  read : (n : ℕ) (image before : List ℕ) → Input
  mend : Mending → (n flags : ℕ) (image before : List ℕ) → Input
  mend_spans : (n : ℕ) (table : Table) (image before : List ℕ) → Input
  pack : (n : ℕ) (image before : List ℕ) → Input
  unpack : (n : ℕ) (packed before : List ℕ) → Input

-- Its contract.
abbrev pub Right : Input → Result → List ℕ → Type 0
Right (encode n payload before) = Encoded n payload before
Right (read n image before) = WasRead n image before
Right (mend repair n flags image before) = Repaired n flags image before
Right (mend (trace cautious) n flags image before) = Traced n flags image before
Right (mend (trace (within ceiling)) n flags image before) = TracedWithin n flags ceiling image before
Right (mend_spans n table image before) = SpansRepaired n table image before
Right (pack n image before) = WasPacked n image before
Right (unpack n packed before) = WasUnpacked n packed before

abbrev pub output_before : Input → List ℕ
output_before (encode n payload before) = before
output_before (read n image before) = before
output_before (mend way n flags image before) = before
output_before (mend_spans n table image before) = before
output_before (pack n image before) = before
output_before (unpack n packed before) = before

-- "The encoder gives only 1 to 3, the reader 1 to 4 and 7." Of packing and unpacking: "numbers 1 to 4 apply by their own lengths",
-- and "8, on unpacking". Of flags by stretch: "9, … checked in place of 5". Of a ceiling: "12, a ceiling above 2".
abbrev pub OwnAnswer : Input → ℕ → Type 0
OwnAnswer (encode n payload before) k = k ≤ 3
OwnAnswer (read n image before) k = (k ≤ 4) ⊎ (k ≡ 7)
OwnAnswer (mend repair n flags image before) k = k ≤ 7
OwnAnswer (mend (trace cautious) n flags image before) k = k ≤ 7
OwnAnswer (mend (trace (within ceiling)) n flags image before) k = (k ≤ 7) ⊎ (k ≡ 12)
OwnAnswer (mend_spans n table image before) k = ((k ≤ 7) × (k ≢ 5)) ⊎ (k ≡ 9)
OwnAnswer (pack n image before) k = k ≤ 4
OwnAnswer (unpack n packed before) k = (k ≤ 3) ⊎ (k ≡ 8)

-- The size of its result.
abbrev pub result_size : Input → ℕ
result_size (encode n payload before) = image_size (base n)
result_size (read n image before) = payload_size (base n) n
result_size (mend way n flags image before) = image_size (base n)
result_size (mend_spans n table image before) = image_size (base n)
result_size (pack n image before) = packed_size n
result_size (unpack n packed before) = image_size (base n)

-- "Number 7 leaves the reader's output as it came; after repair or tracing the output's first 18 × L bytes are a copy of the image"
abbrev pub LeftBy7 : Input → List ℕ → Type 0
LeftBy7 (encode n payload before) after = after ≡ before
LeftBy7 (read n image before) after = after ≡ before
LeftBy7 (mend way n flags image before) after = (i : ℕ) → i < image_size (base n) → get_or after i 0 ≡ get_or image i 0
LeftBy7 (mend_spans n table image before) after = (i : ℕ) → i < image_size (base n) → get_or after i 0 ≡ get_or image i 0
LeftBy7 (pack n image before) after = after ≡ before
LeftBy7 (unpack n packed before) after = after ≡ before

pub record Point1 (input : Input) (r : Result) (after : List ℕ) : Type 0 where
  -- "The answer to any call but the track view is 0 or one of the seven numbers, for every block count, length, cell value and flag word."
  -- Document 02: "The later numbers join the seven in point 1 of the supply": twelve by now.
  pub answer : r.answer ≤ 12
  pub own_answer : OwnAnswer input r.answer
  -- "It always comes, it presumes no check made by the calling program," — that the calls of crates/codec, crates/repair, crates/trace,
  -- crates/packed, crates/spans and crates/axp_c end, and meet `Right` without a `requires`, is what the checker proves of each of them.
  -- "and beside each number the document fixes every byte of the output."
  pub fixed : (other : Result) (bytes : List ℕ) → Right input other bytes → (other ≡ r) × (bytes ≡ after)
  -- Document 01: "Numbers 1 to 6 leave the output as it came." Document 02, of 8: "This and every later number leaves the output as it
  -- came." Document 01: "Number 7 leaves …" "With answer 0 the result fills the first bytes and later bytes stay." "The detail is 0
  -- except for number 4."
  pub untouched : r.answer ≢ 0 → r.answer ≢ 7 → after ≡ output_before input
  pub left_by_7 : r.answer ≡ 7 → LeftBy7 input after
  pub later : Stays (result_size input) (output_before input) after
  pub no_detail : r.answer ≢ 4 → r.detail ≡ 0

-- ## Point 2

-- `encoded` and `was_read` are the contracts of an encoder and a reader of one shape: payload or image, output before, answer, output.
pub record Point2 (sh : Shape) (n : ℕ) (encoded was_read : List ℕ → List ℕ → Result → List ℕ → Type 0) : Type 0 where
  -- "The encoder's tracks satisfy the published cross-parity and vertical equations, closed by the tail of document 01,
  pub equations : (payload before : List ℕ) (r : Result) (after : List ℕ) → encoded payload before r after → r.answer ≡ 0 → Good sh (cells sh after)
  -- and carry the payload."
  pub carried : (payload before : List ℕ) (r : Result) (after : List ℕ) → encoded payload before r after → r.answer ≡ 0 → Carries sh n (cells sh after) payload
  -- "Every record satisfying them reads back to its payload," — where the lengths are right.
  pub is_read : (image before : List ℕ) (r : Result) (after : List ℕ) → was_read image before r after → MetNone (1 ∷ 2 ∷ 3 ∷ []) r →
      Good sh (cells sh image) → r.answer ≡ 0
  pub reads_back : (image before : List ℕ) (r : Result) (after : List ℕ) → was_read image before r after → r.answer ≡ 0 →
      (payload : List ℕ) → Carries sh n (cells sh image) payload → (i : ℕ) → i < payload_size sh n → get_or after i 0 ≡ get_or payload i 0
  -- "and no other record is read."
  pub no_other : (image before : List ℕ) (r : Result) (after : List ℕ) → was_read image before r after → r.answer ≡ 0 → Good sh (cells sh image)

-- ## Point 3

-- Which records a call may hand out: those that differ from what was read only in flagged tracks and, with tracing, in the further
-- tracks that its reach allows. Document 02, note 7: "For both tracing calls, point 3 of the supply speaks of the good records then in
-- reach."
abbrev pub near_by : Mending → Shape → TrackFlags → List ℕ → Cells → Type 0
near_by repair sh f image = RepairNear sh (whole f) image
near_by (trace way) sh f image = TraceNear sh (traced_reach way sh f) f image

-- Some cell of track t differs.
pub record Differ (sh : Shape) (x y : Cells) (s : TrackSet) (t : ℕ) : Type 0 where
  pub position : ℕ
  pub inside : position < track_length sh
  pub unequal : x s t position ≢ y s t position

-- "Whatever was read, after a repair or a tracing that met none of numbers 1 to 5:" — document 02: "point 3 speaks of calls that met none
-- of 9, 12 and 13 either."
-- `near` are the records that the call may hand out, `limit` the limit on flagged tracks, `long` that the record has four blocks or
-- more, and `doubt` that two different good records of that length agree on all unflagged tracks.
pub record Point3 (sh : Shape) (near : Cells → Type 0) (limit long doubt : Type 0) (image : List ℕ) (r : Result) (after : List ℕ) : Type 0 where
  -- "where at most four tracks were flagged and at most three in either set, a repair's output holds the one good record of that
  -- length equal to what was read on every unflagged track,
  pub found : limit → (y : Cells) → Good sh y → near y → (r.answer ≡ 0) × Same sh y (cells sh after)
  pub held : r.answer ≡ 0 → Good sh (cells sh after) × near (cells sh after)
  -- and no other good record is equal there." — "With tracing the same holds of the good records in reach: there is at most one."
  pub no_other : limit → AtMostOne sh near
  -- "If there is none, and only then, the call said 7."
  pub said_7 : limit → (r.answer ≡ 7) ↔ ((y : Cells) → Good sh y → near y → ⊥)
  -- "With answer 0 or 7 the output differs from what was read only in cells of flagged tracks and, with tracing, of the further
  -- tracks that the table allows;
  pub only_there : (r.answer ≡ 0) ⊎ (r.answer ≡ 7) → near (cells sh after)
  -- with answer 0 the mask and number returned are those of the cells in which it differs."
  pub mask : r.answer ≡ 0 → (s : TrackSet) (t : ℕ) → t < tracks sh s → (word_flags sh r.mask s t ≡ true) ↔ Differ sh (cells sh image) (cells sh after) s t
  pub number : r.answer ≡ 0 → r.changed ≡ changed_cells sh (cells sh image) (cells sh after)
  -- "In records of four blocks or more, a call that met none of 1 to 5 said 6 exactly when two different good records of that length
  -- agree on all unflagged tracks."
  pub said_6 : long → (r.answer ≡ 6) ↔ doubt

-- Of repair and tracing: n blocks, the tracks that the flag word flags and those with a lost cell (document 02, note 2: "the same
-- single good record, over the widened flags"), the extras that the call allows beside them.
abbrev pub MendPoint3 : Mending → ℕ → ℕ → List ℕ → Result → List ℕ → Type 0
MendPoint3 way n flags image =
    let sh = base n in
    let f = call_flags n flags image in
    Point3 sh (near_by way sh f image) (Within sh f) (4 ≤ n) (Ambiguous sh f) image

-- ## Document 01, of the values that repair and tracing return

abbrev pub extra_in : Result → TrackSet → Extra
extra_in r A = r.extra_a
extra_in r B = r.extra_b

-- The tracks allowed: the flagged ones and, with tracing, the extras of its reach.
abbrev pub tracks_allowed : Mending → Shape → TrackFlags → ℕ
tracks_allowed repair sh f = flag_count sh f A + flag_count sh f B
tracks_allowed (trace way) sh f = flag_count sh f A + flag_count sh f B + (traced_reach way sh f).all

-- Track number g is the only changed track of a set outside the flags.
pub record OnlyChanged (sh : Shape) (f : TrackFlags) (x y : Cells) (s : TrackSet) (g : ℕ) : Type 0 where
  pub track : ℕ
  pub inside : track < tracks sh s
  pub number : track_number sh s track ≡ g
  pub unflagged : f s track ≡ false
  pub changed : changed_in sh x y s track ≢ 0
  pub others : (t : ℕ) → t < tracks sh s → f s t ≡ false → t ≢ track → changed_in sh x y s t ≡ 0

pub record Values (sh : Shape) (f : TrackFlags) (allowed : ℕ) (image : List ℕ) (r : Result) (after : List ℕ) : Type 0 where
  -- "with any other answer both are 0 and no extra is named"
  pub otherwise : r.answer ≢ 0 → r ≡ plain r.answer r.detail
  -- "Changed cells never exceed L times the tracks allowed."
  pub at_most : r.changed ≤ track_length sh * allowed
  -- "Tracing names for each set either no extra or one extra with its track: the changed track outside the flags"
  pub named : (s : TrackSet) (g : ℕ) → extra_in r s ≡ extra g → OnlyChanged sh f (cells sh image) (cells sh after) s g
  pub unnamed : r.answer ≡ 0 → (s : TrackSet) → extra_in r s ≡ none →
      (t : ℕ) → t < tracks sh s → f s t ≡ false → changed_in sh (cells sh image) (cells sh after) s t ≡ 0
  -- The mask has no bit from 18 up.
  pub mask_small : r.mask < 2 ^ all_tracks sh

-- Of repair and tracing, over the widened flags.
abbrev pub MendValues : Mending → ℕ → ℕ → List ℕ → Result → List ℕ → Type 0
MendValues way n flags image =
    let sh = base n in
    let f = call_flags n flags image in
    Values sh f (tracks_allowed way sh f) image

-- ## Document 02, note 1: "Each undoes the other on what it accepts"

-- A call is undone by another: what it gives, the other accepts where its output has room, and gives back what the call was given.
-- `size` and `room` are the sizes of what the two give.
pub record Undone (call back : List ℕ → List ℕ → Result → List ℕ → Type 0) (size room : ℕ) : Type 0 where
  pub accepted : (input before : List ℕ) (r : Result) (after : List ℕ) → call input before r after → r.answer ≡ 0 →
      (output : List ℕ) (q : Result) (last : List ℕ) → back (take size after) output q last → room ≤ length output → q.answer ≡ 0
  pub undone : (input before : List ℕ) (r : Result) (after : List ℕ) → call input before r after → r.answer ≡ 0 →
      (output : List ℕ) (q : Result) (last : List ℕ) → back (take size after) output q last → q.answer ≡ 0 → take room last ≡ input

-- Both ways.
abbrev pub PackingUndone : ℕ → Type 0
PackingUndone n = Undone (WasPacked n) (WasUnpacked n) (packed_size n) (image_size (base n))

abbrev pub UnpackingUndone : ℕ → Type 0
UnpackingUndone n = Undone (WasUnpacked n) (WasPacked n) (image_size (base n)) (packed_size n)

-- ## Document 02, note 2: on images without a lost cell nothing moved

-- An image without a lost cell.
abbrev pub NoneLost : List ℕ → Type 0
NoneLost image = (i : ℕ) → is_lost (get_or image i 0) ≡ false

-- Of such an image each relation that the note moved is the former one: cells are 0 or 1, and the flags are those of the flag word
-- alone. The relations of encoder, track view, packing and unpacking did not move.
pub record AsBefore (n : ℕ) (image before : List ℕ) : Type 0 where
  pub read : (r : Result) (after : List ℕ) → WasRead n image before r after ↔ ReadBy bit_values n image before r after
  pub repair : (word : ℕ) (r : Result) (after : List ℕ) →
      Repaired n word image before r after ↔ RepairedBy bit_values n word (word_flags (base n) word) image before r after
  pub trace : (way : Tracing) (word : ℕ) (r : Result) (after : List ℕ) →
      TracedBy way read_values n word (call_flags n word image) image before r after ↔ TracedBy way bit_values n word (word_flags (base n) word) image before r after

-- ## Document 02, note 3: records of no blocks

-- The block count of a call.
abbrev pub block_count : Input → ℕ
block_count (encode n payload before) = n
block_count (read n image before) = n
block_count (mend way n flags image before) = n
block_count (mend_spans n table image before) = n
block_count (pack n image before) = n
block_count (unpack n packed before) = n

-- The first bytes are 0.
abbrev pub Zeros : ℕ → List ℕ → Type 0
Zeros size bytes = (i : ℕ) → i < size → get_or bytes i 0 ≡ 0

pub record NoBlocks : Type 0 where
  -- "Count 0 becomes a record of its own: N = 0, fifteen tail positions, 270 cells, an empty payload." — packed, 36 bytes.
  pub positions : (base 0).positions ≡ 0
  pub track_cells : track_length (base 0) ≡ 15
  pub image_bytes : image_size (base 0) ≡ 270
  pub payload_bytes : payload_size (base 0) 0 ≡ 0
  pub packed_bytes : packed_size 0 ≡ 36
  -- "Its only good record is all zero."
  pub good : (x : Cells) → Good (base 0) x ↔ Same (base 0) x blank
  -- "Number 1 is now given above 256 only" — by each of the calls.
  pub number_1 : (input : Input) (r : Result) (after : List ℕ) → Right input r after → (r.answer ≡ 1) ↔ (256 < block_count input)
  -- So the encoder writes zeros, and the reader reads zeros, these alone, and writes nothing;
  pub encoded : (payload before : List ℕ) (r : Result) (after : List ℕ) → Encoded 0 payload before r after → r.answer ≡ 0 → Zeros 270 after
  pub was_read : (image before : List ℕ) (r : Result) (after : List ℕ) → WasRead 0 image before r after →
      (MetNone (1 ∷ 2 ∷ 3 ∷ []) r → (r.answer ≡ 0) ↔ Zeros 270 image) × (after ≡ before)
  -- repair and tracing write zeros, exactly where the all-zero record is one that they may hand out.
  pub mended : (way : Mending) (flags : ℕ) (image before : List ℕ) (r : Result) (after : List ℕ) → Right (mend way 0 flags image before) r after →
      r.answer ≡ 0 → Zeros 270 after
  pub found : (way : Mending) (flags : ℕ) (image before : List ℕ) (r : Result) (after : List ℕ) → Right (mend way 0 flags image before) r after →
      MetNone (1 ∷ 2 ∷ 3 ∷ 4 ∷ 5 ∷ 12 ∷ []) r → let f = call_flags 0 flags image in
      Within (base 0) f → (r.answer ≡ 0) ↔ near_by way (base 0) f image blank
  -- The track view hands over the fifteen cells of a track.
  pub viewed : (image : List ℕ) (g : ℕ) (part : List ℕ) → Viewed 0 image g part → length image ≡ 270 → g < 18 → part ≡ take 15 (drop (g * 15) image)

-- ## Document 02, note 5: flags by stretch

-- "Of this call point 3 speaks by cells: the rule on positions stands in place of its limit on flagged tracks, and flagged and unflagged
-- cells in place of such tracks." After a call that met none of numbers 1 to 4 and 9. "Its four-block statement on too many flags is about
-- whole tracks only": f are the flagged tracks where the flagged cells are whole tracks.
abbrev pub SpanPoint3 : ℕ → Table → List ℕ → TrackFlags → Result → List ℕ → Type 0
SpanPoint3 n table image f =
    let sh = base n in
    let flag = span_flags sh table image in
    Point3 sh (RepairNear sh flag image) (WindowsCoded sh flag) ((4 ≤ n) × OnTracks sh flag f) (Ambiguous sh f) image

-- What is returned besides: with any other answer than 0 mask and number are 0, no extra is ever named, and the mask has no bit from 18 up.
pub record SpanValues (sh : Shape) (r : Result) : Type 0 where
  pub otherwise : r.answer ≢ 0 → r ≡ plain r.answer r.detail
  pub unnamed : (s : TrackSet) → extra_in r s ≡ none
  pub mask_small : r.mask < 2 ^ all_tracks sh

-- Pairs that are whole tracks: where the flagged cells are those of the tracks that repair counts as flagged, the call is repair.
abbrev pub AsRepair : ℕ → Table → ℕ → List ℕ → List ℕ → Type 0
AsRepair n table word image before =
    ¬ Broken (image_size (base n)) table → word < 2 ^ all_tracks (base n) → OnTracks (base n) (span_flags (base n) table image) (call_flags n word image) →
    (r : Result) (after : List ℕ) → SpansRepaired n table image before r after ↔ Repaired n word image before r after

-- So repair is a case of the call: of a flag word whose tracks have the image's lost cells, it is the call with the table of the tracks.
abbrev pub RepairIsACase : ℕ → ℕ → List ℕ → List ℕ → Type 0
RepairIsACase n word image before =
    word < 2 ^ all_tracks (base n) → ((s : TrackSet) (t : ℕ) → t < tracks (base n) s → call_flags n word image s t ≡ word_flags (base n) word s t) →
    (r : Result) (after : List ℕ) → SpansRepaired n (word_table (base n) word) image before r after ↔ Repaired n word image before r after

-- ## Document 02, note 6: a cartridge file

-- Unpacking, into an output with room, gives one of these answers for the record of an entry.
abbrev pub UnpacksTo : (ℕ → Type 0) → List ℕ → Type 0
UnpacksTo answers entry =
    let n = entry_blocks entry in
    (before : List ℕ) (q : Result) (last : List ℕ) → WasUnpacked n (entry_record entry) before q last → image_size (base n) ≤ length before → answers q.answer

-- Point 1, of the writer. That it always comes and presumes no check is, as of the other calls, what the checker proves of the function.
pub record WriterPoint1 (count : ℕ) (entries before : List ℕ) (r : Written) (after : List ℕ) : Type 0 where
  -- "The later numbers join the seven in point 1 of the supply": eleven by now. It is 0, 1, 2, 8 or 11.
  pub answer : r.answer ≤ 11
  pub own_answer : (r.answer ≤ 2) ⊎ ((r.answer ≡ 8) ⊎ (r.answer ≡ 11))
  pub fixed : (other : Written) (bytes : List ℕ) → FileWritten count entries before other bytes → (other ≡ r) × (bytes ≡ after)
  -- "returns the file's length, 0 with a refusal"; "This and every later number leaves the output as it came."
  pub untouched : r.answer ≢ 0 → (r.length ≡ 0) × (after ≡ before)
  pub later : Stays r.length before after

-- "a written file yields the entries in that order": of a file that was written with answer 0.
pub record Yields (count : ℕ) (entries file : List ℕ) : Type 0 where
  -- The writer's bytes are that many entries, one after another, and their records unpack.
  pub each : (i : ℕ) → i < count → Entry (get_or (cut count entries) i [])
  pub together : joined (cut count entries) ≡ entries
  pub unpacked : (i : ℕ) → i < count → UnpacksTo (λ k. k ≡ 0) (get_or (cut count entries) i [])
  -- The file follows the rules; the reader counts that many, hands out each of them in that order, and nothing past the last.
  pub accepted : Cartridge file
  pub counts : (r : Counted) → FileCounted file r → r ≡ counted 0 count
  pub yields : (i : ℕ) (part : List ℕ) → i < count → EntryShown file i part → part ≡ get_or (cut count entries) i []
  pub ends : (i : ℕ) (part : List ℕ) → count ≤ i → EntryShown file i part → part ≡ []

abbrev pub WrittenYields : ℕ → List ℕ → List ℕ → Type 0
WrittenYields count entries before =
    (r : Written) (after : List ℕ) → FileWritten count entries before r after → r.answer ≡ 0 → Yields count entries (take r.length after)

-- What the reader hands out as entry i lies behind the directory and within the file, and is a key, a count and a packed record of that
-- count. Only a padding bit can keep the record from being unpacked.
pub record HandedOut (file : List ℕ) (r : Stretch) : Type 0 where
  pub behind : directory_size (entry_count file) ≤ r.offset
  pub within : r.offset + r.length ≤ length file
  pub entry : Entry (take r.length (drop r.offset file))
  pub unpacked : UnpacksTo (λ k. (k ≡ 0) ⊎ (k ≡ 8)) (take r.length (drop r.offset file))

-- Point 1, of the reader. That it never looks past the file is what the checker proves of each index in crates/files.
pub record ReaderPoint1 (file : List ℕ) (i : ℕ) (r : Stretch) : Type 0 where
  pub answer : (r.answer ≡ 0) ⊎ (r.answer ≡ 10)
  pub fixed : (other : Stretch) → EntryFound file i other → other ≡ r
  -- "10, the file, directory or an entry's length or count breaks these rules, checked first by the reader, with an empty stretch"
  pub said_10 : (r.answer ≡ 10) ↔ (¬ Cartridge file)
  pub empty : r.answer ≢ 0 → r ≡ no_stretch 10
  -- "The reader hands out entry i"; "An index past the last entry gives 0 and an empty stretch."
  pub handed_out : r.answer ≡ 0 → i < entry_count file → HandedOut file r
  pub past_last : r.answer ≡ 0 → entry_count file ≤ i → r ≡ no_stretch 0
  -- The part is that stretch of the caller's own file.
  pub shown : (part : List ℕ) → EntryShown file i part → part ≡ take r.length (drop r.offset file)
  -- The number of entries is told of the same files.
  pub numbered : (c : Counted) → FileCounted file c → (r.answer ≡ 0 → c ≡ counted 0 (entry_count file)) × (r.answer ≢ 0 → c ≡ counted 10 0)

-- ## Document 02, note 7: tracing with a ceiling

-- Tracing as document 01 has it: the extras of the table, without a ceiling.
abbrev pub TracedByTable : ℕ → ℕ → List ℕ → List ℕ → Result → List ℕ → Type 0
TracedByTable n word image before =
    let f = call_flags n word image in
    Answered (repair_checks read_values (base n) n word f image before) (Traces (base n) (table_reach (base n) f) f image before) before

pub record Ceilings (n word : ℕ) (image before : List ℕ) : Type 0 where
  -- "In that call a good record is in reach when document 01's table and the ceiling both allow it."
  pub both_allow : (ceiling : ℕ) (y : Cells) → let f = call_flags n word image in
      near_by (trace (within ceiling)) (base n) f image y ↔
      (TraceNear (base n) (table_reach (base n) f) f image y × TraceNear (base n) (ceiling_reach ceiling) f image y)
  -- "0 no extras": the call is repair, in every returned number and every byte.
  pub at_0 : (r : Result) (after : List ℕ) → TracedWithin n word 0 image before r after ↔ Repaired n word image before r after
  -- "1 one in all": it is the call without a ceiling, which "uses code 4 in place of 5".
  pub at_1 : (r : Result) (after : List ℕ) → TracedWithin n word 1 image before r after ↔ Traced n word image before r after
  -- "2 the table of document 01": "they pass 2 and their listings hold".
  pub at_2 : (r : Result) (after : List ℕ) → TracedWithin n word 2 image before r after ↔ TracedByTable n word image before r after
  -- What a lower ceiling finds a higher one finds too, with the same answer and the same output; where a higher one finds none, a lower
  -- one finds none.
  pub higher : (low high : ℕ) → low ≤ high → high ≤ 2 → (r : Result) (after : List ℕ) → TracedWithin n word low image before r after → r.answer ≡ 0 →
      TracedWithin n word high image before r after
  pub lower : (low high : ℕ) → low ≤ high → high ≤ 2 → (r : Result) (after : List ℕ) → TracedWithin n word high image before r after → r.answer ≡ 7 →
      TracedWithin n word low image before r after
  -- "12, a ceiling above 2, checked after 5"
  pub said_12 : (ceiling : ℕ) (r : Result) (after : List ℕ) → TracedWithin n word ceiling image before r after →
      (r.answer ≡ 12) ↔ (Passed (early_checks read_values (base n) n word image (length before)) × (2 < ceiling))
