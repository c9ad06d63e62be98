-- What the code's answers say, in the words of document 01.
use Rattle.std.specs.Prelude.{ℕ, Option, None, Some}
use Rattle.std.specs.declared.result.Result.{Result as Outcome}
use Rattle.std.specs.declared.result.Result.TheVariants.{Ok, Err}
use Rattle.code.specs.Reach
use Rattle.code.specs.Calls.{Result, plain}
use Rattle.code.specs.declared.Counted.{Counted}
use Rattle.code.specs.declared.Span.{Span}
use Rattle.code.specs.declared.Stretch.{Stretch}
use Rattle.code.specs.declared.Written.{Written}
use Rattle.code.specs.declared.answer.Answer.{Answer}
use Rattle.code.specs.declared.answer.Refusal.{Refusal}
use Rattle.code.specs.declared.answer.Refusal.TheVariants.{BlockCount, InputLength, OutputLength, BadCell, FlagWord, TooMany, NoRecord, Padding, Table, File, Room, Ceiling}

-- The number of each refusal, and its detail.
abbrev pub refused_of : Refusal → Result
refused_of BlockCount = plain 1 0
refused_of InputLength = plain 2 0
refused_of OutputLength = plain 3 0
refused_of (BadCell index) = plain 4 index
refused_of FlagWord = plain 5 0
refused_of TooMany = plain 6 0
refused_of NoRecord = plain 7 0
refused_of Padding = plain 8 0
refused_of Table = plain 9 0
refused_of File = plain 10 0
refused_of Room = plain 11 0
refused_of Ceiling = plain 12 0

-- No extra, or one with its track number.
abbrev pub extra_of : Option ℕ → Reach.Extra
extra_of None = Reach.none
extra_of (Some g) = Reach.extra g

-- 0 with what was changed, or a number.
abbrev pub result_of : Outcome Answer Refusal → Result
result_of (Ok r) =
    record {
      answer = 0;
      detail = 0;
      mask = r.mask;
      changed = r.cells;
      extra_a = extra_of r.a;
      extra_b = extra_of r.b;
    }
result_of (Err e) = refused_of e

-- The same of a call that changes no cell and names no extra.
abbrev pub done_of : {X : Type 0} → Outcome X Refusal → Result
done_of (Ok _) = plain 0 0
done_of (Err e) = refused_of e

-- The calls on cartridge files: the number of entries, an entry as a stretch of the file, the file's length; 0 with a number.
abbrev pub counted_of : Outcome ℕ Refusal → Counted
counted_of (Ok n) = record { answer = 0; entries = n }
counted_of (Err e) = record { answer = (refused_of e).answer; entries = 0 }

abbrev pub stretch_of : Outcome Span Refusal → Stretch
stretch_of (Ok s) = record { answer = 0; offset = s.offset; length = s.length }
stretch_of (Err e) = record { answer = (refused_of e).answer; offset = 0; length = 0 }

abbrev pub written_of : Outcome ℕ Refusal → Written
written_of (Ok n) = record { answer = 0; length = n }
written_of (Err e) = record { answer = (refused_of e).answer; length = 0 }
