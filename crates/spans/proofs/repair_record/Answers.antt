-- `repair_record`: the words flag the cells of the table and the lost ones, and where a window has no code the number is 6.
use Rattle.std.proofs.Common.{refl, inl, inr}
use Rattle.code.specs.Sizes.{shape}
use Rattle.code.specs.Spans.{table_of}
use Rattle.spans.proofs.Flagging.{too_many, none_too_many, repairs_table}
use Rattle.spans.proofs.repair_record.Goals as goal

pub returns-then-not-find_windows : goal.returns-then-not-find_windows
returns-then-not-find_windows g c =
    inl (too_many _ _ _ _ c.flag_cells.ensures (c.find_windows.ensures.no_code c.if-not-find_windows.true), record { result = refl; output = refl })

pub returns : goal.returns
returns g c =
    let a = c.args in
    let table = table_of a.spans.now in
    inr (
      none_too_many (shape a.z) table a.image.now _ c.flag_cells.ensures _ (c.find_windows.ensures.coded c.if-not-find_windows.false),
      repairs_table (shape a.z) table a.image.now _ c.flag_cells.ensures _ _ _ c.repair_cells.ensures,
    )
