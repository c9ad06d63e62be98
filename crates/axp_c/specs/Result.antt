-- What axp_result says, in the words of document 01.
use Rattle.std.specs.Prelude.{ℕ, eqb}
use Rattle.code.specs.Reach.{pick, Extra, none, extra}
use Rattle.code.specs.Calls.{Result}
use Rattle.axp_c.specs.declared.AxpResult.{AxpResult}

-- AXP_NO_EXTRA names none; any other number is a track number.
abbrev pub c_extra : ℕ → Extra
c_extra v = pick (eqb v 4294967295) none (extra v)

abbrev pub c_result : AxpResult → Result
c_result r =
    record {
      answer = r.answer;
      detail = r.detail;
      mask = r.mask;
      changed = r.cells;
      extra_a = c_extra r.extra_a;
      extra_b = c_extra r.extra_b;
    }
