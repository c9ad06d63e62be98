-- What checks answer by themselves.
use Rattle.std.specs.Prelude.{◌≡◌, List}
use Rattle.code.specs.Numbers.{Check, First}
use Rattle.code.specs.Calls.{Result, plain}

-- The number of the first check that applies, with its detail; 0 where none does.
abbrev pub FirstAnswer : List {1} Check → Result → Type 0
FirstAnswer checks r = First checks (λ c. r ≡ plain c.number c.detail) (r ≡ plain 0 0)
