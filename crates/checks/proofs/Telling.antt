-- The highest byte tells whether a cell is lost.
use mathlib.Core.Path.{◌≡◌, sym, ◌∙◌}
use mathlib.Core.Logic.{by_cases}
use mathlib.Core.Bool.{Bool}
use mathlib.Core.List.{List}
use Prim.Native.Nat.{ℕ, ◌<◌, ◌≤◌}
use native.Mathlib.Decide.{dec_lt}
use native.Mathlib.Omega.{arith}
use borrow.Author.Tests.{eqb-true, eqb-false}
use lib.ListN.{length}
use Rattle.code.specs.Lost.{read_values, is_lost}
use Rattle.code.specs.Numbers.{first_bad}
use Rattle.code.proofs.Numbers.{first_bad_before}
use Rattle.track.specs.Track.{Highest}
use Rattle.track.proofs.Lost.{most_below}
use Rattle.checks.specs.Lost.{LostTold}

-- Where no cell is bad:
module _ (image : List ℕ) (most values : ℕ) (h : Highest image most) (good : first_bad values image ≡ length image) (some : 0 < values) (few : values ≤ read_values) where
  -- the highest byte is a value too,
  pub most_read : most < read_values
  most_read = omega (arith, few, most_below image most h values some (λ i l. first_bad_before values image i (omega arith)))

  -- and tells it.
  pub told : (r : Bool) → r ≡ is_lost most → LostTold image r
  told r e = record {
    bits = λ z i. by_cases (dec_lt most 2) (λ l. omega (arith, h.above i)) (λ l. absurd (eqb-false most 2 (sym e ∙ z) (omega (arith, most_read))));
    some = λ z all. omega (arith, eqb-true most 2 (sym e ∙ z), most_below image most h 2 (omega arith) all);
  }
