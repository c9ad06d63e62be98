-- `check_image`: past the checks, the highest byte tells what is lost.
use mathlib.Core.Path.{◌≡◌}
use borrow.Author.Rules.{rules}
use native.Mathlib.Omega.{arith}
use lib.ListN.{length}
use Rattle.code.specs.Numbers.{first_bad}
use Rattle.checks.proofs.Telling.{most_read, told}
use Rattle.checks.proofs.check_image.Goals as goal

pub is_lost-requires : goal.is_lost-requires
is_lost-requires c =
    let good : let a = c.args in first_bad a.values a.image.now ≡ length a.image.now = search rules in
    let p = c.requires in
    most_read _ _ _ c.highest-most.ensures good (omega (arith, p.bit_values_le_values)) p.values_le_read_values

pub returns-clause-told : goal.returns-clause-told
returns-clause-told c =
    let good : let a = c.args in first_bad a.values a.image.now ≡ length a.image.now = search rules in
    let p = c.requires in
    told _ _ _ c.highest-most.ensures good (omega (arith, p.bit_values_le_values)) p.values_le_read_values _ c.is_lost.ensures
