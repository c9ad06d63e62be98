-- `taken`: by whether the sets are one.
use Rattle.std.proofs.Common.{rules, tests}
use mathlib.Core.Path.{◌≡◌}
use Rattle.errors.proofs.Pivoting.{taken_on, taken_off}
use Rattle.errors.proofs.taken.Goals as goal

pub returns-then-eq : goal.returns-then-eq
returns-then-eq c = let e : c.args.s ≡ c.args.c = search (rules, tests) in taken_on _ _ _ _ e

pub returns-else-eq : goal.returns-else-eq
returns-else-eq c = let e : c.args.s ≡ c.args.c → ⊥ = search (rules, tests) in taken_off _ _ _ _ e
