-- `search`: no choice before this one fits.
use mathlib.Core.Path.{◌≡◌}
use Rattle.std.specs.Prelude.{None}
use Rattle.trace.proofs.Searching.{Seeking}
use Rattle.trace.proofs.search.Given as goal

abbrev pub invariant-search : goal.invariant-search
invariant-search l = (l.hit ≡ None) × Seeking l.tracer l.rows l.i 0 l.found

abbrev pub invariant-loop-j : goal.invariant-loop-j
invariant-loop-j l = (l.hit ≡ None) × Seeking l.tracer l.rows l.i l.j l.found
