use Rattle.std.proofs.Common.{◌≡◌, ◌*◌, length, take}
use Rattle.writer.proofs.copy_long.Given as goal

-- The first parts are the source's.
abbrev pub invariant-loop-k : goal.invariant-loop-k
invariant-loop-k l = (length l.out ≡ length l.source) × (take (4096 * l.k) l.out ≡ take (4096 * l.k) l.source)
