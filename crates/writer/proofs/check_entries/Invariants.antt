-- `check_entries`: what is right for the entries left is right for all of them.
use Prim.Native.Nat.{◌-◌}
use Rattle.writer.proofs.Entries.{Onward}
use Rattle.writer.proofs.check_entries.Given as goal

abbrev pub invariant-loop : goal.invariant-loop
invariant-loop l = Onward l.count l.entries (l.count - l.counter) l.left
