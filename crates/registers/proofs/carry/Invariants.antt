-- `carry`: the loop's invariant is that the positions of the first blocks have passed, and that there are registers of each.
use Prim.Native.Nat.{◌*◌}
use Rattle.registers.specs.Steps.{Passing, Held}
use Rattle.registers.proofs.carry.Given as goal

abbrev pub invariant-loop-block : goal.invariant-loop-block
invariant-loop-block l = record { passing : Passing l.blocks l.payload (8 * l.block) l.a l.b l.r; held : Held l.blocks l.payload (8 * l.block) l.a l.b }
