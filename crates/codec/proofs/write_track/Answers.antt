use mathlib.Core.Path.{refl}
use Prim.Native.Nat.{◌+◌, ◌*◌}
use native.Mathlib.Omega.{arith}
use Rattle.codec.proofs.Filled.{filled_more}
use Rattle.codec.proofs.write_track.Goals as goal

pub loop-b-preserved : goal.loop-b-preserved
loop-b-preserved c =
    let a = c.args in
    let small = c.type_inv.payload (c.loop-b.b * a.step + a.first) in
    filled_more _ _ _ _ _ _ _ _ c.loop-b.invariant c.unpack.ensures (omega (arith, small)) refl
