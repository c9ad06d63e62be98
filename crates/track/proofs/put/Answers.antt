use mathlib.Core.Path.{◌≡◌, ap, ◌∙◌}
use Prim.Native.Nat.{ℕ, ◌/◌, ◌%◌, ◌^◌, ◌<◌}
use native.Mathlib.Omega.{arith}
use borrow.Author.Rules.{rules}
use lib.ListN.{get_or}
use Rattle.std.specs.Int.{w64, to_le_bytes}
use Rattle.track.proofs.Cells.{written_more}
use Rattle.track.proofs.put.Goals as goal

byte_of : (n k : ℕ) → k < 8 → get_or (to_le_bytes w64 n) k 0 ≡ n / 256 ^ k % 256
byte_of n k h = search rules

pub loop-k-preserved : goal.loop-k-preserved
loop-k-preserved c =
    let l = c.loop-k in
    written_more _ _ _ _ _ _ _ l.invariant (omega arith) (omega arith) (ap (λ xs. get_or xs l.k 0) c.to_le_bytes-bytes.ensures ∙ byte_of c.args.x l.k (omega arith))
