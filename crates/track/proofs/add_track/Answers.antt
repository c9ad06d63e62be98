use mathlib.Core.Path.{◌≡◌}
use mathlib.Core.List.{List}
use Prim.Native.Nat.{ℕ, ◌≤◌, ◌<◌, ◌-◌, ◌+◌, ◌%◌}
use native.Mathlib.Decide.{dec_lt}
use native.Mathlib.Omega.{arith}
use borrow.Author.Rules.{rules}
use lib.ListN.{length, get_or}
use Rattle.code.specs.Record.{back}
use Rattle.code.proofs.Sums.{back_at, back_early}
use Rattle.track.specs.Track.{Bits, Added}
use Rattle.track.proofs.Cells.{every, Written}
use Rattle.track.proofs.add_track.Invariants.{summed}
use Rattle.track.proofs.add_track.Goals as goal

-- Where all are written, the track is added.
added : (before track : List ℕ) (off n : ℕ) (now : List ℕ) → Written before (summed before track off) off n now →
    length before ≤ n + off → Bits before → Added before track off now
added before track off n now w end bits =
    record {
      size = w.size;
      bits = every (λ v. v < 2) now (omega arith) (λ m h. omega (arith, cells m (omega (arith, w.size)) (dec_lt m off)));
      cells = λ m h. cells m h (dec_lt m off);
    }
  where
    cells : (m : ℕ) → m < length before → Dec (m < off) → get_or now m 0 ≡ (get_or before m 0 + back (λ p. get_or track p 0) m off) % 2
    cells m h (yes l) = rw (back_early (λ p. get_or track p 0) m off l) (omega (arith, w.early m l, bits.bit m))
    cells m h (no l) =
        let e : (m - off) + off ≡ m = omega arith in
        rw (back_at (λ p. get_or track p 0) (m - off) off m e) (rw e at (w.done (m - off) m (omega arith) e))

pub returns : goal.returns
returns c = added _ _ _ _ _ c.loop-k.invariant (search rules) c.requires.bits
