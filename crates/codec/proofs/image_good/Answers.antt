-- A lost cell is no bit.
use mathlib.Core.Path.{sym}
use mathlib.Core.Bool.{true≢false}
use Rattle.code.proofs.RoundTrip.{good_bits}
use Rattle.codec.proofs.image_good.Goals as goal

pub returns-then-lost : goal.returns-then-lost
returns-then-lost c =
    let p = c.requires in
    record {
      yes_good = λ e. absurd (true≢false (sym e));
      not_good = λ e good. p.lost_told.some c.if-lost.true (λ i l. good_bits _ c.args.image.now p.image_len good i);
    }
