-- Near the start the sums are those of the padded tracks, else of the image, which has 64 positions there.
use native.Mathlib.Omega.{arith}
use Rattle.code.specs.Image.{cells}
use Rattle.code.specs.Sizes.{shape}
use Rattle.sums.proofs.Rows.{sums_put}
use Rattle.sums.proofs.Delay.{padded_near}
use Rattle.sums.proofs.put_sums.Goals as goal

pub returns-then-p-lag : goal.returns-then-p-lag
returns-then-p-lag c =
    let s = c.args.source in
    sums_put _ _ (shape s.z) (cells (shape s.z) s.image.now) _ _ _ _ _
    (λ r k h b w. padded_near s.z _ _ s.padding _ (omega (arith, c.lag-lag.ensures)) r k b w)
    (rw c.lag-lag.ensures at c.put_rows.ensures)
