use native.Mathlib.Omega.{arith}
use Rattle.mend.proofs.WordRows.{clear_more, start_of}
use Rattle.mend.proofs.find_start.Goals as goal

pub returns-then-rows-i-ne0 : goal.returns-then-rows-i-ne0
returns-then-rows-i-ne0 c = start_of _ _ _ _ c.loop-i.invariant (omega arith) (omega arith) (λ p m b h. omega arith)

pub loop-i-preserved : goal.loop-i-preserved
loop-i-preserved c = clear_more _ _ c.loop-i.invariant c.if-rows-i-ne0.false

pub returns : goal.returns
returns c = start_of _ _ _ _ c.loop-i.invariant (omega arith) (omega arith) (λ p m b h. omega arith)
