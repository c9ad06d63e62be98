use native.Mathlib.Numerals.{add-one}
use native.Mathlib.Omega.{arith}
use borrow.Author.Rules.{rules}
use borrow.Author.Tests.{eq-eqb, ne_eqb}
use Rattle.code.specs.Record.{sum}
use Rattle.track.specs.Track.{differing}
use Rattle.track.proofs.count_few.Goals as goal
use Rattle.track.proofs.count_few.Goals.{else-a-i, then-a-i}

pub loop-i-init : goal.loop-i-init
unfolding sum
loop-i-init c = search rules

pub loop-i-preserved : goal.loop-i-preserved
unfolding sum
loop-i-preserved c = elim c.if-a-i.branch [
  | then-a-i w ↦ (omega arith, rw (add-one, ne_eqb _ _ w.if-a-i.true) (omega arith))
  | else-a-i w ↦ (omega arith, rw (add-one, eq-eqb _ _ w.if-a-i.false) (omega arith))
]

pub returns : goal.returns
unfolding differing
returns c = search rules
