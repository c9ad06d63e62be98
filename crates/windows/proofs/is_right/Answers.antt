use Rattle.std.proofs.Common.{rules}
use Rattle.code.specs.Spans.{empty, beyond}
use Rattle.windows.proofs.Tables.{early_broken, says_broken}
use Rattle.windows.proofs.is_right.Goals as goal

pub returns-then-size-eq0 : goal.returns-then-size-eq0
returns-then-size-eq0 c = says_broken _ _ (empty c.loop-span.span-index (search rules) c.if-size-eq0.true)

pub returns-then-from-end : goal.returns-then-from-end
returns-then-from-end c = says_broken _ _ (early_broken _ _ c.loop-span.span-index _ c.loop-span.invariant (search rules) (search rules))

pub returns-then-cells-end : goal.returns-then-cells-end
returns-then-cells-end c = says_broken _ _ (beyond c.loop-span.span-index (search rules) c.if-cells-end.true)
