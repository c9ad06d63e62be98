use Rattle.std.proofs.lemmas.Result.{err_from_is_err_and}
use native.Mathlib.Omega.{arith}
use Rattle.writer.proofs.Entries.{entry_refuses, onward_more}
use Rattle.writer.proofs.check_entries.Goals as goal

pub returns-in_err-size : goal.returns-in_err-size
returns-in_err-size c =
    let p = err_from_is_err_and c.from_residual.result c.from_residual.ensures.1 in
    rw (p.1, p.2) (entry_refuses _ _ _ _ _ (omega arith) c.loop.invariant c.in_err-size.ensures.first)

pub loop-preserved : goal.loop-preserved
loop-preserved c =
    let here = c.in_ok-size.ensures in
    onward_more _ _ _ here.first _ _ c.loop-test.true c.loop.invariant here.size
