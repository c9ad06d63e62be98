-- `find_pivots`: as `find_all`, from the word to begin with on.
use Rattle.errors.proofs.Finding.{Finding}
use Rattle.errors.proofs.work.Work.find_pivots.Given as goal

abbrev pub invariant-loop-i : goal.invariant-loop-i
invariant-loop-i l = let w = l.self in Finding w.z w.end w.form w.rows.now l.found l.start l.i
