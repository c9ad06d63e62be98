-- `find_all`: before each word the errors of the words before it are computed and their tests are passed.
use Rattle.errors.proofs.Finding.{Finding}
use Rattle.errors.proofs.work.Work.find_all.Given as goal

abbrev pub invariant-loop-i : goal.invariant-loop-i
invariant-loop-i l = let w = l.self in Finding w.z w.end w.form w.rows.now l.found l.start l.i
