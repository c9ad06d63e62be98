-- `load_run`: the word of the first r rows is loaded.
use Rattle.mend.specs.Mend.{RunLoaded}
use Rattle.mend.proofs.load_run.Given as goal

abbrev pub invariant-loop-r : goal.invariant-loop-r
invariant-loop-r l = RunLoaded l.run l.i l.n l.k l.r l.initial.rows l.rows
