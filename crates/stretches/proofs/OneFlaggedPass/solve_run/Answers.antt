-- The one track of each set.
use Rattle.stretches.proofs.Advancing.{first_none, first_run}
use Rattle.stretches.proofs.OneFlaggedPass.solve_run.Goals as goal

pub returns-then-word-eq0 : goal.returns-then-word-eq0
returns-then-word-eq0 c = first_none c.requires.kept c.args.run.inside c.if-word-eq0.true

pub returns : goal.returns
returns c = first_run c.args.run.inside c.one_track-a.ensures c.one_track-b.ensures c.by_verticals.ensures c.by_verticals-2.ensures
