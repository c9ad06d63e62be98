-- Each way has the track that the plan names.
use mathlib.Core.Path.{refl}
use Rattle.solver.specs.Solver.{is_low, is_high, is_last}
use Rattle.solver.proofs.Settling.{way_track}
use Rattle.solver.proofs.Plan.ways.Goals as goal

pub returns-clause-tracks : goal.returns-clause-tracks
returns-clause-tracks c h =
    rw (
      way_track c.find_way.ensures (λ t e. h t (is_low e)),
      way_track c.find_way-2.ensures (λ t e. h t (is_high e)),
      way_track c.find_way-3.ensures (λ t e. h t (is_last e)),
    ) refl
