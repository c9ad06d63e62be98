use Rattle.errors.proofs.Words.{given}
use Rattle.errors.proofs.Finding.{begin_finding}
use Rattle.errors.proofs.work.Work.find_pivots.Goals as goal

pub loop-i-init : goal.loop-i-init
loop-i-init c =
    let s = c.requires in
    begin_finding _ _ _ _ _ (given c.args.self.now c.args.found.now s.errors) _ s.quiet s.fresh_2 s.below_value _ _ c.begin-i.ensures
