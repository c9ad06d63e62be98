use mathlib.Core.Path.{sym, ◌∙◌}
use native.Mathlib.Omega.{arith}
use borrow.Author.Rules.{rules}
use Rattle.track.proofs.Lost.{length_known, known_at}
use Rattle.track.proofs.copy_known.Goals as goal

pub returns : goal.returns
returns c =
    let w = c.loop-i.invariant in
    let size = length_known c.args.source.now in
    record {
      size = w.size;
      copy = λ i l. w.done i i (search rules) (omega arith) ∙ sym (known_at _ i);
      later = λ i l. w.later i (search rules);
    }
