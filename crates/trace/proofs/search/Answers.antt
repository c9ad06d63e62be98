use mathlib.Core.Path.{ap₂}
use native.Mathlib.Omega.{arith}
use Rattle.code.specs.declared.sizes.TrackSet.TheVariants.{A, B}
use Rattle.trace.proofs.Searching.{at_is, at_track, pair, seeking_more, seeking_row, seeking_all, searched}
use Rattle.trace.proofs.search.Goals as goal

pub loop-j-preserved : goal.loop-j-preserved
loop-j-preserved c =
    let i = c.loop-j.invariant in
    (i.0, seeking_more _ _ _ _ _ i.1 _ _ (ap₂ pair (at_is _ _ c.checked_sub-a.ensures) (at_is _ _ c.checked_sub-b.ensures)) (rw c.in_default.is at c.try_choice.ensures))

pub search-preserved : goal.search-preserved
search-preserved c =
    let i = c.loop-j.invariant in
    (i.0, seeking_row _ _ _ _ _ i.1 _ (rw (c.size_of.ensures, at_is _ _ c.checked_sub-a.ensures) at c.choices_in-in_b.ensures) (omega arith))

pub returns-after-search : goal.returns-after-search
returns-after-search c = let i = c.search.invariant in rw i.0 (seeking_all _ _ _ _ _ i.1 _ c.choices_in-in_a.ensures (omega arith))

pub returns-in-Some : goal.returns-in-Some
returns-in-Some c =
    let a = c.choices_in-in_a.ensures.within in
    let b = c.choices_in-in_b.ensures.within in
    searched _ _ _ _ _ (record {
      in_a = at_track c.args.tracer.z A _ _ c.checked_sub-a.ensures (omega (arith, c.search-test.true, a));
      in_b = at_track c.args.tracer.z B _ _ c.checked_sub-b.ensures (omega (arith, c.loop-j-test.true, b));
    }) c.in-Some.ensures
