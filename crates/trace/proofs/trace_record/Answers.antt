-- `trace_record`: the errors of the choice that fits are added to the working copy.
use mathlib.Core.Path.{refl, sym, ◌∙◌}
use native.Mathlib.Omega.{arith}
use Rattle.code.specs.declared.sizes.TrackSet.TheVariants.{A, B}
use Rattle.track.proofs.Cells.{copied_all}
use Rattle.repair.proofs.Blank.{blank_rows, blank_fresh}
use Rattle.repair.proofs.Working.{pivot_right}
use Rattle.trace.proofs.Records.{searched_only, trace_found, trace_none}
use Rattle.trace.proofs.trace_record.Goals as goal

pub prepare-need-requires : goal.prepare-need-requires
prepare-need-requires c =
    let g = c.requires.given in
    record { read_image = g.image_is; out_len = g.out_has; z_in_bounds = omega (arith, g.marks_size); rows = blank_rows 4 }

pub find_three-x-requires : goal.find_three-x-requires
find_three-x-requires c = let g = c.requires.given in record { z_in_bounds = omega (arith, g.marks_size); s_bound_2 = g.within.in_set A }

pub find_three-y-requires : goal.find_three-y-requires
find_three-y-requires c = let g = c.requires.given in record { z_in_bounds = omega (arith, g.marks_size); s_bound_2 = g.within.in_set B }

pub search-requires-clause-fresh : goal.search-requires-clause-fresh
search-requires-clause-fresh c = blank_fresh _

pub returns-in_default : goal.returns-in_default
returns-in_default c =
    let g = c.requires.given in
    let w = c.prepare-need.ensures in
    trace_none _ _ _ g _ _ w _ (rw c.in_default.is at c.search.ensures) _ (copied_all _ _ _ c.put_back.ensures (g.image_is.size ∙ sym w.copy.size))

pub add_errors-requires-clause-m_value : goal.add_errors-requires-clause-m_value
add_errors-requires-clause-m_value c = let t = c.in-Some.ensures.fits _ refl in pivot_right _ _ _ _ t.found

pub answer_with-requires-clause-only_marked : goal.answer_with-requires-clause-only_marked
answer_with-requires-clause-only_marked c =
    searched_only _ _ _ c.requires.given _ _ c.prepare-need.ensures _ _ c.in-Some.ensures _ c.add_errors.ensures _ c.widen-wide.ensures

pub returns : goal.returns
returns c =
    trace_found _ _ _ c.requires.given _ _ c.prepare-need.ensures _ _ c.in-Some.ensures _ c.add_errors.ensures _ c.answer_with.ensures
