-- `repair_record`: the form is that of the marked tracks, and the working copy is made good by it, or there is no good record.
use mathlib.Core.Path.{refl, sym, ◌∙◌}
use native.Mathlib.Omega.{arith}
use Rattle.code.specs.declared.sizes.TrackSet.TheVariants.{A, B}
use Rattle.track.proofs.Cells.{copied_all}
use Rattle.repair.proofs.Blank.{blank_rows}
use Rattle.repair.proofs.Records.{made_only, repair_found, repair_none}
use Rattle.repair.proofs.repair_record.Goals as goal

pub prepare-need-requires : goal.prepare-need-requires
prepare-need-requires c =
    let g = c.requires in
    record { read_image = g.image_is; out_len = g.out_has; z_in_bounds = omega (arith, g.marks_size); rows = blank_rows 4 }

pub find_three-x-requires : goal.find_three-x-requires
find_three-x-requires c = let g = c.requires in record { z_in_bounds = omega (arith, g.marks_size); s_bound_2 = g.within.in_set A }

pub find_three-y-requires : goal.find_three-y-requires
find_three-y-requires c = let g = c.requires in record { z_in_bounds = omega (arith, g.marks_size); s_bound_2 = g.within.in_set B }

pub form_of-p-requires : goal.form_of-p-requires
form_of-p-requires c = record { sorted = c.find_three-x.ensures.sorted; sorted_2 = c.find_three-y.ensures.sorted }

pub make_good-requires : goal.make_good-requires
make_good-requires c =
    let w = c.prepare-need.ensures in
    record {
      image = w.copy;
      rows = w.sums_in.rows;
      sized = (c.form_of-p.ensures.fits _ c.requires.within c.find_three-x.ensures c.find_three-y.ensures).sized;
    }

pub slice_bounds-answer_of-end : goal.slice_bounds-answer_of-end
slice_bounds-answer_of-end c = sym c.requires.marks_size

pub answer_of-requires : goal.answer_of-requires
answer_of-requires c = made_only _ _ _ _ c.requires _ _ _ c.prepare-need.ensures _ (c.form_of-p.ensures.fits _ c.requires.within c.find_three-x.ensures c.find_three-y.ensures) _ _ c.make_good.ensures c.if-make_good.true

pub shape_of-out-then-make_good : goal.shape_of-out-then-make_good
shape_of-out-then-make_good c = c.make_good.ensures.size ∙ c.prepare-need.ensures.copy.size ∙ sym c.requires.out_has

pub returns-then-make_good : goal.returns-then-make_good
returns-then-make_good c = repair_found _ _ _ _ c.requires _ _ _ c.prepare-need.ensures _ (c.form_of-p.ensures.fits _ c.requires.within c.find_three-x.ensures c.find_three-y.ensures) _ _ c.make_good.ensures c.if-make_good.true _ c.answer_of.ensures

pub put_back-requires : goal.put_back-requires
put_back-requires c = omega (arith, c.make_good.ensures.size, c.prepare-need.ensures.copy.size, c.requires.image_is.size)

pub shape_of-out : goal.shape_of-out
shape_of-out c = c.put_back.ensures.size ∙ c.make_good.ensures.size ∙ c.prepare-need.ensures.copy.size ∙ sym c.requires.out_has

pub returns : goal.returns
returns c =
    let g = c.requires in
    let w = c.prepare-need.ensures in
    let m = c.make_good.ensures in
    repair_none _ _ _ _ g _ _ _ w _ (c.form_of-p.ensures.fits _ c.requires.within c.find_three-x.ensures c.find_three-y.ensures) _ _ m c.if-make_good.false _
    (copied_all _ _ _ c.put_back.ensures (g.image_is.size ∙ sym (m.size ∙ w.copy.size))) _ refl
