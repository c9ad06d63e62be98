-- `prepare`: the copy is that of the image, in which lost cells are 0, and its tails are cleared set after set.
use Rattle.code.specs.Sizes.{shape}
use Rattle.syndrome.proofs.Copies.{copy_made, copy_image}
use Rattle.repair.proofs.Preparing.{both_cleared}
use Rattle.repair.proofs.prepare.Goals as goal

pub clear_tails-a-requires-clause-image : goal.clear_tails-a-requires-clause-image
clear_tails-a-requires-clause-image g c =
    let s = c.requires in
    let i = s.read_image in
    copy_image (shape c.args.z) _ i.size i.readings _ (copy_made (shape c.args.z) _ i.size _ _ s.out_len c.copy_known.ensures)

pub returns : goal.returns
returns g c =
    let s = c.requires in
    let e = copy_made (shape c.args.z) _ s.read_image.size _ _ s.out_len c.copy_known.ensures in
    both_cleared _ _ _ _ _ _ _ _ _ e c.clear_tails-a.ensures c.clear_tails-b.ensures c.load_sums.ensures
