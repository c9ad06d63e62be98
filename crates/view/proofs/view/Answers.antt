-- `view`: the stretch is within the image, whose length the check has told.
use mathlib.Core.Path.{◌≡◌}
use Prim.Native.Nat.{◌+◌, ◌*◌, ◌<◌}
use borrow.Author.Rules.{rules}
use native.Mathlib.Omega.{arith}
use lib.Arith.{digits_lt}
use lib.ListN.{length}
use Rattle.view.proofs.view.Goals as goal

pub slice_bounds-result-end-2 : goal.slice_bounds-result-end-2
slice_bounds-result-end-2 c =
    let a = c.args in
    let whole : length a.image.now ≡ 18 * (8 * a.blocks + 15) = search rules in
    let last : 8 * a.blocks + 14 < 8 * a.blocks + 15 = omega arith in
    let few : a.g < 18 = omega arith in
    omega (arith, digits_lt few last, whole)
