-- Each data track is tested, from track 1 on.
use mathlib.Core.Path.{refl}
use native.Mathlib.Omega.{arith}
use borrow.Author.Rules.{rules}
use Rattle.std.proofs.lemmas.Iterator.{cases_from_all, YieldsList-from_range}
use Rattle.code.specs.Image.{cells}
use Rattle.code.specs.Sizes.{shape}
use Rattle.syndrome.specs.Steps.{TrackTail}
use Rattle.syndrome.proofs.Testing.{tail_tested}
use Rattle.syndrome.proofs.tail_zero.Goals as goal

pub returns : goal.returns
returns c =
    let tail = TrackTail (shape c.args.z) (cells (shape c.args.z) c.args.out.now) c.args.s in
    tail_tested _ _ _ _ _ (omega (arith, c.data_tracks.ensures.is))
    (cases_from_all _ _ _ tail (λ t. tail t → ⊥) c.all.ensures.ran (YieldsList-from_range 1 _ _ refl refl) (λ t q k. search rules) (λ t q k. search rules))
