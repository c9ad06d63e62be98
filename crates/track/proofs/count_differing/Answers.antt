-- `count_differing`: block k is counted after the first k.
use mathlib.Core.Path.{◌≡◌, refl, ap, ap₂, ◌∙◌}
use Prim.Native.Nat.{◌+◌, ◌*◌, ◌/◌}
use native.Mathlib.Omega.{arith}
use borrow.Author.Rules.{rules}
use lib.ListN.{length}
use Rattle.code.specs.Record.{sum}
use Rattle.track.specs.Track.{differing}
use Rattle.track.proofs.Differing.{differs, differing_le, differing_on}
use Rattle.track.proofs.count_differing.Goals as goal

pub loop-k-init : goal.loop-k-init
unfolding sum
loop-k-init c = search rules

pub loop-k-preserved : goal.loop-k-preserved
loop-k-preserved c =
    let l = c.loop-k in
    let a = c.args.a.now in
    let b = c.args.b.now in
    let from = 224 * l.k in
    let on = differing_on a b from (from + 224) (from + 224) (omega arith) (omega arith) c.requires refl in
    let e : from + 224 ≡ 224 * (l.k + 1) = omega arith in
    let now : l.count + c.count_few-in-loop-k.result ≡ sum (224 * (l.k + 1)) (differs a b) = ap₂ (λ m n. m + n) l.invariant.1 c.count_few-in-loop-k.ensures ∙ on ∙ ap (λ n. sum n (differs a b)) e in
    (omega (arith, now, differing_le (224 * (l.k + 1)) a b), now)

pub returns : goal.returns
unfolding differing
returns c =
    let l = c.loop-k in
    let a = c.args.a.now in
    let b = c.args.b.now in
    let blocks = length a / 224 in
    let all : l.k ≡ blocks = omega arith in
    ap₂ (λ m n. m + n) (l.invariant.1 ∙ ap (λ k. sum (224 * k) (differs a b)) all) c.count_few-2.ensures
    ∙ differing_on a b (224 * blocks) (length a) (length b) (omega arith) (omega arith) c.requires c.requires
