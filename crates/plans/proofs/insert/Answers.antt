-- `insert`: by where the track stands among those that are there; there is room for it, where it is one more.
use Prim.Native.Nat.{◌<◌}
use native.Mathlib.Omega.{arith}
use Rattle.plans.specs.Plans.{place}
use Rattle.plans.proofs.Inserting.{lower_place, upper_place, insert_none, insert_high, insert_middle, insert_low}
use Rattle.plans.proofs.insert.Goals as goal

pub returns-then-lt : goal.returns-then-lt
returns-then-lt c =
    let h = lower_place _ _ _ c.lt.ensures c.if-lt.true in
    record { is = λ sh s f g m most o. insert_high sh s f g _ _ (omega arith) m most o h }

pub returns-then-lt-2 : goal.returns-then-lt-2
returns-then-lt-2 c =
    let h = upper_place _ _ _ c.lt.ensures c.if-lt.false in
    let l = lower_place _ _ _ c.lt-2.ensures c.if-lt-2.true in
    record { is = λ sh s f g m most o. insert_middle sh s f g _ _ (omega arith) m most o h l }

pub returns-then-lt-3 : goal.returns-then-lt-3
returns-then-lt-3 c =
    let h = upper_place _ _ _ c.lt-2.ensures c.if-lt-2.false in
    let l : place c.args.x.low < place c.args.e = lower_place _ _ _ c.lt-3.ensures c.if-lt-3.true in
    record { is = λ sh s f g m most o. insert_low sh s f g _ _ (omega arith) m most o h }

pub returns : goal.returns
returns c = insert_none _ _ (upper_place _ _ _ c.lt-3.ensures c.if-lt-3.false)
