-- That a form's tracks are in order is known in one way.
use Rattle.std.specs.Prelude.{ℕ, List, [], ◌∷◌}
use Rattle.std.specs.Coded.{×_prop, Π_prop, Unit-prop, le_prop}
use Rattle.code.specs.Record.{Shape, tracks}
use Rattle.plans.specs.declared.Form.{Form}
use Rattle.plans.specs.Lists.{Falls}
use Rattle.plans.specs.Plans.{pivot, lows, Sized}

falls_prop : (n : ℕ) (ts : List ℕ) → IsProp (Falls n ts)
falls_prop n [] = Unit-prop
falls_prop n (t ∷ ts) = ×_prop le_prop (falls_prop t ts)

pub sized_prop : (sh : Shape) (p : Form) → IsProp (Sized sh p)
sized_prop sh p = λ x y. λ i. record {
  order = Π_prop (λ c. falls_prop (tracks sh c) (pivot p c ∷ lows p c)) x.order y.order i;
  fewer = Π_prop (λ h. Π_prop (λ n. le_prop)) x.fewer y.fewer i;
}
