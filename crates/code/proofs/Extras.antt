-- An extra that a call names has one of the record's track numbers.
use mathlib.Core.Path.{◌≡◌}
use mathlib.Core.Logic.{inl, inr}
use mathlib.Core.List.{List, [], ◌∷◌}
use Prim.Native.Nat.{ℕ, ◌<◌}
use native.Mathlib.Omega.{arith}
use Rattle.code.specs.Record.{TrackSet, A, B, Shape}
use Rattle.code.specs.Image.{all_tracks}
use Rattle.code.specs.Flags.{TrackFlags}
use Rattle.code.specs.Reach.{Extra, none, extra}
use Rattle.code.specs.Numbers.{Check}
use Rattle.code.specs.Calls.{Result, plain, Answered, ReadOrNot}
use Rattle.code.specs.Supply.{extra_in, Values}
use Rattle.code.proofs.Numbers.{Each, answered}
use Rattle.code.proofs.Places.{number_lt}

-- An extra with a track number below `all`, or none.
pub record Numbered (all : ℕ) (e : Extra) : Type 0 where
  pub below : (g : ℕ) → e ≡ extra g → g < all

pub record ExtrasNumbered (all : ℕ) (r : Result) : Type 0 where
  pub in_a : Numbered all r.extra_a
  pub in_b : Numbered all r.extra_b

numbered_none : (all : ℕ) → Numbered all none
numbered_none all = record { below = λ g e. let z : ◌≡◌ {A = ℕ} 0 1 = cc in absurd (omega arith) }

-- A plain answer names none.
plain_numbered : (all k d : ℕ) → ExtrasNumbered all (plain k d)
plain_numbered all k d = record { in_a = numbered_none all; in_b = numbered_none all }

each_numbered : (all : ℕ) (cs : List {1} Check) → Each (λ c. ExtrasNumbered all (plain c.number c.detail)) cs
each_numbered all [] = tt
each_numbered all (c ∷ cs) = (plain_numbered all c.number c.detail, each_numbered all cs)

module _ (cs : List {1} Check) (before : List ℕ) (r : Result) (after : List ℕ) (all : ℕ) where
  -- A call whose one answer past its checks is 0, with nothing changed.
  pub plain_answers_numbered : (done : Result → List ℕ → Type 0) → (done r after → r ≡ plain 0 0) → Answered cs done before r after → ExtrasNumbered all r
  plain_answers_numbered done ends = answered (λ r after. ExtrasNumbered all r) cs done before r after (each_numbered all cs)
      (λ a. rw (ends a) (plain_numbered all 0 0))

  pub read_numbered : (sh : Shape) (n : ℕ) (image : List ℕ) → Answered cs (ReadOrNot sh n image before) before r after → ExtrasNumbered all r
  read_numbered sh n image = answered (λ r after. ExtrasNumbered all r) cs (ReadOrNot sh n image before) before r after (each_numbered all cs) go
    where
      go : ReadOrNot sh n image before r after → ExtrasNumbered all r
      go (inl a) = rw a.1.result (plain_numbered all 0 0)
      go (inr a) = rw a.1.result (plain_numbered all 7 0)

-- Repair and tracing.
pub values_numbered : (sh : Shape) (f : TrackFlags) (allowed : ℕ) (image : List ℕ) (r : Result) (after : List ℕ) → Values sh f allowed image r after → ExtrasNumbered (all_tracks sh) r
values_numbered sh f allowed image r after v = record { in_a = of A; in_b = of B }
  where
    of : (s : TrackSet) → Numbered (all_tracks sh) (extra_in r s)
    of s = record { below = λ g e. let o = v.named s g e in omega (arith, number_lt sh s o.track o.inside, o.number) }

-- A call that names none.
pub unnamed_numbered : (all : ℕ) (r : Result) → ((s : TrackSet) → extra_in r s ≡ none) → ExtrasNumbered all r
unnamed_numbered all r h = record { in_a = rw (h A) (numbered_none all); in_b = rw (h B) (numbered_none all) }
