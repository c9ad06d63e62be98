-- Laws of the reach codes.
use mathlib.Core.Path.{◌≡◌, refl}
use mathlib.Core.Bool.{Bool, true, false, ◌&&◌}
use mathlib.Core.List.{List, [], ◌∷◌}
use Prim.Native.Nat.{ℕ, ◌+◌, ◌*◌, ◌≤◌, max}
use native.Mathlib.Decide.{ℕ_discrete}
use native.Mathlib.Omega.{arith}
use lib.Dec.{eqb, leb}
use borrow.Author.Tests.{eqb-true, leb-false}
use Rattle.code.specs.Record.{A, B, closed_tail, Shape}
use Rattle.code.specs.Flags.{TrackFlags, flag_count, Within, any}
use Rattle.code.specs.Reach.{Row, rows, pick, look_up, reach_code, flags_code, code_reach, table_reach}
use Rattle.code.specs.declared.Reach.{Reach}
use Rattle.code.proofs.Patterns.{in_each, none_flagged}

-- ## The table's rows

-- The highest value of g in the rows.
abbrev highest : (ℕ → ℕ → ℕ → ℕ) → List Row → ℕ
highest g [] = 0
highest g (r ∷ rs) = max (g r.a r.b r.code) (highest g rs)

-- A code that is looked up keeps to it.
looked_up : (g : ℕ → ℕ → ℕ → ℕ) (rs : List Row) (a b : ℕ) → (look_up rs a b ≡ 0 → ⊥) → g a b (look_up rs a b) ≤ highest g rs
unfolding look_up
looked_up g [] a b n = absurd (n refl)
looked_up g (r ∷ rs) a b n = go (looked_up g rs a b) (eqb r.a a) (eqb r.b b) refl refl n
  where
    Keeps : ℕ → ℕ → Type 0
    Keeps c m = (c ≡ 0 → ⊥) → g a b c ≤ m

    go : Keeps (look_up rs a b) (highest g rs) → (p q : Bool) → eqb r.a a ≡ p → eqb r.b b ≡ q →
        Keeps (pick (p && q) r.code (look_up rs a b)) (highest g (r ∷ rs))
    go rest true true e d n = rw (← eqb-true r.a a e, ← eqb-true r.b b d) (omega arith)
    go rest true false e d n = omega (arith, rest n)
    go rest false q e d n = omega (arith, rest n)

-- Beside a and b flagged tracks, any two choices of extras that a reach allows stay within the limit.
pub record Room (w : Reach) (a b : ℕ) : Type 0 where
  pub in_a : a + 2 * w.a ≤ 3
  pub in_b : b + 2 * w.b ≤ 3
  pub in_all : a + b + 2 * w.all ≤ 4

-- The table's codes leave that room.
pub code_room : (a b : ℕ) → (reach_code a b ≡ 0 → ⊥) → Room (code_reach (reach_code a b)) a b
unfolding reach_code
code_room a b n = record {
  in_a = looked_up (λ a b c. a + 2 * (code_reach c).a) rows a b n;
  in_b = looked_up (λ a b c. b + 2 * (code_reach c).b) rows a b n;
  in_all = looked_up (λ a b c. a + b + 2 * (code_reach c).all) rows a b n;
}

-- Codes are 0 to 5.
pub code_small : (a b : ℕ) → reach_code a b ≤ 5
unfolding reach_code
code_small a b = go (ℕ_discrete (reach_code a b) 0)
  where
    go : Dec (reach_code a b ≡ 0) → reach_code a b ≤ 5
    go (yes e) = omega arith
    go (no n) = looked_up (λ a b c. c) rows a b n

-- Counts past the limit of a set have code 0.
pub code_far : (a b : ℕ) → (a ≤ 3 → b ≤ 3 → ⊥) → reach_code a b ≡ 0
code_far a b far = go (ℕ_discrete (reach_code a b) 0)
  where
    go : Dec (reach_code a b ≡ 0) → reach_code a b ≡ 0
    go (yes e) = e
    go (no n) = let room = code_room a b n in absurd (far (omega arith) (omega arith))

-- A pair of counts within the limit that has no code.
abbrev gap : ℕ → ℕ → Bool
gap a b = eqb (reach_code a b) 0 && leb (a + b) 4

-- There is none: a test of all counts up to 3.
no_gap : any 4 (λ a. any 4 (gap a)) ≡ false
unfolding any reach_code look_up
no_gap = refl

-- Counts within the limit have a code.
coded : (a b : ℕ) → a ≤ 3 → b ≤ 3 → a + b ≤ 4 → reach_code a b ≡ 0 → ⊥
coded a b p q s e = omega (
  arith,
  leb-false (a + b) 4 (rw e at (none_flagged 4 (gap a) (none_flagged 4 (λ a. any 4 (gap a)) no_gap a (omega arith)) b (omega arith))),
)

-- ## The flags' code

-- Where the tail is closed, the counts alone decide.
pub closed_within : (sh : Shape) (f : TrackFlags) → sh.closing ≡ closed_tail →
    flag_count sh f A ≤ 3 → flag_count sh f B ≤ 3 → flag_count sh f A + flag_count sh f B ≤ 4 → Within sh f
closed_within sh f c a b both = record {
  in_set = in_each (λ s. flag_count sh f s ≤ 3) a b;
  in_all = both;
  if_open = λ o. let z : ◌≡◌ {A = ℕ} 0 1 = cc in absurd (omega arith);
}

-- Flags that have a code are within the limit.
pub code_within : (sh : Shape) (f : TrackFlags) → sh.closing ≡ closed_tail → (flags_code sh f ≡ 0 → ⊥) → Within sh f
unfolding flags_code
code_within sh f c n = let room = code_room _ _ n in closed_within sh f c (omega arith) (omega arith) (omega arith)

-- Flags that have none are not.
pub code_past : (sh : Shape) (f : TrackFlags) → flags_code sh f ≡ 0 → Within sh f → ⊥
unfolding flags_code
code_past sh f e w = coded _ _ (w.in_set A) (w.in_set B) w.in_all e

-- It is 0 to 5.
pub flags_small : (sh : Shape) (f : TrackFlags) → flags_code sh f ≤ 5
unfolding flags_code
flags_small sh f = code_small (flag_count sh f A) (flag_count sh f B)

-- The room that the table leaves beside the flags.
pub table_room : (sh : Shape) (f : TrackFlags) → (flags_code sh f ≡ 0 → ⊥) → Room (table_reach sh f) (flag_count sh f A) (flag_count sh f B)
unfolding flags_code
table_room sh f = code_room (flag_count sh f A) (flag_count sh f B)
