-- One flagged track more among those of a set.
use mathlib.Core.Path.{◌≡◌, sym, ap, ◌∙◌}
use mathlib.Core.Logic.{◌≢◌, by_cases}
use mathlib.Core.Bool.{Bool, true, false, true≢false}
use Prim.Native.Nat.{ℕ, suc, ◌+◌, ◌-◌, ◌<◌, ◌≤◌}
use native.Mathlib.Decide.{dec_lt, ℕ_discrete}
use native.Mathlib.Omega.{arith}
use Rattle.std.proofs.Common.{Option, None, Some, tests}
use Rattle.std.specs.Option.{option_partial_cmp}
use Rattle.std.specs.Ordering.{partial_lt, nat_cmp}
use Rattle.code.specs.declared.sizes.TrackSet.{TrackSet}
use Rattle.code.specs.Record.{Shape, tracks}
use Rattle.code.specs.Flags.{TrackFlags, bit, flag_count}
use Rattle.code.proofs.Sums.{sum_same, sum_but_one}
use Rattle.plans.specs.declared.Three.{Three}
use Rattle.plans.specs.Plans.{place, ThreeOf, OneMore, Inserted}

-- Flags that agree on a set flag as many tracks of it.
count_same : (sh : Shape) (s : TrackSet) (f g : TrackFlags) → ((t : ℕ) → t < tracks sh s → g s t ≡ f s t) → flag_count sh g s ≡ flag_count sh f s
unfolding flag_count
count_same sh s f g h = sum_same (tracks sh s) _ _ (λ t l. ap bit (h t l))

-- They flag the same tracks.
pub three_same : (sh : Shape) (s : TrackSet) (f g : TrackFlags) (x : Three) → ((t : ℕ) → t < tracks sh s → g s t ≡ f s t) → ThreeOf sh f s x → ThreeOf sh g s x
three_same sh s f g x h o = record {
  within = o.within;
  sorted = o.sorted;
  high_is = λ t e. h t (omega arith) ∙ o.high_is t e;
  middle_is = λ t e. let m = o.sorted.middle_lower (omega arith) in h t (omega arith) ∙ o.middle_is t e;
  low_is = λ t e.
      let l = o.sorted.low_lower (omega arith) in
      let m = o.sorted.middle_lower (omega arith) in
      h t (omega arith) ∙ o.low_is t e;
  others = λ t l a b c. h t l ∙ o.others t l a b c;
  one = λ l. omega (arith, o.one l, count_same sh s f g h);
  two = λ l. omega (arith, o.two l, count_same sh s f g h);
  three = λ l. omega (arith, o.three l, count_same sh s f g h);
}

-- The order of options is that of their places.
pub lower_place : (a b : Option ℕ) (r : Bool) → r ≡ partial_lt (option_partial_cmp (λ x y. Some (nat_cmp x y))) a b → r ≡ true → place a < place b
lower_place None None r e h = absurd (true≢false (sym h ∙ e))
lower_place None (Some b) r e h = omega arith
lower_place (Some a) None r e h = absurd (true≢false (sym h ∙ e))
lower_place (Some a) (Some b) r e h = grind (arith, tests)

pub upper_place : (a b : Option ℕ) (r : Bool) → r ≡ partial_lt (option_partial_cmp (λ x y. Some (nat_cmp x y))) a b → r ≡ false → place b ≤ place a
upper_place None None r e h = omega arith
upper_place None (Some b) r e h = absurd (true≢false (sym e ∙ h))
upper_place (Some a) None r e h = omega arith
upper_place (Some a) (Some b) r e h = grind (arith, tests)

-- A track more, where there are three at the most.
module _ (sh : Shape) (s : TrackSet) (f g : TrackFlags) (x : Three) (e : Option ℕ) (some : place e ≢ 0) (m : OneMore sh s e f g) (most : flag_count sh g s ≤ 3) (o : ThreeOf sh f s x) where
  -- The flags count one more.
  count_more : flag_count sh g s ≡ flag_count sh f s + 1
  unfolding flag_count
  count_more =
      let d : suc (place e - 1) ≡ place e = omega arith in
      omega (
        arith,
        ap bit (m.was (place e - 1) d),
        ap bit (m.here (place e - 1) d),
        sum_but_one (tracks sh s) (place e - 1) (λ t. bit (f s t)) (λ t. bit (g s t)) (omega arith) (λ t l n. ap bit (sym (m.there t l (omega arith)))),
      )

  -- There was room for it.
  no_low : place x.low ≡ 0
  no_low = go (dec_lt 0 (place x.low))
    where
      go : Dec (0 < place x.low) → place x.low ≡ 0
      go (yes l) = absurd (omega (arith, o.three l, count_more))
      go (no l) = omega arith

  -- It was not flagged.
  not_high : place x.high ≢ place e
  not_high d = true≢false (sym (o.high_is (place e - 1) (omega arith)) ∙ m.was (place e - 1) (omega arith))

  not_middle : place x.middle ≢ place e
  not_middle d = true≢false (sym (o.middle_is (place e - 1) (omega arith)) ∙ m.was (place e - 1) (omega arith))

  -- The others are what they were.
  high_kept : (t : ℕ) → suc t ≡ place x.high → g s t ≡ true
  high_kept t d = m.there t (omega arith) (λ n. not_high (omega arith)) ∙ o.high_is t d

  middle_kept : (t : ℕ) → suc t ≡ place x.middle → g s t ≡ true
  middle_kept t d =
      let l = o.sorted.middle_lower (omega arith) in
      m.there t (omega arith) (λ n. not_middle (omega arith)) ∙ o.middle_is t d

  rest : (t : ℕ) → t < tracks sh s → suc t ≢ place e → suc t ≢ place x.high → suc t ≢ place x.middle → g s t ≡ false
  rest t l a b c = m.there t l a ∙ o.others t l b c (omega (arith, no_low))

  -- It is the highest.
  pub insert_high : place x.high < place e → ThreeOf sh g s (record { high = e; middle = x.high; low = x.middle })
  insert_high h = record {
    within = m.within;
    sorted = record { middle_lower = λ l. h; low_lower = o.sorted.middle_lower };
    high_is = m.here;
    middle_is = high_kept;
    low_is = middle_kept;
    others = rest;
    one = λ l. omega (arith, count_more);
    two = λ l. omega (arith, o.one l, count_more);
    three = λ l. omega (arith, o.two l, count_more);
  }

  -- It is the second.
  pub insert_middle : place e ≤ place x.high → place x.middle < place e → ThreeOf sh g s (record { high = x.high; middle = e; low = x.middle })
  insert_middle n h = record {
    within = o.within;
    sorted = record { middle_lower = λ l. omega (arith, not_high); low_lower = λ l. h };
    high_is = high_kept;
    middle_is = m.here;
    low_is = middle_kept;
    others = λ t l a b. rest t l b a;
    one = λ l. omega (arith, count_more);
    two = λ l. omega (arith, o.one (omega arith), count_more);
    three = λ l. omega (arith, o.two l, count_more);
  }

  -- It is the third.
  pub insert_low : place e ≤ place x.middle → ThreeOf sh g s (record { high = x.high; middle = x.middle; low = e })
  insert_low n = record {
    within = o.within;
    sorted = record { middle_lower = o.sorted.middle_lower; low_lower = λ l. omega (arith, not_middle) };
    high_is = high_kept;
    middle_is = middle_kept;
    low_is = m.here;
    others = λ t l a b c. rest t l c a b;
    one = λ l. omega (arith, count_more);
    two = λ l. omega (arith, o.two l, count_more);
    three = λ l. omega (arith, o.two (omega arith), count_more);
  }

-- No track more: after three there is none.
pub insert_none : (x : Three) (e : Option ℕ) → place e ≤ place x.low → Inserted x e x
insert_none x e h = record {
  is = λ sh s f g m most o. by_cases (ℕ_discrete (place e) 0)
      (λ z. three_same sh s f g x (λ t l. m.there t l (omega arith)) o)
      (λ n. absurd (omega (arith, no_low sh s f g x e n m most o)));
}
