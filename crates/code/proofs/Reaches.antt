-- Reaches beside each other: which one allows more, what two allow both, and those of the tracing calls beside that of the table.
use mathlib.Core.Path.{◌≡◌, refl, sym, ap₂, ◌∙◌}
use mathlib.Core.Logic.{◌⊎◌, inl, inr, ◌↔◌}
use mathlib.Core.Bool.{Bool, true, false, ◌||◌}
use Prim.Native.Nat.{ℕ, zero, suc, ◌<◌, ◌≤◌}
use native.Mathlib.Omega.{arith}
use lib.Dec.{eqb}
use borrow.Author.Tests.{eqb-true, eqb-false, ne_eqb}
use Rattle.code.specs.Record.{TrackSet, A, B, Shape, tracks, track_length, Cells}
use Rattle.code.specs.Flags.{TrackFlags, whole, AgreeOff}
use Rattle.code.specs.Reach.{
  pick,
  flags_code,
  code_reach,
  table_reach,
  most_in,
  Extra,
  none,
  extra,
  size,
  is,
  Choice,
  with_extras,
  InReach,
  ceiling_reach,
  both,
  cautious_code,
  Tracing,
  cautious,
  within,
  traced_reach,
}
use Rattle.code.specs.declared.Reach.{Reach}
use Rattle.code.proofs.Codes.{Room}
use Rattle.code.proofs.Patterns.{neither}

-- v allows no more than w.
pub record Below (v w : Reach) : Type 0 where
  pub in_a : v.a ≤ w.a
  pub in_b : v.b ≤ w.b
  pub in_all : v.all ≤ w.all

module _ (v w : Reach) (less : Below v w) where
  most_less : (s : TrackSet) → most_in v s ≤ most_in w s
  most_less A = less.in_a
  most_less B = less.in_b

  -- What is in reach stays so where more is allowed.
  pub reach_more : (sh : Shape) (f : TrackFlags) (x y : Cells) → InReach sh v f x y → InReach sh w f x y
  reach_more sh f x y r = record {
    choice = r.choice;
    allowed = record {
      in_set = λ s. omega (arith, r.allowed.in_set s, most_less s);
      in_all = omega (arith, r.allowed.in_all, less.in_all);
      track = r.allowed.track;
      unflagged = r.allowed.unflagged;
    };
    agree = r.agree;
  }

  -- What leaves room where more is allowed leaves it where less is.
  pub room_less : (a b : ℕ) → Room w a b → Room v a b
  room_less a b room = record {
    in_a = omega (arith, room.in_a, less.in_a);
    in_b = omega (arith, room.in_b, less.in_b);
    in_all = omega (arith, room.in_all, less.in_all);
  }

-- ## No extra

abbrev pub no_extra : Choice
no_extra s = none

-- It flags nothing more.
pub agree_none : (sh : Shape) (f : TrackFlags) (x y : Cells) → AgreeOff sh (whole f) x y → AgreeOff sh (whole (with_extras f no_extra)) x y
agree_none sh f x y a = record { cell = λ s t m l b e. a.cell s t m l b (neither (f s t) false e).0 }

-- A record that agrees off the flags is in every reach.
pub agree_reached : (sh : Shape) (w : Reach) (f : TrackFlags) (x y : Cells) → AgreeOff sh (whole f) x y → InReach sh w f x y
agree_reached sh w f x y a = record {
  choice = no_extra;
  allowed = record {
    in_set = λ s. omega arith;
    in_all = omega arith;
    track = λ s t e. let z : ◌≡◌ {A = ℕ} 0 1 = cc in absurd (omega arith);
    unflagged = λ s t e. let z : ◌≡◌ {A = ℕ} 0 1 = cc in absurd (omega arith);
  };
  agree = agree_none sh f x y a;
}

-- ## What two reaches both allow

pub both_left : (v w : Reach) → Below (both v w) v
both_left v w = record { in_a = omega arith; in_b = omega arith; in_all = omega arith }

pub both_right : (v w : Reach) → Below (both v w) w
both_right v w = record { in_a = omega arith; in_b = omega arith; in_all = omega arith }

pub both_more : (u v w : Reach) → Below v w → Below (both u v) (both u w)
both_more u v w less = record { in_a = omega (arith, less.in_a); in_b = omega (arith, less.in_b); in_all = omega (arith, less.in_all) }

-- The extra that is both of two.
meet : Extra → Extra → Extra
meet none e = none
meet (extra t) none = none
meet (extra t) (extra u) = pick (eqb t u) (extra t) none

meet_left : (d e : Extra) → size (meet d e) ≤ size d
unfolding meet
meet_left none e = omega arith
meet_left (extra t) none = omega arith
meet_left (extra t) (extra u) = go (eqb t u)
  where
    go : (b : Bool) → size (pick b (extra t) none) ≤ 1
    go true = omega arith
    go false = omega arith

meet_right : (d e : Extra) → size (meet d e) ≤ size e
unfolding meet
meet_right none e = omega arith
meet_right (extra t) none = omega arith
meet_right (extra t) (extra u) = meet_left (extra t) (extra u)

meet_extra : (d e : Extra) (t : ℕ) → meet d e ≡ extra t → d ≡ extra t
unfolding meet
meet_extra none e t h = h
meet_extra (extra v) none t h = let z : ◌≡◌ {A = ℕ} 0 1 = cc in absurd (omega arith)
meet_extra (extra v) (extra u) t h = go (eqb v u) h
  where
    go : (b : Bool) → pick b (extra v) none ≡ extra t → extra v ≡ extra t
    go true h = h
    go false h = let z : ◌≡◌ {A = ℕ} 0 1 = cc in absurd (omega arith)

-- A track that is not both of them is not one of them.
meet_off : (d e : Extra) (t : ℕ) → is (meet d e) t ≡ false → (is d t ≡ false) ⊎ (is e t ≡ false)
unfolding meet
meet_off none e t h = inl refl
meet_off (extra v) none t h = inr refl
meet_off (extra v) (extra u) t h = go (eqb v u) refl h
  where
    go : (b : Bool) → eqb v u ≡ b → is (pick b (extra v) none) t ≡ false → (eqb t v ≡ false) ⊎ (eqb t u ≡ false)
    go true e h = inl h
    go false e h = apart (eqb t v) refl
      where
        apart : (c : Bool) → eqb t v ≡ c → (eqb t v ≡ false) ⊎ (eqb t u ≡ false)
        apart false i = inl i
        apart true i = inr (ne_eqb t u (λ j. eqb-false v u e (sym (eqb-true t v i) ∙ j)))

-- A record is in the reach that two allow both exactly if it is in each of them.
pub both_reach : (v w : Reach) (sh : Shape) (f : TrackFlags) (x y : Cells) → InReach sh (both v w) f x y ↔ (InReach sh v f x y × InReach sh w f x y)
both_reach v w sh f x y = (
  λ r. (reach_more (both v w) v (both_left v w) sh f x y r, reach_more (both v w) w (both_right v w) sh f x y r),
  λ p. join p.0 p.1,
)
  where
    join : InReach sh v f x y → InReach sh w f x y → InReach sh (both v w) f x y
    join p q = record {
      choice = λ s. meet (p.choice s) (q.choice s);
      allowed = record {
        in_set = elim [
          | A ↦ omega (arith, meet_left (p.choice A) (q.choice A), meet_right (p.choice A) (q.choice A), p.allowed.in_set A, q.allowed.in_set A)
          | B ↦ omega (arith, meet_left (p.choice B) (q.choice B), meet_right (p.choice B) (q.choice B), p.allowed.in_set B, q.allowed.in_set B)
        ];
        in_all = omega (
          arith,
          meet_left (p.choice A) (q.choice A),
          meet_right (p.choice A) (q.choice A),
          meet_left (p.choice B) (q.choice B),
          meet_right (p.choice B) (q.choice B),
          p.allowed.in_all,
          q.allowed.in_all,
        );
        track = λ s t e. p.allowed.track s t (meet_extra (p.choice s) (q.choice s) t e);
        unflagged = λ s t e. p.allowed.unflagged s t (meet_extra (p.choice s) (q.choice s) t e);
      };
      agree = record { cell = λ s t m l b e. at s t m l b (neither (f s t) _ e) };
    }
      where
        at : (s : TrackSet) (t m : ℕ) → t < tracks sh s → m < track_length sh → (f s t ≡ false) × (is (meet (p.choice s) (q.choice s)) t ≡ false) → x s t m ≡ y s t m
        at s t m l b off = go (meet_off (p.choice s) (q.choice s) t off.1)
          where
            go : (is (p.choice s) t ≡ false) ⊎ (is (q.choice s) t ≡ false) → x s t m ≡ y s t m
            go (inl i) = p.agree.cell s t m l b (ap₂ ◌||◌ off.0 i)
            go (inr i) = q.agree.cell s t m l b (ap₂ ◌||◌ off.0 i)

-- ## Ceilings

pub ceiling_more : (low high : ℕ) → low ≤ high → Below (ceiling_reach low) (ceiling_reach high)
ceiling_more low high l = record { in_a = l; in_b = l; in_all = l }

size_none : (e : Extra) (t : ℕ) → size e ≤ 0 → is e t ≡ false
size_none none t l = refl
size_none (extra u) t l = absurd (omega arith)

-- 0: the records that agree off the flags.
pub at_none : (w : Reach) (sh : Shape) (f : TrackFlags) (x y : Cells) → InReach sh (both w (ceiling_reach 0)) f x y ↔ AgreeOff sh (whole f) x y
at_none w sh f x y = (
  λ r. record { cell = λ s t m l b e. r.agree.cell s t m l b (ap₂ ◌||◌ e (size_none (r.choice s) t (few r s))) },
  agree_reached sh (both w (ceiling_reach 0)) f x y,
)
  where
    few : (r : InReach sh (both w (ceiling_reach 0)) f x y) (s : TrackSet) → size (r.choice s) ≤ 0
    few r A = omega (arith, r.allowed.in_all)
    few r B = omega (arith, r.allowed.in_all)

-- 1: the code with 4 for 5.
pub at_one : (code : ℕ) → both (code_reach code) (ceiling_reach 1) ≡ code_reach (cautious_code code)
at_one zero = refl
at_one (suc zero) = refl
at_one (suc (suc zero)) = refl
at_one (suc (suc (suc zero))) = refl
at_one (suc (suc (suc (suc zero)))) = refl
at_one (suc (suc (suc (suc (suc zero))))) = refl
at_one (suc (suc (suc (suc (suc (suc c)))))) = rw (ne_eqb (suc (suc (suc (suc (suc (suc c)))))) 5 (omega arith)) refl

-- 2: the code itself.
pub at_two : (code : ℕ) → both (code_reach code) (ceiling_reach 2) ≡ code_reach code
at_two zero = refl
at_two (suc zero) = refl
at_two (suc (suc zero)) = refl
at_two (suc (suc (suc zero))) = refl
at_two (suc (suc (suc (suc zero)))) = refl
at_two (suc (suc (suc (suc (suc zero))))) = refl
at_two (suc (suc (suc (suc (suc (suc c)))))) = refl

-- Neither way of tracing allows more than the table.
pub below_table : (way : Tracing) (sh : Shape) (f : TrackFlags) → Below (traced_reach way sh f) (table_reach sh f)
below_table (within ceiling) sh f = both_left (table_reach sh f) (ceiling_reach ceiling)
below_table cautious sh f = rw (sym (at_one (flags_code sh f))) (both_left (table_reach sh f) (ceiling_reach 1))
