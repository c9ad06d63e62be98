-- The form of the flagged tracks of both sets.
use mathlib.Core.Path.{◌≡◌, refl, sym, ap, ◌∙◌}
use mathlib.Core.Logic.{◌≢◌}
use mathlib.Core.Bool.{Bool, true, false, true≢false}
use mathlib.Core.List.{List, [], ◌∷◌}
use Prim.Native.Nat.{ℕ, zero, suc, ◌-◌, ◌<◌, ◌≤◌}
use native.Mathlib.Decide.{dec_lt, ℕ_discrete}
use native.Mathlib.Omega.{arith}
use borrow.Author.Tests.{ltb-true, ltb-false}
use lib.Dec.{ltb}
use Rattle.code.specs.declared.sizes.TrackSet.{TrackSet}
use Rattle.code.specs.declared.sizes.TrackSet.TheVariants.{A, B}
use Rattle.code.specs.Record.{Closing, closed_tail, open_tail, by_closing, Shape, data_tracks, tracks, track_length, vertical_end}
use Rattle.std.specs.Prelude.{Option, None, Some}
use Rattle.code.specs.Flags.{TrackFlags, flag_count}
use Rattle.code.specs.Reach.{pick}
use Rattle.code.specs.Sizes.{shape}
use Rattle.code.specs.declared.sizes.Sizes.{Sizes}
use Rattle.code.proofs.Patterns.{in_each}
use Rattle.plans.specs.declared.Three.{Three}
use Rattle.plans.specs.declared.Pivot.{Pivot}
use Rattle.plans.specs.declared.Track.{Track}
use Rattle.plans.specs.declared.Below.TheVariants.{One, Two}
use Rattle.plans.specs.declared.Form.{Form}
use Rattle.plans.specs.Lists.{Falls, Off}
use Rattle.plans.specs.Plans.{place, ThreeOf, lone_zero, pivot_at, second_at, pivot, room, count, v_of, u_of, lows, Room, no_pivot, data_pivot, zero_pivot, vertical_pivot, Fits, Formed}

-- ## The highest track below the pivot

-- It is the second flagged track, but where the highest is track 0 in an open tail.
pub second_more : (c : Closing) (h m : ℕ) → h ≢ 1 → m ≡ second_at c h m
second_more closed_tail h m d = refl
second_more open_tail zero m d = refl
second_more open_tail (suc zero) m d = absurd (d refl)
second_more open_tail (suc (suc h)) m d = refl

-- ## The tracks below the pivot

-- They are m - 1 and l - 1, the higher first; 0 for none.
abbrev below_high : ℕ → ℕ → List ℕ
below_high zero l = []
below_high (suc m) zero = m ∷ []
below_high (suc m) (suc l) = m ∷ l ∷ []

below_none : (m l : ℕ) → m ≡ 0 → [] ≡ below_high m l
below_none zero l e = refl
below_none (suc m) l e = absurd (omega arith)

below_one : (m l v : ℕ) → suc v ≡ m → l ≡ 0 → v ∷ [] ≡ below_high m l
below_one zero l v d e = absurd (omega arith)
below_one (suc m) zero v d e = let h : v ≡ m = omega arith in cc
below_one (suc m) (suc l) v d e = absurd (omega arith)

-- They fall from the pivot.
below_falls : (j m l : ℕ) → m ≤ j → (0 < l → l < m) → Falls j (below_high m l)
below_falls j zero l a b = _
below_falls j (suc m) zero a b = (omega arith, _)
below_falls j (suc m) (suc l) a b = (omega arith, (omega (arith, b (omega arith)), _))

-- A track that is none of them is neither.
off_middle : (m l t : ℕ) → Off t (below_high m l) → suc t ≢ m
off_middle zero l t o = omega arith
off_middle (suc m) zero t o = let d = o.0 in omega arith
off_middle (suc m) (suc l) t o = let d = o.0 in omega arith

off_low : (m l t : ℕ) → (0 < l → l < m) → Off t (below_high m l) → suc t ≢ l
off_low m zero t b o = omega arith
off_low zero (suc l) t b o = absurd (omega (arith, b (omega arith)))
off_low (suc m) (suc l) t b o = let d = o.1.0 in omega arith

-- ## Of one set

-- The flagged tracks of set s: the pivot p, and below it m - 1 and l - 1, 0 for none.
record Ordered (sh : Shape) (f : TrackFlags) (s : TrackSet) (p : Pivot) (m l : ℕ) : Type 0 where
  inside : p.track < tracks sh s
  second_lower : m ≤ p.track
  third_lower : 0 < l → l < m
  second_is : (t : ℕ) → suc t ≡ m → f s t ≡ true
  others : (t : ℕ) → t < tracks sh s → t ≢ p.track → suc t ≢ m → suc t ≢ l → f s t ≡ false
  far : Room sh f s p.track p.room

-- The pivot and the tracks below it fall, and no other is flagged.
ordered_falls : (sh : Shape) (f : TrackFlags) (s : TrackSet) (p : Pivot) (m l : ℕ) → Ordered sh f s p m l → Falls (tracks sh s) (p.track ∷ below_high m l)
ordered_falls sh f s p m l o = (o.inside, below_falls p.track m l o.second_lower o.third_lower)

ordered_clear : (sh : Shape) (f : TrackFlags) (s : TrackSet) (p : Pivot) (m l : ℕ) → Ordered sh f s p m l → (t : ℕ) → t < tracks sh s →
    Off t (p.track ∷ below_high m l) → f s t ≡ false
ordered_clear sh f s p m l o t h d = o.others t h d.0 (off_middle m l t d.1) (off_low m l t o.third_lower d.1)

-- A number below h, if it is not 0.
lower_le : (m h : ℕ) → (0 < m → m < h) → m ≤ h - 1
lower_le zero h a = omega arith
lower_le (suc m) h a = omega (arith, a (omega arith))

module _ (sh : Shape) (f : TrackFlags) (s : TrackSet) (x : Three) (o : ThreeOf sh f s x) where
  -- The second flagged track is below the first, and the third below the second.
  middle_le : (place x.middle) ≤ (place x.high) - 1
  middle_le = lower_le (place x.middle) (place x.high) o.sorted.middle_lower

  low_le : (place x.low) ≤ (place x.middle) - 1
  low_le = lower_le (place x.low) (place x.middle) o.sorted.low_lower

  -- The vertical track is not flagged, where no other than track 0 is.
  vertical_clear : (place x.high) ≤ 1 → f s (suc (data_tracks sh s)) ≡ false
  vertical_clear h = o.others _ (omega arith) (omega arith) (omega (arith, middle_le)) (omega (arith, middle_le, low_le))

  -- The pivot is the highest flagged track, or there is none.
  order_high : (p : Pivot) (m : ℕ) → m ≡ (place x.middle) → p.track < tracks sh s → (place x.high) ≤ suc p.track → ((t : ℕ) → t ≢ p.track → suc t ≢ (place x.high)) →
      Room sh f s p.track p.room → Ordered sh f s p m (place x.low)
  order_high p m e i l n r = record {
    inside = i;
    second_lower = omega (arith, middle_le);
    third_lower = λ h. omega (arith, o.sorted.low_lower h);
    second_is = λ t d. o.middle_is t (omega arith);
    others = λ t h d a. o.others t h (n t d) (omega arith);
    far = r;
  }

  -- Track 0 is the highest.
  order_lone : (c : Closing) (m : ℕ) → sh.closing ≡ c → (place x.high) ≡ 1 → m ≡ second_at c 1 (place x.middle) → Ordered sh f s (lone_zero c sh s) m (place x.low)
  order_lone closed_tail m k e d = order_high _ m d (omega arith) (omega arith) (λ t n. omega arith)
      (zero_pivot refl (o.high_is 0 (sym e)) refl (ap (λ c. by_closing c (track_length sh) sh.positions) k))
  order_lone open_tail m k e d = record {
    inside = omega arith;
    second_lower = omega arith;
    third_lower = λ h. absurd (omega (arith, middle_le, low_le));
    second_is = λ t h. o.high_is t (omega arith);
    others = λ t h a b. o.others t h (omega arith) (omega (arith, middle_le));
    far = no_pivot refl (vertical_clear (omega arith)) refl;
  }

  -- A higher one is: how far it may be wrong.
  room_more : (t : ℕ) → (place x.high) ≡ suc (suc t) → Room sh f s (suc t) (pick (ltb t (data_tracks sh s)) sh.positions (vertical_end sh))
  room_more t e = go (ltb t (data_tracks sh s)) refl
    where
      go : (b : Bool) → ltb t (data_tracks sh s) ≡ b → Room sh f s (suc t) (pick b sh.positions (vertical_end sh))
      go true d = let l = ltb-true t (data_tracks sh s) d in data_pivot (omega arith) (omega arith) (o.high_is (suc t) (sym e)) refl
      go false d = let l = ltb-false t (data_tracks sh s) d in vertical_pivot (omega arith) (o.high_is (suc t) (sym e)) refl

  -- The flagged tracks in order, the pivot first.
  ordered : (m : ℕ) → m ≡ second_at sh.closing (place x.high) (place x.middle) → Ordered sh f s (pivot_at sh s (place x.high)) m (place x.low)
  ordered m = go (place x.high) refl
    where
      go : (h : ℕ) → (place x.high) ≡ h → m ≡ second_at sh.closing h (place x.middle) → Ordered sh f s (pivot_at sh s h) m (place x.low)
      go zero e d = order_high _ m (d ∙ sym (second_more sh.closing zero (place x.middle) (omega arith))) (omega arith) (omega arith) (λ t n. omega arith)
          (no_pivot refl (vertical_clear (omega arith)) refl)
      go (suc zero) e d = order_lone sh.closing m refl e d
      go (suc (suc t)) e d = order_high _ m (d ∙ sym (second_more sh.closing (suc (suc t)) (place x.middle) (omega arith))) (omega arith) (omega arith) (λ u n. omega arith)
          (room_more t e)

  -- With one flagged track at the most, which in an open tail is not track 0, none is below the pivot.
  no_second : flag_count sh f s ≤ 1 → (sh.closing ≡ open_tail → f s 0 ≡ false) → 0 ≡ second_at sh.closing (place x.high) (place x.middle)
  no_second few clear = go (ℕ_discrete (place x.high) 1) sh.closing refl
    where
      no_middle : Dec (0 < (place x.middle)) → 0 ≡ (place x.middle)
      no_middle (yes l) = absurd (omega (arith, o.two l))
      no_middle (no l) = omega arith

      go : Dec ((place x.high) ≡ 1) → (c : Closing) → sh.closing ≡ c → 0 ≡ second_at c (place x.high) (place x.middle)
      go (no n) c k = no_middle (dec_lt 0 (place x.middle)) ∙ second_more c (place x.high) (place x.middle) n
      go (yes e) closed_tail k = no_middle (dec_lt 0 (place x.middle))
      go (yes e) open_tail k = absurd (true≢false (sym (o.high_is 0 (sym e)) ∙ clear k))

-- ## Of both sets

-- A form with the pivots of both sets and the tracks below them: i - 1 and k - 1 of A, j - 1 and l - 1 of B.
form_fits : (sh : Shape) (f : TrackFlags) (i k j l : ℕ) (p : Form) → Ordered sh f A p.a i k → Ordered sh f B p.b j l →
    lows p A ≡ below_high i k → lows p B ≡ below_high j l →
    (2 ≤ count p → (u_of p).s ≢ (v_of p).s → data_tracks sh (v_of p).s ≤ data_tracks sh (u_of p).s) →
    (1 ≤ count p → f (v_of p).s (v_of p).t ≡ true) → (2 ≤ count p → f (u_of p).s (u_of p).t ≡ true) → Fits sh f p
form_fits sh f i k j l p oa ob la lb fewer v_is u_is = record {
  sized = record {
    order = in_each (λ c. Falls (tracks sh c) (pivot p c ∷ lows p c))
        (rw la (ordered_falls sh f A p.a i k oa))
        (rw lb (ordered_falls sh f B p.b j l ob));
    fewer = fewer;
  };
  clear = in_each (λ c. (t : ℕ) → t < tracks sh c → Off t (pivot p c ∷ lows p c) → f c t ≡ false)
      (rw la (ordered_clear sh f A p.a i k oa))
      (rw lb (ordered_clear sh f B p.b j l ob));
  v_flagged = v_is;
  u_flagged = u_is;
  rooms = in_each (λ c. Room sh f c (pivot p c) (room p c)) oa.far ob.far;
}

-- ## The forms

-- A track of a set.
abbrev in_set : TrackSet → ℕ → Track
in_set s t = record { s = s; t = t }

module _ (z : Sizes) (x y : Three) (a b : Pivot) (pa : a ≡ pivot_at (shape z) A (place x.high)) (pb : b ≡ pivot_at (shape z) B (place y.high)) where
  -- The flagged tracks of A and of B in order.
  ordered_a : (f : TrackFlags) → ThreeOf (shape z) f A x → (i : ℕ) → i ≡ second_at (shape z).closing (place x.high) (place x.middle) → Ordered (shape z) f A a i (place x.low)
  ordered_a f o i e = rw pa (ordered (shape z) f A x o i e)

  ordered_b : (f : TrackFlags) → ThreeOf (shape z) f B y → (j : ℕ) → j ≡ second_at (shape z).closing (place y.high) (place y.middle) → Ordered (shape z) f B b j (place y.low)
  ordered_b f o j e = rw pb (ordered (shape z) f B y o j e)

  -- Two of a set at the most: i and j are the highest below the pivots.
  module _ (i j : Option ℕ) (ia : place i ≡ second_at (shape z).closing (place x.high) (place x.middle))
      (jb : place j ≡ second_at (shape z).closing (place y.high) (place y.middle)) where
    -- One of A.
    pub form_one_a : (t : ℕ) → i ≡ Some t → place x.low ≡ 0 → j ≡ None → Formed z x y (record { a = a; b = b; below = One (in_set A t) })
    form_one_a t d e n = record {
      fits = λ f w ox oy.
          let oa = ordered_a f ox (place i) ia in
          form_fits (shape z) f _ _ _ _ _ oa (ordered_b f oy (place j) jb)
          (below_one (place i) (place x.low) _ (sym (ap place d)) e)
          (below_none (place j) (place y.low) (ap place n))
          (λ h. absurd (omega arith)) (λ h. oa.second_is _ (sym (ap place d))) (λ h. absurd (omega arith));
    }

    -- One of each set: v is in the set with fewer data tracks.
    module _ (t u : ℕ) (da : i ≡ Some t) (db : j ≡ Some u) (ea : place x.low ≡ 0) (eb : place y.low ≡ 0) where
      pub form_two_a : z.t1 ≤ z.t2 → Formed z x y (record { a = a; b = b; below = Two (in_set A t) (in_set B u) })
      form_two_a l = record {
        fits = λ f w ox oy.
            let oa = ordered_a f ox (place i) ia in
            let ob = ordered_b f oy (place j) jb in
            form_fits (shape z) f _ _ _ _ _ oa ob
            (below_one (place i) (place x.low) _ (sym (ap place da)) ea)
            (below_one (place j) (place y.low) _ (sym (ap place db)) eb)
            (λ h n. l) (λ h. oa.second_is _ (sym (ap place da))) (λ h. ob.second_is _ (sym (ap place db)));
      }

      pub form_two_b : z.t2 < z.t1 → Formed z x y (record { a = a; b = b; below = Two (in_set B u) (in_set A t) })
      form_two_b l = record {
        fits = λ f w ox oy.
            let oa = ordered_a f ox (place i) ia in
            let ob = ordered_b f oy (place j) jb in
            form_fits (shape z) f _ _ _ _ _ oa ob
            (below_one (place i) (place x.low) _ (sym (ap place da)) ea)
            (below_one (place j) (place y.low) _ (sym (ap place db)) eb)
            (λ h n. omega arith) (λ h. ob.second_is _ (sym (ap place db))) (λ h. oa.second_is _ (sym (ap place da)));
      }
