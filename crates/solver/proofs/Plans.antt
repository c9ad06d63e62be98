-- The newest three marks of a set, and the plan that they make.
use mathlib.Core.Path.{◌≡◌, refl, sym, ap, subst, ◌∙◌}
use mathlib.Core.Logic.{by_cases}
use mathlib.Core.Bool.{Bool, true, false}
use mathlib.Core.List.{List}
use Prim.Native.Nat.{ℕ, zero, suc, ◌+◌, ◌<◌, ◌≤◌}
use native.Mathlib.Decide.{dec_le, dec_lt}
use native.Mathlib.Numerals.{add-one}
use native.Mathlib.Omega.{arith}
use lib.ListN.{get_or}
use Rattle.std.specs.Prelude.{Option, Some, None}
use Rattle.code.specs.declared.sizes.TrackSet.{TrackSet}
use Rattle.code.specs.Record.{Shape, data_tracks, tracks, sum}
use Rattle.code.specs.Image.{track_number}
use Rattle.code.specs.Flags.{TrackFlags, bit, flag_count}
use Rattle.code.proofs.Patterns.{but_for}
use Rattle.code.proofs.Sums.{sum_same}
use Rattle.solver.specs.declared.Plan.{Plan}
use Rattle.solver.specs.Solver.{marked_by, Named, is_low, is_high, is_last, Planned, Fills}
use Rattle.solver.proofs.Sets.{number_from, same_track, no_track}

-- The marks below n.
abbrev pub count : ℕ → (ℕ → Bool) → ℕ
count n g = sum n (λ t. bit (g t))

-- One track more.
count_one : (g : ℕ → Bool) (t : ℕ) → count t g ≤ count (suc t) g
unfolding sum
count_one g t = omega arith

-- A count to n is at most one that goes further.
pub count_le : (g : ℕ → Bool) (n m : ℕ) → n ≤ m → count n g ≤ count m g
count_le g n zero h = let e : n ≡ 0 = omega arith in omega (arith, ap (λ (v : ℕ). count v g) e)
count_le g n (suc m) h = go (count_le g n m) (dec_le n m)
  where
    go : (n ≤ m → count n g ≤ count m g) → Dec (n ≤ m) → count n g ≤ count (suc m) g
    go below (yes l) = omega (arith, below l, count_one g m)
    go below (no l) = let e : n ≡ suc m = omega arith in omega (arith, ap (λ (v : ℕ). count v g) e)

-- Of the marks below t, k is the newest, j the one before it and i the one before that. There are no others.
pub record Newest (g : ℕ → Bool) (t : ℕ) (i j k : Option ℕ) : Type 0 where
  pub i_mark : (a : ℕ) → i ≡ Some a → ((b : ℕ) × (j ≡ Some b) × (a < b)) × (g a ≡ true) × (3 ≤ count t g)
  pub j_mark : (b : ℕ) → j ≡ Some b → ((c : ℕ) × (k ≡ Some c) × (b < c)) × (g b ≡ true) × (2 ≤ count t g)
  pub k_mark : (c : ℕ) → k ≡ Some c → (c < t) × (g c ≡ true) × (1 ≤ count t g)
  pub rest : (u : ℕ) → u < t → (i ≡ Some u → ⊥) → (j ≡ Some u → ⊥) → (k ≡ Some u → ⊥) → g u ≡ false

-- Before the first track.
pub newest_none : (g : ℕ → Bool) → Newest g 0 None None None
newest_none g = record {
  i_mark = λ a h. absurd (no_track refl h);
  j_mark = λ b h. absurd (no_track refl h);
  k_mark = λ c h. absurd (no_track refl h);
  rest = λ u h. absurd (omega arith);
}

-- A track without a mark.
pub newest_same : {g : ℕ → Bool} {t : ℕ} {i j k : Option ℕ} → Newest g t i j k → g t ≡ false → Newest g (t + 1) i j k
newest_same {g} {t} n e = rw add-one (record {
  i_mark = λ a h. let m = n.i_mark a h in (m.0, m.1, omega (arith, count_one g t));
  j_mark = λ b h. let m = n.j_mark b h in (m.0, m.1, omega (arith, count_one g t));
  k_mark = λ c h. let m = n.k_mark c h in (omega arith, m.1, omega (arith, count_one g t));
  rest = λ u l p q r. but_for (λ v. g v ≡ false) t e u (λ d. n.rest u (omega arith) p q r);
})

-- A marked track.
pub newest_next : {g : ℕ → Bool} {t : ℕ} {i j k : Option ℕ} → Newest g t i j k → g t ≡ true → count (suc t) g ≤ 3 → Newest g (t + 1) j k (Some t)
unfolding sum
newest_next {g} {t} {i} {j} {k} n e most = rw add-one (record {
  i_mark = λ a h. let m = n.j_mark a h in (m.0, m.1, omega (arith, ap bit e));
  j_mark = λ b h. let m = n.k_mark b h in ((t, refl, m.0), m.1, omega (arith, ap bit e));
  k_mark = λ c h. let d = same_track refl h in (omega arith, rw (sym d) e, omega (arith, ap bit e));
  rest = λ u l p q r. n.rest u (older u l r) (λ d. omega (arith, (n.i_mark u d).2, ap bit e)) p q;
})
  where
    older : (u : ℕ) → u < suc t → (Some t ≡ Some u → ⊥) → u < t
    older u l r = by_cases (dec_lt u t) (λ h. h) (λ h. absurd (r (ap Some (omega arith))))

-- The same marks by another function.
pub newest_by : {g h : ℕ → Bool} {t : ℕ} {i j k : Option ℕ} → ((u : ℕ) → g u ≡ h u) → Newest g t i j k → Newest h t i j k
newest_by {t = t} {i = i} {j = j} {k = k} e n = subst (λ (g : ℕ → Bool). Newest g t i j k) (λ v u. e u v) n

-- The marks of a set in a list, where its track numbers begin at `first`.
module _ {M : Type 0} (counts : M → Bool) (none : M) (sh : Shape) (marks : List M) (s : TrackSet) (first : ℕ) (e : first ≡ track_number sh s 0) where
  abbrev pub read : ℕ → Bool
  read u = counts (get_or marks (first + u) none)

  marked_from : (u : ℕ) → read u ≡ marked_by counts none sh marks s u
  marked_from u = ap (λ (k : ℕ). counts (get_or marks k none)) (omega (arith, e, number_from sh s u))

  -- There are three at the most.
  pub three_at_most : flag_count sh (marked_by counts none sh marks) s ≤ 3 → (t : ℕ) → t < tracks sh s → count (suc t) read ≤ 3
  unfolding flag_count
  three_at_most h t l = omega (arith, count_le read (suc t) (tracks sh s) (omega arith), sum_same (tracks sh s) _ _ (λ u h. ap bit (marked_from u)))

  -- The newest of all of them.
  pub newest_of : {n : ℕ} {i j k : Option ℕ} → n ≡ tracks sh s → Newest read n i j k → Newest (marked_by counts none sh marks s) (tracks sh s) i j k
  newest_of d n = newest_by marked_from (rw d at n)

-- The plans of all tracks' marks.
module _ (sh : Shape) (f : TrackFlags) (s : TrackSet) (i j k : Option ℕ) (n : Newest (f s) (tracks sh s) i j k) where
  -- What a plan that names i, j and k leaves is not flagged.
  others : (p : Plan) → ((t : ℕ) → (i ≡ Some t → Named p t) × (j ≡ Some t → Named p t) × (k ≡ Some t → Named p t)) →
      (t : ℕ) → t < tracks sh s → (Named p t → ⊥) → f s t ≡ false
  others p h t l d = n.rest t l (λ e. d ((h t).0 e)) (λ e. d ((h t).1 e)) (λ e. d ((h t).2 e))

  -- Each of the three is a flagged track or none.
  abbrev Flagged : Option ℕ → Type 0
  Flagged v = (t : ℕ) → v ≡ Some t → (t < tracks sh s) × (f s t ≡ true)

  k_flag : Flagged k
  k_flag t e = let m = n.k_mark t e in (m.0, m.1)

  j_flag : Flagged j
  j_flag t e = let m = n.j_mark t e in let o = n.k_mark m.0.0 m.0.1 in (omega (arith, m.0.2, o.0), m.1)

  i_flag : Flagged i
  i_flag t e = let m = n.i_mark t e in let o = j_flag m.0.0 m.0.1 in (omega (arith, m.0.2, o.0), m.1)

  -- So is what a plan of them names.
  flagged : (p : Plan) → Flagged p.low → Flagged p.high → Flagged p.last → (t : ℕ) → Named p t → (t < tracks sh s) × (f s t ≡ true)
  flagged p a b c t (is_low e) = a t e
  flagged p a b c t (is_high e) = b t e
  flagged p a b c t (is_last e) = c t e

  -- A track below another one is not that one.
  below_not : {v : Option ℕ} {a t : ℕ} → v ≡ Some a → t < a → v ≡ Some t → ⊥
  below_not h l e = omega (arith, same_track h e)

  above_not : {v : Option ℕ} {a t : ℕ} → v ≡ Some a → a < t → v ≡ Some t → ⊥
  above_not h l e = omega (arith, same_track h e)

  -- Two marks at the most.
  pub plan_two : i ≡ None → Planned sh f s (record { low = j; high = None; last = k })
  plan_two e = record {
    exist = λ t h. (flagged p j_flag none k_flag t h).0;
    flagged = λ t h. (flagged p j_flag none k_flag t h).1;
    others = others p (λ t. (λ h. absurd (no_track e h), is_low, is_last));
    low_data = λ b h. let m = n.j_mark b h in let o = n.k_mark m.0.0 m.0.1 in omega (arith, m.0.2, o.0);
    below = λ b h t l. let m = (n.j_mark b h).0 in n.rest t (omega (arith, (j_flag b h).0)) (no_track e) (below_not h l) (below_not m.1 (omega (arith, m.2)));
    high_data = λ c h. absurd (no_track refl h);
    above = λ c h. absurd (no_track refl h);
  }
    where
      p : Plan
      p = record { low = j; high = None; last = k }

      none : Flagged None
      none t h = absurd (no_track refl h)

  pub fills_two : Fills sh f s (record { low = j; high = None; last = k })
  unfolding flag_count
  fills_two = record { two = λ b h. (n.j_mark b h).2; three = λ c h. absurd (no_track refl h) }

  -- Three marks: they are in order.
  module _ (a : ℕ) (e : i ≡ Some a) where
    abbrev b : ℕ
    b = (n.i_mark a e).0.0

    abbrev is_b : j ≡ Some b
    is_b = (n.i_mark a e).0.1

    abbrev c : ℕ
    c = (n.j_mark b is_b).0.0

    abbrev is_c : k ≡ Some c
    is_c = (n.j_mark b is_b).0.1

    order : (a < b) × (b < c) × (c < tracks sh s)
    order = ((n.i_mark a e).0.2, (n.j_mark b is_b).0.2, (k_flag c is_c).0)

    pub fills_three : (p : Plan) → Fills sh f s p
    unfolding flag_count
    fills_three p = let m = (n.i_mark a e).2 in record { two = λ _ _. omega (arith, m); three = λ _ _. m }

    below_three : (v : ℕ) → i ≡ Some v → (t : ℕ) → t < v → f s t ≡ false
    below_three v h t l =
        let d : a ≡ v = same_track e h in
        n.rest t (omega (arith, order)) (below_not h l) (below_not is_b (omega (arith, order))) (below_not is_c (omega (arith, order)))

    -- The highest of three is the vertical track.
    pub plan_vertical : k ≡ Some (suc (data_tracks sh s)) → Planned sh f s (record { low = i; high = j; last = k })
    plan_vertical top = record {
      exist = λ t h. (flagged p i_flag j_flag k_flag t h).0;
      flagged = λ t h. (flagged p i_flag j_flag k_flag t h).1;
      others = others p (λ t. (is_low, is_high, is_last));
      low_data = λ v h. omega (arith, order, same_track e h);
      below = below_three;
      high_data = λ v h. let d : b ≡ v = same_track is_b h in ((a, e, omega (arith, order)), omega (arith, order));
      above = λ v h t l m. let d : b ≡ v = same_track is_b h in
          n.rest t (omega arith) (above_not e (omega (arith, order))) (above_not h l) (below_not top (omega arith));
    }
      where
        p : Plan
        p = record { low = i; high = j; last = k }

    -- It is another track.
    pub plan_three : (k ≡ Some (suc (data_tracks sh s)) → ⊥) → Planned sh f s (record { low = i; high = k; last = j })
    plan_three not_top = record {
      exist = λ t h. (flagged p i_flag k_flag j_flag t h).0;
      flagged = λ t h. (flagged p i_flag k_flag j_flag t h).1;
      others = others p (λ t. (is_low, is_last, is_high));
      low_data = λ v h. omega (arith, order, same_track e h);
      below = below_three;
      high_data = λ v h. let d : c ≡ v = same_track is_c h in ((a, e, omega (arith, order)), omega (arith, order, under));
      above = λ v h t l m. let d : c ≡ v = same_track is_c h in
          n.rest t (omega arith) (above_not e (omega (arith, order))) (above_not is_b (omega (arith, order))) (above_not h l);
    }
      where
        p : Plan
        p = record { low = i; high = k; last = j }

        under : c ≤ data_tracks sh s
        under = by_cases (dec_le c (data_tracks sh s)) (λ h. h) (λ h. absurd (not_top (is_c ∙ ap Some (omega (arith, order)))))
