-- One cell is settled.
use mathlib.Core.Path.{◌≡◌, refl, sym, ap, ◌∙◌}
use mathlib.Core.Logic.{◌≢◌, by_cases}
use mathlib.Core.List.{List}
use Prim.Native.Nat.{ℕ, zero, suc, ◌+◌, ◌*◌, ◌-◌, ◌/◌, ◌<◌, ◌≤◌, ◌%◌}
use native.Mathlib.Decide.{ℕ_discrete}
use native.Mathlib.Omega.{arith}
use borrow.Author.Tests.{lt-ltb, le-ltb}
use lib.Arith.{digits_div, digits_mod}
use lib.ListN.{length, get_or}
use lib.Seq.{get_or-set_same, get_or-set_other}
use Rattle.std.specs.Prelude.{Option, Some, None, IfSome}
use Rattle.code.specs.declared.sizes.TrackSet.{TrackSet}
use Rattle.code.specs.declared.sizes.TrackSet.TheVariants.{A, B}
use Rattle.code.specs.Record.{other, row_of, Shape, data_tracks, tracks, lag, track_length, Cells}
use Rattle.code.specs.Image.{track_number, cells}
use Rattle.code.specs.Sizes.{shape}
use Rattle.code.specs.declared.sizes.Sizes.{Sizes}
use Rattle.code.proofs.Places.{cell_lt}
use Rattle.syndrome.specs.Syndrome.{Kept, IsCell, CellAdded, index, turned}
use Rattle.solver.specs.declared.Rule.{Rule}
use Rattle.solver.specs.declared.Rule.TheVariants.{Own, Other, Vertical}
use Rattle.solver.specs.declared.Way.{Way}
use Rattle.solver.specs.Steps.{Settled, sum_by, tail_sum, TailBit, By, Still}
use Rattle.solver.specs.Ways.{sums_from, IsWay, WayOf, track_of, read_sum}
use Rattle.solver.proofs.Sets.{same_track, no_track, track_is, same_tracks}

-- ## Cells apart

-- Two sets are the same or not.
set_discrete : (r s : TrackSet) → Dec (r ≡ s)
set_discrete A A = yes refl
set_discrete A B = no (λ e. cc)
set_discrete B A = no (λ e. cc)
set_discrete B B = yes refl

-- A cell is that of a track at p or not.
same_cell : {P : Type 0} (r s : TrackSet) (u : ℕ) (track : Option ℕ) (q p : ℕ) → (r ≡ s → track ≡ Some u → q ≡ p → P) →
    ((r ≡ s → track ≡ Some u → q ≡ p → ⊥) → P) → P
same_cell r s u track q p a b = by_cases (set_discrete r s)
    (λ e. by_cases (track_is track u) (λ f. by_cases (ℕ_discrete q p) (a e f) (λ d. b (λ _ _. d))) (λ d. b (λ _ f _. d f)))
    (λ d. b (λ e _ _. d e))

-- Tracks with the same number are the same.
same_number : (sh : Shape) (r s : TrackSet) (u t : ℕ) → u < tracks sh r → t < tracks sh s → track_number sh r u ≡ track_number sh s t → (r ≡ s) × (u ≡ t)
same_number sh A A u t h k e = (refl, e)
same_number sh A B u t h k e = absurd (omega arith)
same_number sh B A u t h k e = absurd (omega arith)
same_number sh B B u t h k e = (refl, omega arith)

-- Cells with the same index are the same.
index_apart : (sh : Shape) (r s : TrackSet) (u t q p : ℕ) → u < tracks sh r → t < tracks sh s → q < track_length sh → p < track_length sh →
    (r ≡ s → u ≡ t → q ≡ p → ⊥) → track_number sh r u * track_length sh + q ≢ track_number sh s t * track_length sh + p
index_apart sh r s u t q p h k b c d e =
    let l : ℕ = track_length sh in
    let n = same_number sh r s u t h k (sym (digits_div (track_number sh r u) b) ∙ ap (λ (i : ℕ). i / l) e ∙ digits_div (track_number sh s t) c) in
    d n.0 n.1 (sym (digits_mod (track_number sh r u) b) ∙ ap (λ (i : ℕ). i % l) e ∙ digits_mod (track_number sh s t) c)

-- ## Settled cells

-- A cell that is turned over.
settled_turned : {z : Sizes} {s : TrackSet} {t p : ℕ} {out after syn syn' : List ℕ} → Kept z out syn → IsCell z s t p →
    after ≡ turned z s t p out → Kept z after syn' → Settled z s (Some t) p (λ _. 1) out after syn'
settled_turned {z} {s} {t} {p} {out} k i e k' = record {
  kept = k';
  here = λ u d _. rw (sym (same_track refl d)) (ap (λ (o : List ℕ). get_or o (index z s t p) 0) e
      ∙ get_or-set_same out (index z s t p) (1 - get_or out (index z s t p) 0) 0 inside ∙ omega (arith, k.image.bits (index z s t p)));
  there = λ r u q h b d. ap (λ (o : List ℕ). get_or o (track_number (shape z) r u * track_length (shape z) + q) 0) e
      ∙ get_or-set_other out (index z s t p) _ (1 - get_or out (index z s t p) 0) 0
      (index_apart (shape z) r s u t q p h i.track_small b i.position_small (λ j f. d j (ap Some (sym f))));
}
  where
    inside : index z s t p < length out
    inside = omega (arith, cell_lt (shape z) s t p i.track_small i.position_small, k.image.size)

-- A cell that is left as it is.
settled_same : {z : Sizes} {s : TrackSet} {t p : ℕ} {out syn : List ℕ} → Kept z out syn → Settled z s (Some t) p (λ _. 0) out out syn
settled_same {z} {s} {p = p} k = record {
  kept = k;
  here = λ u _ _. omega (arith, k.image.bits (index z s u p));
  there = λ r u q h b n. refl;
}

-- No cell.
pub settled_none : {z : Sizes} {s : TrackSet} {track : Option ℕ} {p : ℕ} {d : ℕ → ℕ} {out syn : List ℕ} → Kept z out syn →
    ((t : ℕ) → track ≡ Some t → t < tracks (shape z) s → ⊥) → Settled z s track p d out out syn
settled_none k n = record { kept = k; here = λ t e l. absurd (n t e l); there = λ r u q h b d. refl }

-- A cell to which a bit is added.
pub settled_added : {z : Sizes} {s : TrackSet} {t p : ℕ} {out after syn syn' : List ℕ} (w : ℕ) → w < 2 → Kept z out syn → IsCell z s t p →
    CellAdded z s t p w out after syn' → Settled z s (Some t) p (λ _. w) out after syn'
settled_added zero h k i c = rw (c.zero refl) (settled_same (rw (c.zero refl) at c.kept))
settled_added (suc zero) h k i c = settled_turned k i (c.one refl) c.kept
settled_added (suc (suc w)) h k i c = absurd (omega arith)

-- By another sum of the same parity, of the same track.
pub settled_by : {z : Sizes} {s : TrackSet} {track track' : Option ℕ} {p : ℕ} {d : ℕ → ℕ} {out after syn : List ℕ} (d' : ℕ → ℕ) →
    Settled z s track p d out after syn → ((t : ℕ) → track ≡ Some t → track' ≡ Some t) →
    ((t : ℕ) → track' ≡ Some t → t < tracks (shape z) s → (track ≡ Some t) × (d t % 2 ≡ d' t % 2)) → Settled z s track' p d' out after syn
settled_by d' w n e = record {
  kept = w.kept;
  here = λ t h l. let i = e t h l in w.here t i.0 l ∙ omega (arith, i.1);
  there = λ r u q l b m. w.there r u q l b (λ i j k. m i (n u j) k);
}

-- A bit that is a sum modulo 2.
pub settled_sum : {z : Sizes} {s : TrackSet} {t p w : ℕ} {out after syn : List ℕ} (d : ℕ → ℕ) → w ≡ d t % 2 →
    Settled z s (Some t) p (λ _. w) out after syn → Settled z s (Some t) p d out after syn
settled_sum d e v = settled_by d v (λ u h. h) (λ u h l. (h, rw (sym (same_track refl h)) (omega (arith, e))))

-- ## Cells settled by a syndrome

module _ {z : Sizes} {s : TrackSet} {out syn : List ℕ} (k : Kept z out syn) where
  -- A way's syndrome is there.
  pub way_in : {w : Way} (rule : Rule) (p : ℕ) → IsWay z s rule w → p < z.positions → w.sums + p < length syn
  way_in rule p i h = omega (arith, i.sums, k.holds.size, go s rule i.track)
    where
      go : (c : TrackSet) (r : Rule) {t : ℕ} → t < tracks (shape z) c → sums_from r z c t + p < 4 * track_length (shape z)
      go A Own l = omega arith
      go B Own l = omega arith
      go A Other l = omega arith
      go B Other l = omega arith
      go A Vertical l = omega arith
      go B Vertical l = omega arith

  -- It is the sum of its rule.
  way_sum : (rule : Rule) (w : Way) (p : ℕ) → IsWay z s rule w → p < z.positions →
      get_or syn (w.sums + p) 0 ≡ sum_by rule (shape z) (cells (shape z) out) s w.t p % 2
  way_sum Own w p i h = ap (λ (m : ℕ). get_or syn m 0) (omega (arith, i.sums)) ∙ k.holds.diagonals s (p + w.t) (on s i.track)
    where
      on : (c : TrackSet) → w.t < tracks (shape z) c → p + w.t < track_length (shape z)
      on A l = omega arith
      on B l = omega arith
  way_sum Other w p i h = ap (λ (m : ℕ). get_or syn m 0) (omega (arith, i.sums)) ∙ k.holds.diagonals (other s) (p + (lag (shape z) - w.t)) (omega arith)
  way_sum Vertical w p i h = ap (λ (m : ℕ). get_or syn m 0) (omega (arith, i.sums)) ∙ k.holds.verticals s p (omega arith)

  -- A way goes by its rule.
  pub settled_way : {after syn' : List ℕ} (rule : Rule) (way : Option Way) (p : ℕ) → IfSome way (λ w. IsWay z s rule w) → p < z.positions →
      Settled z s (track_of way) p (λ t. read_sum syn way p) out after syn' → By rule z s (track_of way) p out after syn'
  settled_way rule None p i h v = settled_by _ v (λ t e. e) (λ t e. absurd (no_track refl e))
  settled_way rule (Some w) p i h v = settled_sum _ (way_sum rule w p i h) v

-- The way of a plan's track settles that track's cell.
pub settled_found : {z : Sizes} {s : TrackSet} {rule : Rule} {track : Option ℕ} {way : Option Way} {p : ℕ} {d : ℕ → ℕ} {out after syn : List ℕ} →
    WayOf z s rule track way → Settled z s (track_of way) p d out after syn → Settled z s track p d out after syn
settled_found o w = settled_by _ w o.of (λ t e l. (o.found t e l, refl))

-- The ways of a plan are those of its tracks.
pub way_track : {z : Sizes} {s : TrackSet} {rule : Rule} {track : Option ℕ} {way : Option Way} → WayOf z s rule track way →
    ((t : ℕ) → track ≡ Some t → t < tracks (shape z) s) → track_of way ≡ track
way_track o h = same_tracks _ _ o.of (λ t e. o.found t e (h t e))

-- ## Cells of the tail

module _ {z : Sizes} {s : TrackSet} {out syn : List ℕ} (k : Kept z out syn) where
  -- Track 0, the data tracks and the vertical track.
  pub bit_check : {t p : ℕ} → t ≡ 0 → p < track_length (shape z) → TailBit z s t p out (get_or syn (row_of s * track_length (shape z) + p) 0)
  unfolding tail_sum
  bit_check {t = t} {p = p} e h = rw e (record { bit = k.holds.bits _; sum = k.holds.diagonals s p h })

  pub bit_zero : {t p : ℕ} → t ≢ 0 → t ≤ data_tracks (shape z) s → TailBit z s t p out (cells (shape z) out s t p)
  unfolding tail_sum
  bit_zero {t = zero} d h = absurd (d refl)
  bit_zero {t = suc t} {p = p} d h = record {
    bit = k.image.bits (index z s (suc t) p);
    sum = rw (lt-ltb t (data_tracks (shape z) s) h) (omega (arith, k.image.bits (index z s (suc t) p)));
  }

  pub bit_top : {t p : ℕ} → data_tracks (shape z) s < t → p < track_length (shape z) →
      TailBit z s t p out (get_or syn ((2 + row_of s) * track_length (shape z) + p) 0)
  unfolding tail_sum
  bit_top {t = zero} h b = absurd (omega arith)
  bit_top {t = suc t} {p = p} h b = record { bit = k.holds.bits _; sum = rw (le-ltb t (data_tracks (shape z) s) (omega arith)) (k.holds.verticals s p b) }

-- ## Right cells

-- The cell that was settled is y's, so all that was right is right.
pub record RightCell (sh : Shape) (y x x' : Cells) (s : TrackSet) (track : Option ℕ) (p : ℕ) : Type 0 where
  pub still : Still sh y x x'
  pub cell : (t : ℕ) → track ≡ Some t → t < tracks sh s → x' s t p ≡ y s t p

pub right_cell : {z : Sizes} {s : TrackSet} {track : Option ℕ} {p : ℕ} {d : ℕ → ℕ} {out after syn : List ℕ} (y : Cells) →
    Settled z s track p d out after syn →
    ((t : ℕ) → track ≡ Some t → t < tracks (shape z) s → y s t p ≡ (cells (shape z) out s t p + d t) % 2) →
    RightCell (shape z) y (cells (shape z) out) (cells (shape z) after) s track p
right_cell {z} {s} {track} {p} {d} {out} {after} y w h = record {
  still = record { cell = λ r u q l b e. same_cell r s u track q p (λ i j k. rw (i, k) (now u j (rw i at l))) (λ n. w.there r u q l b n ∙ e) };
  cell = now;
}
  where
    now : (t : ℕ) → track ≡ Some t → t < tracks (shape z) s → cells (shape z) after s t p ≡ y s t p
    now t e l = w.here t e l ∙ sym (h t e l)
