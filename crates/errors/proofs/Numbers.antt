-- The code's numbers: of delays, of points and gaps, and of a form with two tracks below the pivots.
use mathlib.Core.Path.{◌≡◌, refl, sym, ap}
use mathlib.Core.Logic.{◌≢◌, ⊎_elim}
use Prim.Native.Nat.{ℕ, ◌+◌, ◌-◌, ◌<◌, ◌≤◌}
use native.Mathlib.Omega.{arith}
use Rattle.code.specs.declared.sizes.TrackSet.{TrackSet}
use Rattle.code.specs.declared.sizes.TrackSet.TheVariants.{A, B}
use Rattle.code.specs.Record.{other, Shape, data_tracks, lag, track_length}
use Rattle.code.specs.Heads.{slope}
use Rattle.code.specs.Sizes.{shape}
use Rattle.code.specs.declared.sizes.Sizes.{Sizes}
use Rattle.code.proofs.Cell.{lag_sets}
use Rattle.code.proofs.OneTrack.{offset_both}
use Rattle.plans.specs.declared.Track.{Track}
use Rattle.plans.specs.declared.Below.{Below}
use Rattle.plans.specs.declared.Below.TheVariants.{None as Clear, One, Two}
use Rattle.plans.specs.declared.Form.{Form}
use Rattle.plans.specs.Plans.{below_count, below_v, below_u, pivot, Sized, count, v_of, u_of}
use Rattle.forms.specs.Forms.{gap, top, point}
use Rattle.forms.specs.Found.{extent, ahead, across, along}
use Rattle.forms.proofs.Lows.{form_order}
use Rattle.forms.proofs.Pivots.{point_own, point_across, kinds}
use Rattle.forms.proofs.Strides.{Strides, form_strides}
use Rattle.errors.specs.Rows.{Delay, GapOf}

pub data_seven : (z : Sizes) (s : TrackSet) → data_tracks (shape z) s ≤ 7
data_seven z A = z.t1_small
data_seven z B = z.t2_small

-- Two sets that are not the same.
pub other_set : (d s : TrackSet) → s ≢ d → d ≡ other s
other_set A A n = absurd (n refl)
other_set A B n = refl
other_set B A n = refl
other_set B B n = absurd (n refl)

-- ## Delays, on the diagonal of the track's own set and on the other one

delay_own : (sh : Shape) (s : TrackSet) (t : ℕ) → t ≤ data_tracks sh s → Delay sh s s t t
delay_own sh s t h = record {
  near = λ l. omega (arith, (offset_both sh s t h).0);
  small = λ l. omega (arith, lag_sets sh s);
  far = λ l. absurd (omega arith);
}

delay_other : (sh : Shape) (s : TrackSet) (t : ℕ) → t ≤ data_tracks sh s → Delay sh (other s) s t (lag sh - t)
delay_other sh s t h = record {
  near = λ l. omega (arith, (offset_both sh s t h).1);
  small = λ l. omega arith;
  far = λ l. absurd (omega arith);
}

pub delay_is : (sh : Shape) (d s : TrackSet) (t : ℕ) → t ≤ data_tracks sh s → Delay sh d s t (slope sh d s t)
delay_is sh A A t h = delay_own sh A t h
delay_is sh A B t h = delay_other sh B t h
delay_is sh B A t h = delay_other sh A t h
delay_is sh B B t h = delay_own sh B t h

-- ## Points

pub point_same : (sh : Shape) (d s : TrackSet) (t j : ℕ) → s ≡ d → t ≡ point sh d s t j
point_same sh d s t j e = rw e (sym (point_own sh d t j))

-- The point on the other set's diagonal.
pub point_other : (sh : Shape) (d s : TrackSet) (t j : ℕ) → s ≢ d → point sh d s t j ≡ lag sh - top sh s t j
point_other sh d s t j n = rw (other_set d s n) (point_across sh s t j).0

module _ (sh : Shape) (s : TrackSet) (t j : ℕ) where
  pub top_pivot : j ≤ data_tracks sh s → top sh s t j ≡ j
  top_pivot h = ⊎_elim (λ k. k.2) (λ k. absurd (omega arith)) (kinds sh t j s)

  pub top_track : data_tracks sh s < j → top sh s t j ≡ t
  top_track h = ⊎_elim (λ k. absurd (omega arith)) (λ k. k.2) (kinds sh t j s)

  -- What stands for the gap: a word, where the pivot is not met, and else the difference.
  pub gap_far : data_tracks sh s < j → GapOf sh (gap sh s t j) 64
  gap_far h = record {
    positive = omega arith;
    near = λ l. absurd (omega arith);
    far = λ l. ⊎_elim (λ k. absurd (omega arith)) (λ k. omega arith) (kinds sh t j s);
  }

  pub gap_near : t < j → j ≤ data_tracks sh s → data_tracks sh s ≤ 7 → GapOf sh (gap sh s t j) (j - t)
  gap_near l h small = record {
    positive = omega arith;
    near = λ b. ⊎_elim (λ k. omega arith) (λ k. absurd (omega arith)) (kinds sh t j s);
    far = λ b. absurd (omega arith);
  }

-- ## The tracks below the pivots

-- There is one, or there are two.
pub one_track : (p : Form) (v : Track) → p.below ≡ One v → (count p ≡ 1) × (v ≡ v_of p)
one_track p v e = (ap below_count e, sym (ap below_v e))

pub two_tracks : (p : Form) (v u : Track) → p.below ≡ Two v u → (count p ≡ 2) × (v ≡ v_of p) × (u ≡ u_of p)
two_tracks p v u e = (ap below_count e, sym (ap below_v e), sym (ap below_u e))

pub not_two : (p : Form) → ((v u : Track) → p.below ≡ Two v u → ⊥) → count p < 2
not_two p n = go p.below n
  where
    go : (b : Below) → ((v u : Track) → b ≡ Two v u → ⊥) → below_count b < 2
    go Clear n = omega arith
    go (One v) n = omega arith
    go (Two v u) n = absurd (n v u refl)

-- v reaches no further than the data tracks.
pub v_seven : (z : Sizes) (p : Form) → Sized (shape z) p → 1 ≤ count p → (v : Track) → v ≡ v_of p → v.t ≤ 7
v_seven z p w l v e = omega (arith, ap (λ x. x.t) e, data_seven z (v_of p).s, ((form_order (shape z) p w).v_below l).on_diagonals)

-- The points of two.
pub record Numbers (z : Sizes) (end : ℕ) (p : Form) (v : Track) (a b c : ℕ) : Type 0 where
  pub a_is : a ≡ ahead (shape z) end p
  pub b_is : b ≡ across (shape z) end p
  pub c_is : c ≡ along (shape z) end p
  pub later : a + v.t < b + c
  pub met : Strides (shape z) (v_of p).s (v_of p).t (pivot p (v_of p).s) (u_of p).s (u_of p).t (pivot p (u_of p).s) (extent (shape z) end (u_of p).t)

pub numbers : (z : Sizes) (end : ℕ) (p : Form) → end ≤ track_length (shape z) → Sized (shape z) p → (v u : Track) → p.below ≡ Two v u →
    (o : TrackSet) → o ≡ other v.s → (a b c : ℕ) →
    a ≡ point (shape z) o u.s u.t (pivot p u.s) → b ≡ point (shape z) o v.s v.t (pivot p v.s) → c ≡ point (shape z) v.s u.s u.t (pivot p u.s) →
    Numbers z end p v a b c
numbers z end p h w v u two o eo a b c ea eb ec =
    let k = two_tracks p v u two in
    let met = form_strides (shape z) end p w h (omega arith) in
    let a_is = rw (eo, k.1, k.2) at ea in
    let b_is = rw (eo, k.1) at eb in
    let c_is = rw (k.1, k.2) at ec in
    record { a_is = a_is; b_is = b_is; c_is = c_is; later = omega (arith, met.later, ap (λ x. x.t) k.1); met = met }
