-- Two tracks below the pivots: where the diagonals meet their pairs.
use mathlib.Core.Path.{◌≡◌, refl}
use mathlib.Core.Logic.{◌≢◌, ⊎_elim, by_cases}
use Prim.Native.Nat.{ℕ, zero, suc, ◌+◌, ◌-◌, ◌<◌, ◌≤◌}
use native.Mathlib.Decide.{dec_le}
use native.Mathlib.Omega.{arith}
use Rattle.code.specs.declared.sizes.TrackSet.{TrackSet}
use Rattle.code.specs.declared.sizes.TrackSet.TheVariants.{A, B}
use Rattle.code.specs.Record.{other, Shape, data_tracks, lag, track_length}
use Rattle.code.proofs.Cell.{lag_sets}
use Rattle.code.proofs.OneTrack.{offset, offset_vertical, offset_both}
use Rattle.plans.specs.declared.Form.{Form}
use Rattle.plans.specs.Plans.{pivot, Sized, count, v_of, u_of}
use Rattle.forms.specs.Forms.{Below, top, point}
use Rattle.forms.specs.Found.{extent}
use Rattle.forms.proofs.Lows.{form_order}
use Rattle.forms.proofs.Pivots.{point_own, point_across, kinds, top_within}

pub extent_fits : (sh : Shape) (w t : ℕ) → w ≤ track_length sh → t ≤ lag sh → extent sh w t + t ≤ track_length sh
extent_fits sh w zero h l = omega arith
extent_fits sh w (suc t) h l = omega arith

-- Where w is past the data, no track reaches past it.
pub extent_below : (sh : Shape) (w t : ℕ) → sh.positions ≤ w → extent sh w t ≤ w
extent_below sh w zero h = omega arith
extent_below sh w (suc t) h = h

-- Where track 0 is before w, what is past the extent is the tail of a data track.
pub past_extent : (sh : Shape) (w t m : ℕ) → extent sh w t ≤ m → (t ≡ 0 → m < w) → (1 ≤ t) × (sh.positions ≤ m)
past_extent sh w zero m l h = absurd (omega (arith, h refl))
past_extent sh w (suc t) m l h = (omega arith, l)

-- A data track reaches to the tail.
pub extent_data : (sh : Shape) (w t : ℕ) → 1 ≤ t → extent sh w t ≡ sh.positions
extent_data sh w zero h = absurd (omega arith)
extent_data sh w (suc t) h = refl

top_rises : (sh : Shape) (s : TrackSet) (t u j : ℕ) → Below sh s t j → Below sh s u j → t < u → top sh s t j ≤ top sh s u j
top_rises sh s t u j w w' l = ⊎_elim
    (λ k. ⊎_elim (λ h. omega arith) (λ h. omega arith) (kinds sh u j s))
    (λ k. omega (arith, top_within sh u j s w'))
    (kinds sh t j s)

-- The numbers of a form with v in s and u in q, u being wrong before r: with v's pair eliminated, u's counts again a stride later, both
-- diagonals being within the record, the other set's meeting u's pair first; and the diagonal of s at m + v meets u and its pivot before m,
-- track 0 before the tail.
pub record Strides (sh : Shape) (s : TrackSet) (v j : ℕ) (q : TrackSet) (u i r : ℕ) : Type 0 where
  pub later : point sh (other s) q u i + v < point sh (other s) s v j + point sh s q u i
  pub ahead_fits : r + point sh (other s) q u i ≤ track_length sh
  pub across_fits : r + point sh (other s) q u i + v ≤ track_length sh + point sh (other s) s v j
  pub ahead_first : point sh (other s) q u i ≤ point sh (other s) s v j
  pub track_met : v < offset sh s q u
  pub zero_met : u ≡ 0 → offset sh s q u ≡ lag sh
  pub pivot_met : v < offset sh s q i

module _ (sh : Shape) (v u w : ℕ) (within : w ≤ track_length sh) where
  same_set : (s : TrackSet) (j : ℕ) → Below sh s v j → Below sh s u j → v < u → Strides sh s v j s u j (extent sh w u)
  same_set s j bv bu l =
      let a = (point_across sh s u j).0 in
      let b = (point_across sh s v j).0 in
      let c = point_own sh s u j in
      let hu = top_within sh u j s bu in
      let hv = top_within sh v j s bv in
      let r = top_rises sh s v u j bv bu l in
      let e = extent_data sh w u (omega arith) in
      let n = lag_sets sh s in
      record {
        later = omega arith;
        ahead_fits = omega arith;
        across_fits = omega arith;
        ahead_first = omega arith;
        track_met = omega (arith, offset_both sh s u bu.on_diagonals);
        zero_met = λ z. absurd (omega arith);
        pivot_met = by_cases (dec_le j (data_tracks sh s))
            (λ k. omega (arith, offset_both sh s j k))
            (λ k. omega (arith, offset_vertical sh s s j (omega arith)));
      }

  two_sets : (s : TrackSet) (j i : ℕ) → Below sh s v j → Below sh (other s) u i → data_tracks sh s ≤ data_tracks sh (other s) →
      offset sh s (other s) u ≡ lag sh - u → (i ≤ data_tracks sh (other s) → offset sh s (other s) i ≡ lag sh - i) →
      Strides sh s v j (other s) u i (extent sh w u)
  two_sets s j i bv bu few ou oi =
      let a = point_own sh (other s) u i in
      let b = (point_across sh s v j).0 in
      let c = (point_across sh s u i).1 in
      let hu = top_within sh u i (other s) bu in
      let hv = top_within sh v j s bv in
      let n = lag_sets sh s in
      let e = extent_fits sh w u within (omega arith) in
      record {
        later = omega arith;
        ahead_fits = omega arith;
        across_fits = omega arith;
        ahead_first = omega arith;
        track_met = omega arith;
        zero_met = λ z. omega arith;
        pivot_met = by_cases (dec_le i (data_tracks sh (other s)))
            (λ k. omega (arith, oi k))
            (λ k. omega (arith, offset_vertical sh s (other s) i (omega arith)));
      }

  strides : (s q : TrackSet) (j : TrackSet → ℕ) → Below sh s v (j s) → Below sh q u (j q) → (q ≡ s → v < u) → (q ≢ s → data_tracks sh s ≤ data_tracks sh q) →
      Strides sh s v (j s) q u (j q) (extent sh w u)
  strides A A j bv bu rising fewer = same_set A (j A) bv bu (rising refl)
  strides A B j bv bu rising fewer = two_sets A (j A) (j B) bv bu (fewer (λ e. let z : ◌≡◌ {A = ℕ} 0 1 = cc in omega arith))
      (offset_both sh B u bu.on_diagonals).1 (λ k. (offset_both sh B (j B) k).1)
  strides B A j bv bu rising fewer = two_sets B (j B) (j A) bv bu (fewer (λ e. let z : ◌≡◌ {A = ℕ} 0 1 = cc in omega arith))
      (offset_both sh A u bu.on_diagonals).1 (λ k. (offset_both sh A (j A) k).1)
  strides B B j bv bu rising fewer = same_set B (j B) bv bu (rising refl)

-- Those of a form.
pub form_strides : (sh : Shape) (end : ℕ) (p : Form) → Sized sh p → end ≤ track_length sh → 2 ≤ count p →
    Strides sh (v_of p).s (v_of p).t (pivot p (v_of p).s) (u_of p).s (u_of p).t (pivot p (u_of p).s) (extent sh end (u_of p).t)
form_strides sh end p sized within h =
    let o = form_order sh p sized in
    strides sh (v_of p).t (u_of p).t end within (v_of p).s (u_of p).s (pivot p) (o.v_below (omega arith)) (o.u_below h) (o.rising h)
    (λ n. sized.fewer h n)
