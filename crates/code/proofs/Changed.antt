-- Changed cells, mask and extras depend on the records' own cells alone.
use mathlib.Core.Path.{◌≡◌, refl, ap, ap₂}
use mathlib.Core.Bool.{◌&&◌, not}
use Prim.Native.Nat.{ℕ, zero, suc, ◌+◌, ◌<◌, ◌≤◌}
use native.Mathlib.Omega.{arith}
use lib.Dec.{eqb}
use Rattle.code.specs.Record.{TrackSet, A, B, Shape, tracks, track_length, Cells, Same}
use Rattle.code.specs.Image.{track_number}
use Rattle.code.specs.Flags.{TrackFlags}
use Rattle.code.specs.Reach.{pick, Extra, extra}
use Rattle.code.specs.Calls.{differ, changed_in, over_tracks, changed_cells, mask_bit, changed_mask, changed_extra, mended}
use Rattle.code.proofs.Sums.{sum_same}

module _ (sh : Shape) (x x' y y' : Cells) (ex : Same sh x x') (ey : Same sh y y') where
  pub changed_in_same : (s : TrackSet) (t : ℕ) → t < tracks sh s → changed_in sh x y s t ≡ changed_in sh x' y' s t
  unfolding changed_in
  changed_in_same s t l = sum_same (track_length sh) _ _ (λ m b. ap₂ differ (ex.cell s t m l b) (ey.cell s t m l b))

  over_same : (f g : TrackSet → ℕ → ℕ) → ((s : TrackSet) (t : ℕ) → t < tracks sh s → f s t ≡ g s t) → over_tracks sh f ≡ over_tracks sh g
  over_same f g h = ap₂ ◌+◌ (sum_same (tracks sh A) (f A) (g A) (h A)) (sum_same (tracks sh B) (f B) (g B) (h B))

  pub changed_cells_same : changed_cells sh x y ≡ changed_cells sh x' y'
  unfolding changed_cells
  changed_cells_same = over_same (changed_in sh x y) (changed_in sh x' y') changed_in_same

  pub changed_mask_same : changed_mask sh x y ≡ changed_mask sh x' y'
  unfolding changed_mask
  changed_mask_same = over_same
      (λ s t. mask_bit (track_number sh s t) (changed_in sh x y s t))
      (λ s t. mask_bit (track_number sh s t) (changed_in sh x' y' s t))
      (λ s t l. ap (mask_bit (track_number sh s t)) (changed_in_same s t l))

  -- Flags that say the same of the record's tracks name the same.
  pub changed_extra_same : (f g : TrackFlags) (s : TrackSet) → ((t : ℕ) → t < tracks sh s → f s t ≡ g s t) → (k : ℕ) → k ≤ tracks sh s →
      changed_extra sh f x y s k ≡ changed_extra sh g x' y' s k
  unfolding changed_extra
  changed_extra_same f g s e zero l = refl
  changed_extra_same f g s e (suc t) l =
      let rest = changed_extra_same f g s e t (omega arith) in
      λ i. pick (not (e t l i) && not (eqb (changed_in_same s t l i) 0)) (extra (track_number sh s t)) (rest i)

  -- What repair and tracing return.
  pub mended_same : (named named' : TrackSet → Extra) → ((s : TrackSet) → named s ≡ named' s) → mended sh x y named ≡ mended sh x' y' named'
  mended_same named named' h = λ i. record {
    answer = 0;
    detail = 0;
    mask = changed_mask_same i;
    changed = changed_cells_same i;
    extra_a = h A i;
    extra_b = h B i;
  }
