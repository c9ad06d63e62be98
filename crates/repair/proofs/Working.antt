-- What the errors that were found say of the good records: of those that agree with the image off flags, by way of the working copy.
use mathlib.Core.Path.{◌≡◌, refl, sym, ◌∙◌}
use mathlib.Core.Logic.{◌≢◌, by_cases}
use mathlib.Core.Bool.{true, false}
use mathlib.Core.List.{List}
use Rattle.std.specs.Prelude.{Option, Some}
use Prim.Native.Nat.{ℕ, ◌+◌, ◌<◌, ◌≤◌, ◌%◌}
use native.Mathlib.Decide.{dec_le, dec_lt}
use native.Mathlib.Omega.{arith}
use Rattle.code.specs.declared.sizes.TrackSet.{TrackSet}
use Rattle.code.specs.Record.{row_of, Shape, tracks, track_length, vertical_end, tail_tracks, Cells, Good}
use Rattle.code.specs.Image.{cells}
use Rattle.code.specs.Flags.{TrackFlags, whole, AgreeOff}
use Rattle.code.specs.Sizes.{shape}
use Rattle.code.specs.declared.sizes.Sizes.{Sizes}
use Rattle.code.proofs.Cell.{tail_within}
use Rattle.code.proofs.Linear.{plus, good_same}
use Rattle.plans.specs.declared.Form.{Form}
use Rattle.plans.specs.Plans.{room, Fits}
use Rattle.forms.specs.Streams.{cut}
use Rattle.forms.specs.Found.{pivot_sum}
use Rattle.forms.proofs.Complete.{complete, upper_quiet, lower_quiet}
use Rattle.forms.proofs.Sound.{sound, sound_agree}
use Rattle.errors.specs.Rows.{cell, diagonals, verticals}
use Rattle.errors.specs.Steps.{TestedIn, Found}
use Rattle.forms.proofs.Shifts.{cut_zero}
use Rattle.mend.specs.Mend.{Added, Explained}
use Rattle.repair.specs.declared.Needs.{Needs}
use Rattle.repair.specs.Steps.{need_of, Prepared, errors_in}

-- All tests passed.
module _ (z : Sizes) (p : Form) (words found : List ℕ) (w : Found z (vertical_end (shape z)) p words found true) where
  all_tested : TestedIn z (vertical_end (shape z)) p words found (track_length (shape z))
  all_tested =
      let t = w.tested refl in
      let n = w.all refl in
      record { diagonals = λ d m l b. t.diagonals d m (omega arith) b; verticals = λ c m l b r. t.verticals c m (omega arith) b r }

  pivot_error : (c : TrackSet) (m : ℕ) → m < track_length (shape z) →
      cell found (2 + row_of c) m ≡
      cut (vertical_end (shape z)) (λ k. pivot_sum (shape z) (vertical_end (shape z)) p (diagonals words) (verticals words) (cell found 0) (cell found 1) c k % 2) m
  pivot_error c m l = w.pivots refl c m (omega (arith, w.all refl))

  -- A pivot that cannot be wrong has no error.
  pub pivot_right : (c : TrackSet) → room p c ≡ 0 → (m : ℕ) → m < track_length (shape z) → cell found (2 + row_of c) m ≡ 0
  pivot_right c h m l = pivot_error c m l ∙ cut_zero (vertical_end (shape z)) _ m (λ b. all_tested.verticals c m l b (omega arith))

module _ (z : Sizes) (f : TrackFlags) (image out words : List ℕ) (need : Needs) (prepared : Prepared z f image out words need) where
  abbrev sh : Shape
  sh = shape z

  -- In the tails that rule 4 makes 0, and elsewhere.
  tail_or : {P : Type 0} (s : TrackSet) (t m : ℕ) → (1 ≤ t → t < tail_tracks sh s → z.positions ≤ m → P) → ((1 ≤ t → t < tail_tracks sh s → z.positions ≤ m → ⊥) → P) → P
  tail_or s t m here there = by_cases (dec_le 1 t)
      (λ a. by_cases (dec_lt t (tail_tracks sh s))
      (λ b. by_cases (dec_le z.positions m) (λ c. here a b c) (λ c. there (λ _ _ h. c h)))
      (λ b. there (λ _ h _. b h)))
      (λ a. there (λ h _ _. a h))

  -- g flags what f does and, in each set, an extra e, none or a track.
  module _ (g : TrackFlags) (e : TrackSet → Option ℕ)
      (less : (s : TrackSet) (t : ℕ) → g s t ≡ false → (f s t ≡ false) × (e s ≢ Some t))
      (grown : (s : TrackSet) (t : ℕ) → t < tracks sh s → f s t ≡ false → e s ≢ Some t → g s t ≡ false) where
    -- A good record that agrees with the image agrees with the working copy.
    to_copy : (y : Cells) → Good sh y → AgreeOff sh (whole g) (cells sh image) y → AgreeOff sh (whole g) (cells sh out) y
    to_copy y gy a = record {
      cell = λ s t m l b h. tail_or s t m
          (λ i j k. prepared.tails s t m i j k b ∙ sym (gy.tail s t m i j k b))
          (λ n. prepared.same s t m l b n ∙ a.cell s t m l b h);
    }

    -- And the other way, where the extra tracks explain the tails.
    to_image : ((s : TrackSet) → Explained (need_of need s) (e s)) → (y : Cells) → AgreeOff sh (whole g) (cells sh out) y → AgreeOff sh (whole g) (cells sh image) y
    to_image fit y a = record {
      cell = λ s t m l b h. tail_or s t m
          (λ i j k. prepared.fits s (e s) (fit s) t m i j (less s t h).0 (less s t h).1 k b
          ∙ sym (prepared.tails s t m i j k b) ∙ a.cell s t m l b h)
          (λ n. sym (prepared.same s t m l b n) ∙ a.cell s t m l b h);
    }

    -- Where they do not, there is no good record.
    pub tails_none : (s : TrackSet) → (Explained (need_of need s) (e s) → ⊥) → (y : Cells) → Good sh y → AgreeOff sh (whole g) (cells sh image) y → ⊥
    tails_none s n y gy a = prepared.fails s (e s) n
        (λ t m i j h k low b. a.cell s t m (omega (arith, tail_within sh s)) b (grown s t (omega (arith, tail_within sh s)) h k) ∙ gy.tail s t m i j low b)

    module _ (p : Form) (fits : Fits sh g p) (found : List ℕ) where
      -- A test failed: there is no good record.
      pub found_none : Found z (vertical_end sh) p words found false → (y : Cells) → Good sh y → AgreeOff sh (whole g) (cells sh image) y → ⊥
      found_none w y gy a = w.failed refl (complete sh (cells sh out) y g p (diagonals words) (verticals words) (cell found 4) (cell found 0) (cell found 1) w.upto
          gy (to_copy y gy a) prepared.tails prepared.sums_in.sums fits w.computed)

      module _ (w : Found z (vertical_end sh) p words found true) where
        module _ (after : List ℕ) (added : Added z (errors_in p found) out after) where
          -- All tests passed: with the errors added the working copy is a good record,
          pub found_good : Good sh (cells sh after)
          found_good = good_same sh (plus (cells sh out) (errors_in p found)) (cells sh after) (record { cell = λ s t m l b. sym (added.cell_at s t m l b) })
              (sound sh (cells sh out) g p (diagonals words) (verticals words) (λ c. cell found (2 + row_of c)) (cell found 0) (cell found 1)
              prepared.tails prepared.sums_in.sums fits (all_tested z p words found w) (pivot_error z p words found w)
              (λ h k m l r. upper_quiet sh (vertical_end sh) p _ _ _ _ _ _ w.computed h k m (omega (arith, w.all refl)) l r)
              (λ h k m l r. lower_quiet sh (vertical_end sh) p _ _ _ _ _ _ w.computed h k m (omega (arith, w.all refl)) l r))

          -- that agrees with the image.
          pub found_agree : ((s : TrackSet) → Explained (need_of need s) (e s)) → AgreeOff sh (whole g) (cells sh image) (cells sh after)
          found_agree fit = to_image fit (cells sh after) (record {
            cell = λ s t m l b h. (sound_agree sh (cells sh out) g p (diagonals words) (verticals words) (λ c. cell found (2 + row_of c)) (cell found 0) (cell found 1)
                (λ s t m l b. prepared.copy.bits _) fits (all_tested z p words found w) (pivot_error z p words found w)).cell s t m l b h ∙ sym (added.cell_at s t m l b);
          })
