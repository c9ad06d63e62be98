-- What passed checks say of an input: the count and the lengths are right, and the cells have the values asked for; and that such an input passes them.
use mathlib.Core.Path.{◌≡◌}
use mathlib.Core.Logic.{by_cases}
use mathlib.Core.List.{List, [], ◌∷◌}
use Prim.Native.Nat.{ℕ, ◌<◌, ◌≤◌}
use native.Mathlib.Decide.{dec_lt}
use native.Mathlib.Omega.{arith}
use lib.ListN.{length, get_or, get_or-eq_default}
use Rattle.code.specs.Numbers.{room_check, cell_check, first_bad, input_checks, size_checks, image_checks, Passed}
use Rattle.code.proofs.Numbers.{first_bad_none, first_bad_before, passed_few, passed_exact, passed_both, passed_append}

-- The count and the lengths are right.
pub record SizesRight (n wanted input size output : ℕ) : Type 0 where
  pub few : n ≤ 256
  pub exact : input ≡ wanted
  pub fits : size ≤ output

module _ (n wanted input size output : ℕ) where
  pub sizes_right : Passed (size_checks n wanted input size output) → SizesRight n wanted input size output
  sizes_right p =
      let q = passed_both (input_checks n wanted input) (room_check size output ∷ []) p in
      record {
        few = passed_few n wanted input q.0;
        exact = passed_exact n wanted input q.0;
        fits = by_cases (dec_lt output size) (λ h. absurd (q.1.0 h)) (λ h. omega arith);
      }

  pub sizes_pass : n ≤ 256 → input ≡ wanted → size ≤ output → Passed (size_checks n wanted input size output)
  sizes_pass few exact fits = (λ h. omega arith, (λ d. d exact, (λ h. omega arith, tt)))

-- And the cells have these values.
pub record ImageRight (values n wanted : ℕ) (image : List ℕ) (size output : ℕ) : Type 0 where
  pub sizes : SizesRight n wanted (length image) size output
  pub cells : (i : ℕ) → get_or image i 0 < values

module _ (values n wanted : ℕ) (image : List ℕ) (size output : ℕ) where
  pub image_right : 0 < values → Passed (image_checks values n wanted image size output) → ImageRight values n wanted image size output
  image_right some p =
      let q = passed_both (size_checks n wanted (length image) size output) (cell_check values image ∷ []) p in
      record {
        sizes = sizes_right n wanted (length image) size output q.0;
        cells = λ i. by_cases (dec_lt i (length image))
            (λ h. first_bad_before values image i (by_cases (dec_lt (first_bad values image) (length image)) (λ l. absurd (q.1.0 l)) (λ l. omega arith)))
            (λ h. rw (get_or-eq_default image 0 {n = i} (omega arith)) some);
      }

  pub image_pass : Passed (size_checks n wanted (length image) size output) → ((i : ℕ) → i < length image → get_or image i 0 < values) →
      Passed (image_checks values n wanted image size output)
  image_pass p cells = passed_append (size_checks n wanted (length image) size output) (cell_check values image ∷ []) p (λ h. omega (arith, first_bad_none values image cells), tt)
