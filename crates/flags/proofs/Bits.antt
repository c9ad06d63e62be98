-- The bits of a flag word, and marks.
use Rattle.std.proofs.Common.{◌≡◌, Bool, true, false, List, [], ◌∷◌, ℕ, ◌+◌, ◌-◌, ◌≤◌, refl, sym, ap, ap₂, ◌∙◌, zero-add, length, get_or, take, drop, count_by, cond, arith}
use Rattle.std.proofs.lemmas.List.{get_or-take, get_or-drop, length-take-le, length-drop}
use Rattle.std.proofs.lemmas.List.Sums.{sum_by-cons}
use Rattle.code.specs.declared.sizes.TrackSet.TheVariants.{A, B}
use Rattle.code.specs.Record.{Shape, tracks, sum}
use Rattle.code.specs.Image.{all_tracks}
use Rattle.code.specs.Flags.{bit, word_flags, flag_count}
use Rattle.code.specs.Reach.{reach_code, flags_code}
use Rattle.code.proofs.Sums.{sum_same, sum_first}
use Rattle.code.specs.Sizes.{shape}
use Rattle.code.specs.declared.sizes.Sizes.{Sizes}
use Rattle.code.proofs.Places.{number_lt}
use Rattle.code.proofs.Same.{SameFlags}
use Rattle.solver.specs.Solver.{marked_by, marked}
use Rattle.flags.specs.Marks.{Marks}

module _ {M : Type 0} (counts : M → Bool) (none : M) where
  -- How many marks there are, as a sum.
  counted : (marks : List M) → count_by counts marks ≡ sum (length marks) (λ t. bit (counts (get_or marks t none)))
  unfolding sum
  counted [] = refl
  counted (mark ∷ marks) =
      sum_by-cons (λ (m : M). cond (counts m) 1 0) mark marks ∙ ap₂ ◌+◌ (one (counts mark)) (counted marks)
      ∙ sym (sum_first (length marks) (λ t. bit (counts (get_or (mark ∷ marks) t none))))
    where
      one : (b : Bool) → cond b 1 0 ≡ bit b
      one true = refl
      one false = refl

  -- Of those from `first` on, n are counted.
  part_counted : (marks : List M) (first n : ℕ) → first + n ≤ length marks →
      count_by counts (take n (drop first marks)) ≡ sum n (λ t. bit (counts (get_or marks (first + t) none)))
  part_counted marks first n room =
      let size : length (take n (drop first marks)) ≡ n = length-take-le n (drop first marks) (omega (arith, length-drop first marks)) in
      counted (take n (drop first marks))
      ∙ rw size (sum_same n _ _ (λ t l. ap (λ (m : M). bit (counts m)) (get_or-take n (drop first marks) t none l ∙ get_or-drop first marks t none)))

  -- The code of the marked tracks, counted set after set.
  pub marks_code : (sh : Shape) (marks : List M) (a all : ℕ) → a ≡ tracks sh A → all ≡ all_tracks sh → all ≤ length marks →
      reach_code (count_by counts (take a marks)) (count_by counts (take (all - a) (drop a marks))) ≡ flags_code sh (marked_by counts none sh marks)
  unfolding flags_code flag_count
  marks_code sh marks a all p q room =
      let b : all - a ≡ tracks sh B = omega arith in
      ap₂ reach_code
      (rw p (part_counted marks 0 (tracks sh A) (omega arith) ∙ sum_same (tracks sh A) _ _ (λ t l. ap (λ (g : ℕ). bit (counts (get_or marks g none))) (zero-add t))))
      (rw (b, p) (part_counted marks (tracks sh A) (tracks sh B) (omega arith)))

-- The marks of a flag word are its flags.
pub marks_same : (z : Sizes) (flags : ℕ) (marks : List Bool) → Marks flags marks → SameFlags (shape z) (marked (shape z) marks) (word_flags (shape z) flags)
marks_same z flags marks m s t l = m.marks_at _ (omega (arith, number_lt (shape z) s t l))
