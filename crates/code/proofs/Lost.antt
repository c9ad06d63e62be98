-- Lost cells: on images without one every relation is the former, and what widened flags say.
use mathlib.Core.Path.{◌≡◌, refl, sym, ap, subst₂, fun_ext, ◌∙◌}
use mathlib.Core.Logic.{◌↔◌}
use mathlib.Core.Bool.{Bool, true, false, ◌||◌, true≢false}
use mathlib.Core.List.{List, [], ◌∷◌, ◌++◌}
use Prim.Native.Nat.{ℕ, zero, suc, ◌<◌, ◌≤◌}
use native.Mathlib.Omega.{arith}
use borrow.Author.Tests.{le-ltb}
use lib.Dec.{ltb}
use lib.ListN.{length}
use Rattle.code.specs.Record.{TrackSet, Shape, base, tracks, track_length}
use Rattle.code.specs.Image.{image_size, cells}
use Rattle.code.specs.Payload.{payload_size}
use Rattle.code.specs.Flags.{TrackFlags, whole, word_flags, bit, flag_count}
use Rattle.code.specs.Lost.{bit_values, read_values, is_lost, with_lost}
use Rattle.code.specs.Reach.{Tracing, cautious, traced_reach}
use Rattle.code.specs.Numbers.{Check, first_bad, size_checks, flag_check, reach_check}
use Rattle.code.specs.Calls.{Answered, ReadOrNot, ceiling_checks, Repairs, Traces}
use Rattle.code.specs.Promises.{call_flags}
use Rattle.code.specs.Supply.{AsBefore, NoneLost}
use Rattle.code.proofs.Any.{any_none}
use Rattle.code.proofs.Patterns.{none_flagged, neither}
use Rattle.code.proofs.Sums.{sum_le}

-- ## Tracks with a lost cell

module _ (sh : Shape) (f : TrackFlags) (image : List ℕ) where
  -- A track that widened flags leave clear has no lost cell.
  pub none_lost : (s : TrackSet) (t m : ℕ) → with_lost sh f image s t ≡ false → m < track_length sh → is_lost (cells sh image s t m) ≡ false
  none_lost s t m e l = none_flagged (track_length sh) _ (neither (f s t) _ e).1 m l

  -- Widened flags flag no fewer tracks.
  pub count_widened : (s : TrackSet) → flag_count sh f s ≤ flag_count sh (with_lost sh f image) s
  unfolding flag_count
  count_widened s = sum_le (tracks sh s) _ _ (λ t l. more (f s t) _)
    where
      more : (a b : Bool) → bit a ≤ bit (a || b)
      more false false = omega arith
      more false true = omega arith
      more true b = omega arith

-- ## Images without a lost cell

-- A bit is not lost.
pub bit_known : (x : ℕ) → x < bit_values → is_lost x ≡ false
bit_known zero h = refl
bit_known (suc zero) h = refl
bit_known (suc (suc x)) h = absurd (omega arith)

-- A cell that is not lost is a bit exactly if it is a reading.
same_value : (x : ℕ) → is_lost x ≡ false → ltb x read_values ≡ ltb x bit_values
same_value zero e = refl
same_value (suc zero) e = refl
same_value (suc (suc zero)) e = absurd (true≢false e)
same_value (suc (suc (suc x))) e = le-ltb (suc (suc (suc x))) 3 (omega arith) ∙ sym (le-ltb (suc (suc (suc x))) 2 (omega arith))

same_bad : (xs : List ℕ) → NoneLost xs → first_bad read_values xs ≡ first_bad bit_values xs
unfolding first_bad
same_bad [] h = refl
same_bad (x ∷ xs) h = rw (same_value x (h zero), same_bad xs (λ i. h (suc i)))

module _ (image : List ℕ) (h : NoneLost image) where
  -- The flags are not widened.
  pub not_widened : (sh : Shape) (f : TrackFlags) → with_lost sh f image ≡ f
  not_widened sh f = fun_ext (λ s. fun_ext (λ t. ap (λ (b : Bool). f s t || b) (any_none (track_length sh) _ (λ k l. h _)) ∙ or_off (f s t)))
    where
      or_off : (a : Bool) → a || false ≡ a
      or_off false = refl
      or_off true = refl

  module _ (n : ℕ) (before : List ℕ) where
    -- The checks by the first bad cell, and the flags. Those of repair are those of tracing without a ceiling.
    abbrev cell_checks : ℕ → ℕ → List {1} Check
    cell_checks size k = size_checks n (image_size (base n)) (length image) size (length before) ++ (record { number = 4; detail = k; applies = k < length image } ∷ [])

    abbrev checks : Tracing → ℕ → ℕ → TrackFlags → List {1} Check
    checks way word k f =
        ((cell_checks (image_size (base n)) k ++ (flag_check (base n) word ∷ [])) ++ ceiling_checks way) ++ (reach_check (base n) f ∷ [])

    -- Number 4 has the same condition and the same detail, and the same tracks are flagged.
    same : (word : ℕ) (P : ℕ → TrackFlags → Type 0) → P (first_bad read_values image) (call_flags n word image) ↔ P (first_bad bit_values image) (word_flags (base n) word)
    same word P = (subst₂ P (same_bad image h) (not_widened (base n) _), subst₂ P (sym (same_bad image h)) (sym (not_widened (base n) _)))

    pub as_before : AsBefore n image before
    as_before = record {
      read = λ r after. same 0 (λ k f. Answered (cell_checks (payload_size (base n) n) k) (ReadOrNot (base n) n image before) before r after);
      repair = λ word r after. same word (λ k f. Answered (checks cautious word k f) (Repairs (base n) (whole f) image before) before r after);
      trace = λ way word r after. same word (λ k f. Answered (checks way word k f) (Traces (base n) (traced_reach way (base n) f) f image before) before r after);
    }
