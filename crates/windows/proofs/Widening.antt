-- Windows that grow: every word takes in that of d positions later.
use mathlib.Core.Path.{◌≡◌, refl, sym, ap, ap₂, ◌∙◌}
use mathlib.Core.Logic.{by_cases}
use mathlib.Core.Bool.{◌||◌}
use mathlib.Core.List.{List}
use Prim.Native.Nat.{ℕ, ◌+◌, ◌≤◌}
use native.Mathlib.Decide.{dec_lt}
use native.Mathlib.Nat.{add_assoc, add-zero}
use native.Mathlib.Omega.{arith}
use lib.Bits.{bit_or, or_zero_r}
use lib.ListN.{length, get_or, get_or-eq_default}
use Rattle.track.proofs.Cells.{Written}
use Rattle.flags.specs.Words.{bit_at}
use Rattle.code.proofs.Any.{any_same, any_one, any_add}
use Rattle.windows.specs.Steps.{Widened, Joined}
use Rattle.windows.proofs.Bits.{or_bit}

-- The first n words have taken it in, and the rest stay.
abbrev pub Widening : List ℕ → ℕ → ℕ → List ℕ → Type 0
Widening before d n now = Written before (λ k. bit_or (get_or before k 0) (get_or before (k + d) 0)) 0 n now

-- The last d words have none to take in.
pub widened : (before : List ℕ) (d n : ℕ) (now : List ℕ) → length before ≤ n + d → Widening before d n now → Widened before d now
widened before d n now end w = record {
  size = w.size;
  words = λ m. by_cases (dec_lt m n) (λ l. w.done m m l (omega arith)) (λ l. w.later m (omega arith) ∙ last m (omega arith));
}
  where
    last : (m : ℕ) → n ≤ m → get_or before m 0 ≡ bit_or (get_or before m 0) (get_or before (m + d) 0)
    last m l = sym (ap (bit_or (get_or before m 0)) (get_or-eq_default before 0 {n = m + d} (omega arith)) ∙ or_zero_r (get_or before m 0))

-- The words themselves are windows of one position.
pub joined_one : (words : List ℕ) → Joined words 1 words
joined_one words = record {
  size = refl;
  bits = λ g m. sym (any_one (λ k. bit_at (get_or words (m + k) 0) g) ∙ ap (λ (i : ℕ). bit_at (get_or words i 0) g) (add-zero m));
}

-- Windows of d positions, each with that of d positions later, are windows of d + d positions.
pub joined_twice : (words near : List ℕ) (d : ℕ) (wide : List ℕ) → Joined words d near → Widened near d wide → Joined words (d + d) wide
joined_twice words near d wide j w = record {
  size = w.size ∙ j.size;
  bits = λ g m.
      ap (λ (v : ℕ). bit_at v g) (w.words m) ∙ or_bit (get_or near m 0) (get_or near (m + d) 0) g
      ∙ ap₂ ◌||◌ (j.bits g m) (j.bits g (m + d) ∙ any_same d _ _ (λ k l. ap (λ (i : ℕ). bit_at (get_or words i 0) g) (add_assoc m d k)))
      ∙ sym (any_add d d (λ k. bit_at (get_or words (m + k) 0) g));
}
