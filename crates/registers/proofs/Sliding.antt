-- The registers of the tail: places that slide.
use mathlib.Core.Path.{◌≡◌, sym, ap, ◌∙◌}
use mathlib.Core.Logic.{by_cases}
use mathlib.Core.List.{List, ◌++◌}
use Prim.Native.Nat.{ℕ, suc, ◌+◌, ◌-◌, ◌<◌, ◌≤◌}
use native.Mathlib.Decide.{dec_lt}
use native.Mathlib.Omega.{arith}
use lib.Bits.{xor_zero_r}
use lib.ListN.{length, get_or, take, drop, set, replicate, get_or-replicate, get_or-append, length-drop}
use lib.Seq.{get_or-set_same, get_or-set_other, get_or-take, get_or-drop, get_or-append-add}
use Rattle.std.proofs.lemmas.List.{get_or-append_right}
use Rattle.registers.specs.declared.Registers.{Registers}
use Rattle.registers.specs.Places.{Shifted}
use Rattle.registers.specs.Register.{Stepped}
use Rattle.registers.specs.Steps.{slid}
use Rattle.registers.proofs.Passing.{stepped}

-- Fifteen places that have slid by j, with the first j of another register behind them.
abbrev slide : ℕ → List ℕ → List ℕ → List ℕ
slide j xs ys = drop j xs ++ take j ys

module _ (xs ys : List ℕ) (size : length xs ≡ 15) where
  -- They are those of both registers from j on.
  slide_at : (j k : ℕ) → j ≤ 15 → k < 15 → get_or (slide j xs ys) k 0 ≡ get_or (xs ++ ys) (j + k) 0
  slide_at j k low h =
      let left : length (drop j xs) ≡ 15 - j = omega (arith, length-drop j xs) in
      by_cases (dec_lt (j + k) 15)
      (λ l. get_or-append (drop j xs) (take j ys) 0 k (omega arith) ∙ get_or-drop j xs k 0 ∙ sym (get_or-append xs ys 0 (j + k) (omega arith)))
      (λ l. get_or-append_right (drop j xs) (take j ys) (15 - j) k 0 left (omega arith) ∙ get_or-take j ys (k - (15 - j)) 0 (omega arith)
      ∙ ap (λ i. get_or ys i 0) (omega arith) ∙ sym (get_or-append_right xs ys 15 (j + k) 0 size (omega arith)))

  -- The head.
  pub slide_head : (j : ℕ) → j < 15 → get_or (slide j xs ys) 0 0 ≡ get_or xs j 0
  slide_head j h = slide_at j 0 (omega arith) (omega arith) ∙ ap (λ i. get_or (xs ++ ys) i 0) (omega arith) ∙ get_or-append xs ys 0 j (omega arith)

-- One more position: nothing is added, and the other register's head enters.
slide_more : (xs ys : List ℕ) → length xs ≡ 15 → length ys ≡ 15 → (j : ℕ) → j < 15 →
    Shifted (slide j xs ys) (set (replicate 15 0) 14 (get_or (slide j ys xs) 0 0)) (slide (suc j) xs ys)
slide_more xs ys size other j low = record {
  place = λ k h.
      slide_at xs ys size (suc j) k (omega arith) (omega arith) ∙ ap (λ i. get_or (xs ++ ys) i 0) (omega arith) ∙ sym (slide_at xs ys size j (suc k) (omega arith) (omega arith))
      ∙ rw (get_or-set_other (replicate 15 0) 14 k (get_or (slide j ys xs) 0 0) 0 (omega arith), get_or-replicate {A = ℕ} 15 k 0 0 (omega arith), xor_zero_r);
  last =
      slide_at xs ys size (suc j) 14 (omega arith) (omega arith) ∙ ap (λ i. get_or (xs ++ ys) i 0) (omega arith) ∙ get_or-append-add xs ys j 0 ∙ sym (slide_head ys xs other j low)
      ∙ sym (get_or-set_same (replicate 15 0) 14 (get_or (slide j ys xs) 0 0) 0 (omega arith));
}

-- A column of 0.
abbrev pub nothing : Registers
nothing = record { a = replicate 15 0; b = replicate 15 0 }

-- Both registers.
pub slid_stepped : (r : Registers) → length r.a ≡ 15 → length r.b ≡ 15 → (j : ℕ) → j < 15 → Stepped (slid j r) nothing (slid (suc j) r)
slid_stepped r size_a size_b j low = stepped (slid j r) nothing _ _ (omega arith) (omega arith) (slide_more r.a r.b size_a size_b j low) (slide_more r.b r.a size_b size_a j low)
