-- A result that is written to the front of an output: the first bytes are the result's, and later bytes stay.
use mathlib.Core.Path.{◌≡◌, sym, ap, ◌∙◌}
use mathlib.Core.List.{List, ◌++◌}
use Prim.Native.Nat.{ℕ, ◌+◌, ◌-◌, ◌<◌, ◌≤◌}
use native.Mathlib.Omega.{arith}
use lib.ListN.{length, get_or, drop, length-append, length-drop, get_or-append, get_or-eq_default}
use lib.Seq.{get_or-append-add, get_or-drop}
use Rattle.code.specs.Record.{Shape, Same}
use Rattle.code.specs.Image.{image_size, cells}
use Rattle.code.specs.Calls.{Stays}
use Rattle.code.proofs.Places.{cell_lt}

module _ (size : ℕ) (before result : List ℕ) (whole : length result ≡ size) (room : size ≤ length before) where
  abbrev all : List ℕ
  all = result ++ drop size before

  pub front_at : (i : ℕ) → i < size → get_or all i 0 ≡ get_or result i 0
  front_at i h = get_or-append result (drop size before) 0 i (omega arith)

  pub front_stays : Stays size before all
  front_stays = record {
    lengths = omega (arith, length-append result (drop size before), length-drop size before);
    later = λ i h.
        let at : i ≡ length result + (i - size) = omega arith in
        let from : size + (i - size) ≡ i = omega arith in
        ap (λ (k : ℕ). get_or all k 0) at ∙ get_or-append-add result (drop size before) (i - size) 0
        ∙ get_or-drop size before (i - size) 0 ∙ ap (λ (k : ℕ). get_or before k 0) from;
  }

-- Of an image, the cells are the output's.
pub front_same : (sh : Shape) (before image : List ℕ) → length image ≡ image_size sh → image_size sh ≤ length before →
    Same sh (cells sh image) (cells sh (image ++ drop (image_size sh) before))
front_same sh before image whole room = record { cell = λ s t m l b. sym (front_at (image_size sh) before image whole room _ (cell_lt sh s t m l b)) }

-- Two outputs of the result's size have no later bytes.
pub stays_all : (n : ℕ) (before after : List ℕ) → length before ≡ n → length after ≡ n → Stays n before after
stays_all n before after a b = record {
  lengths = b ∙ sym a;
  later = λ i h. get_or-eq_default after 0 {n = i} (omega arith) ∙ sym (get_or-eq_default before 0 {n = i} (omega arith));
}
