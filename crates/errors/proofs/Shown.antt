-- Words that have the cells of a stream.
use mathlib.Core.Path.{◌≡◌, sym, ap, ◌∙◌}
use Prim.Native.Nat.{ℕ, ◌+◌, ◌<◌, ◌%◌}
use native.Mathlib.Omega.{arith}
use lib.Bits.{bit_xor}
use Rattle.code.specs.Record.{back}
use Rattle.code.proofs.Sums.{back_at, back_add, back_mod, back_same}
use Rattle.words.specs.Words.{bit}
use Rattle.words.proofs.Bit.{bit_of_xor}
use Rattle.forms.specs.Streams.{Stream}
use Rattle.forms.proofs.Shifts.{back_move}
use Rattle.errors.specs.Rows.{Shown}

-- The sum of two streams.
pub shown_xor : (n : ℕ) (f g : Stream) (at a b : ℕ) → Shown n f at a → Shown n g at b → Shown n (λ m. f m + g m) at (bit_xor a b)
shown_xor n f g at a b p q = record {
  cells = λ k l h. omega (arith, bit_of_xor a b k, p.cells k l h, q.cells k l h, back_add f g (at + k) 64);
}

-- Streams that are the same modulo 2.
pub shown_same : (n : ℕ) (f g : Stream) (at w : ℕ) → ((m : ℕ) → m < n → f m % 2 ≡ g m % 2) → Shown n f at w → Shown n g at w
shown_same n f g at w same p = record {
  cells = λ k l h. p.cells k l h ∙ sym (back_mod f (at + k) 64) ∙ back_same _ _ (at + k) 64 (λ m e. same m (omega arith)) ∙ back_mod g (at + k) 64;
}

-- One cell.
pub shown_at : (n : ℕ) (f : Stream) (at w : ℕ) → Shown n f at w → (k m : ℕ) → k < 64 → at + k ≡ 64 + m → m < n → bit w k ≡ f m % 2
shown_at n f at w p k m l e h = p.cells k l (omega arith) ∙ ap (λ v. v % 2) (back_at f m 64 (at + k) (omega arith))

-- One cell of a stream that is read c positions back.
pub shown_back : (n : ℕ) (f : Stream) (at w : ℕ) → Shown n f at w → (k m c : ℕ) → k < 64 → at + k + c ≡ 64 + m → m < n + c → bit w k ≡ back f m c % 2
shown_back n f at w p k m c l e h = p.cells k l (omega arith) ∙ ap (λ v. v % 2) (back_move f (at + k) 64 m c (omega arith))
