-- Document 01, "Reviewer's checklist": what a repairer or a tracer that meets its contract never is. It is proved (`rejected` of
-- proofs/Checklist).
use Rattle.std.specs.Prelude.{◌≡◌, List, ℕ, ◌<◌, ◌≤◌, length, get_or}
use Rattle.code.specs.Record.{base}
use Rattle.code.specs.Image.{image_size, cells}
use Rattle.code.specs.Lost.{read_values}
use Rattle.code.specs.Numbers.{Passed}
use Rattle.code.specs.Calls.{Result, changed_cells, early_checks}
use Rattle.code.specs.Reach.{cautious, within}
use Rattle.code.specs.Supply.{Mending, repair, trace, mend, Right}

-- A program: block count, flag word, image, output as it came; result and output.
abbrev pub Program : Type 0
Program = ℕ → ℕ → List ℕ → List ℕ → Result × List ℕ

-- A ceiling, where the call has one, is not above 2: else 12 is right.
abbrev pub Taken : Mending → Type 0
Taken repair = Unit {0}
Taken (trace cautious) = Unit {0}
Taken (trace (within ceiling)) = ceiling ≤ 2

-- It meets the contract of repair or of tracing.
abbrev pub Meets : Mending → Program → Type 0
Meets way p = (n flags : ℕ) (image before : List ℕ) → Right (mend way n flags image before) (p n flags image before).0 (p n flags image before).1

-- This holds of what it gives whenever numbers 1 to 5 do not apply, whatever it gives where they do.
abbrev pub Always : (ℕ → List ℕ → List ℕ → Result → List ℕ → Type 0) → Program → Type 0
Always P p = (n flags : ℕ) (image before : List ℕ) → Passed (early_checks read_values (base n) n flags image (length before)) →
    P n image before (p n flags image before).0 (p n flags image before).1

-- The output's first bytes are these.
abbrev pub Holds : ℕ → (ℕ → ℕ) → List ℕ → Type 0
Holds n bytes after = (i : ℕ) → i < image_size (base n) → get_or after i 0 ≡ bytes i

pub record Rejected (p : Program) : Type 0 where
  -- "a repairer that copies the read tracks and says 0"
  pub copies : Always (λ n image before r after. (r.answer ≡ 0) × Holds n (λ i. get_or image i 0) after) p → ⊥
  -- "invented changed cells"
  pub invents : Always (λ n image before r after. changed_cells (base n) (cells (base n) image) (cells (base n) after) < r.changed) p → ⊥
  -- "the all-zero record for every image"
  pub zero_record : Always (λ n image before r after. Holds n (λ i. 0) after) p → ⊥
  -- "7 or 6 to all"
  pub seven : Always (λ n image before r after. r.answer ≡ 7) p → ⊥
  pub six : Always (λ n image before r after. r.answer ≡ 6) p → ⊥
  -- "an untouched output"
  pub untouched : Always (λ n image before r after. after ≡ before) p → ⊥
