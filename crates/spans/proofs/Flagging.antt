-- The words of a table and an image: the cells that they flag, and their windows.
use mathlib.Core.Path.{◌≡◌, refl, sym, ap, ◌∙◌}
use mathlib.Core.Logic.{by_cases}
use mathlib.Core.Bool.{Bool, false, ◌&&◌}
use mathlib.Core.List.{List}
use Prim.Native.Nat.{ℕ, ◌+◌, ◌<◌, ◌≤◌}
use native.Mathlib.Decide.{dec_lt}
use native.Mathlib.Omega.{arith}
use borrow.Author.Tests.{le-ltb}
use lib.ListN.{get_or-eq_default}
use Rattle.code.specs.declared.sizes.TrackSet.{TrackSet}
use Rattle.code.specs.Record.{Shape, tracks, track_length}
use Rattle.code.specs.Image.{track_number}
use Rattle.code.specs.Flags.{CellFlags, word_flags, in_window}
use Rattle.code.specs.Reach.{none}
use Rattle.code.specs.Spans.{Table, span_flags, window, to_tail_end, window_flags, WindowTooMany}
use Rattle.code.specs.Calls.{Result, RepairNear, Repairs}
use Rattle.code.proofs.Any.{any_same}
use Rattle.code.proofs.Outputs.{mended_as}
use Rattle.code.proofs.Same.{SameFlags, code_same}
use Rattle.code.proofs.Windows.{before_end}
use Rattle.flags.specs.Words.{word_cells, Windows}
use Rattle.windows.proofs.Bits.{no_bit}
use Rattle.windows.specs.Windows.{NoCode}
use Rattle.spans.specs.Steps.{CellsFlagged}

module _ (sh : Shape) (table : Table) (image words : List ℕ) (c : CellsFlagged sh table image words) where
  abbrev flag : CellFlags
  flag = span_flags sh table image

  -- Past the last word nothing is flagged.
  none_past : (s : TrackSet) (t m : ℕ) → track_length sh ≤ m → word_cells sh words s t m ≡ false
  none_past s t m h = ap (λ (w : ℕ). word_flags sh w s t) (get_or-eq_default words 0 {n = m} (omega (arith, c.size))) ∙ no_bit (track_number sh s t)

  -- So the words flag the cells up to the tail's end.
  to_end : (s : TrackSet) (t m : ℕ) → t < tracks sh s → word_cells sh words s t m ≡ to_tail_end sh flag s t m
  to_end s t m l = by_cases (dec_lt m (track_length sh))
      (λ b. c.flags s t m l b ∙ sym (before_end sh flag s t m b))
      (λ n. none_past s t m (omega arith) ∙ sym (ap (λ (b : Bool). b && flag s t m) (le-ltb m (track_length sh) (omega arith))))

  window_same : (m : ℕ) → SameFlags sh (in_window window (word_cells sh words) m) (window_flags sh flag m)
  window_same m s t l = any_same window _ _ (λ k h. to_end s t (m + k) l)

  -- A window without a code.
  pub too_many : NoCode sh words → WindowTooMany sh flag
  too_many n = record { position = n.position; inside = n.inside; code = sym (code_same sh _ _ (window_same n.position)) ∙ n.code }

  -- None is without.
  pub none_too_many : (near : List ℕ) → Windows sh words near → WindowTooMany sh flag → ⊥
  none_too_many near w n = w.coded n.position n.inside
      (code_same sh _ _ (λ s t l. w.near_at s t n.position l ∙ window_same n.position s t l) ∙ n.code)

  -- What is right of the words' cells is right of the table's.
  pub repairs_table : (before : List ℕ) (r : Result) (after : List ℕ) → Repairs sh (word_cells sh words) image before r after → Repairs sh flag image before r after
  repairs_table before r after = mended_as sh image before r after (RepairNear sh (word_cells sh words) image) (RepairNear sh flag image) (λ _ _. none) (λ _ _. none)
      (λ y a. record { cell = λ s t m l b e. a.cell s t m l b (c.flags s t m l b ∙ e) })
      (λ y a. record { cell = λ s t m l b e. a.cell s t m l b (sym (c.flags s t m l b) ∙ e) })
      (λ _ s. refl)
