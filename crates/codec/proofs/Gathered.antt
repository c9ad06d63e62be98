-- Reading the columns of a payload.
use mathlib.Core.Path.{◌≡◌, sym, ap, ◌∙◌}
use mathlib.Core.Logic.{◌≢◌, by_cases}
use mathlib.Core.List.{List}
use Prim.Native.Nat.{ℕ, ◌+◌, ◌*◌, ◌%◌, ◌<◌, ◌≤◌}
use native.Mathlib.Decide.{ℕ_discrete}
use native.Mathlib.Omega.{arith}
use lib.Arith.{digits_lt, digits_mod}
use lib.ListN.{length, set, length-set}
use lib.Seq.{get_or-set_same, get_or-set_other}
use Rattle.code.specs.Payload.{digits}
use Rattle.code.specs.Record.{Shape, track_length}
use Rattle.code.specs.Image.{image_size}
use Rattle.code.proofs.Digits.{digits_same}
use Rattle.track.proofs.Rows.{part, part_row}
use Rattle.syndrome.specs.Steps.{cells_of}
use Rattle.codec.specs.Steps.{data_number, ColumnRead, Reading}
use Rattle.codec.proofs.Rows.{track_room}

-- One more byte is read.
module _ (n w p : ℕ) (f : ℕ → ℕ) (before now : List ℕ) (v : ℕ) (column : p < w) where
  -- Bytes of other columns lie elsewhere.
  apart : (b q : ℕ) → q < w → q ≢ p → b * w + q ≢ n * w + p
  apart b q h d e = d (sym (digits_mod b h) ∙ ap (λ i. i % w) e ∙ digits_mod n column)

  pub column_more : ColumnRead n w p f before now → n * w + p < length before → v ≡ digits 8 (λ k. f (8 * n + k)) →
      ColumnRead (n + 1) w p f before (set now (n * w + p) v)
  column_more r room e = record {
    size = simp length-set r.size;
    here = λ b h. by_cases (ℕ_discrete b n)
        (λ k. rw k (get_or-set_same now (n * w + p) v 0 (omega (arith, r.size)) ∙ e))
        (λ k. let l : b < n = omega arith in get_or-set_other now _ _ v 0 (omega (arith, digits_lt l column)) ∙ r.here b l);
    there = λ b q h d. get_or-set_other now _ _ v 0 (apart b q h d) ∙ r.there b q h d;
    later = λ i h. let l : n < n + 1 = omega arith in
        get_or-set_other now _ i v 0 (omega (arith, digits_lt l column)) ∙ r.later i (omega (arith, digits_lt l column));
  }

-- The track of the next column is read.
module _ (sh : Shape) (n p : ℕ) (image before now after : List ℕ) (column : p < sh.t1 + sh.t2) (size : length image ≡ image_size sh) where
  abbrev l : ℕ
  l = track_length sh

  abbrev w : ℕ
  w = sh.t1 + sh.t2

  pub reading_more : 8 * n ≤ l → Reading sh n p image before now →
      ColumnRead n w p (cells_of (part l image (data_number sh p))) now after → Reading sh n (p + 1) image before after
  reading_more fits f c = record {
    size = c.size ∙ f.size;
    done = λ b q h k. by_cases (ℕ_discrete q p)
        (λ e. rw e (c.here b h ∙ digits_same 8 _ _ (λ i j. part_row l image (data_number sh p) (track_room sh p image column size) (8 * b + i) (omega arith))))
        (λ d. c.there b q (omega arith) d ∙ f.done b q h (omega arith));
    later = λ i h. c.later i h ∙ f.later i h;
  }
