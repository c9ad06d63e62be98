-- Writing the columns of a payload.
use mathlib.Core.Path.{◌≡◌, sym, ◌∙◌}
use mathlib.Core.Logic.{◌≢◌, by_cases}
use mathlib.Core.List.{List}
use Prim.Native.Nat.{ℕ, ◌+◌, ◌*◌, ◌-◌, ◌<◌, ◌≤◌}
use native.Mathlib.Decide.{dec_lt, ℕ_discrete}
use native.Mathlib.Omega.{arith}
use borrow.Rule.Slice.PartMut.{put_mid}
use lib.ListN.{length, get_or}
use Rattle.code.specs.Record.{Shape, track_length}
use Rattle.code.proofs.Digits.{digits_same, digits_digit}
use Rattle.track.specs.Track.{Unpacked}
use Rattle.track.proofs.Rows.{part, part_length, part_row, new_length, new_here, new_there}
use Rattle.syndrome.specs.Steps.{cells_of}
use Rattle.codec.specs.Steps.{data_number, Filled, Filling}
use Rattle.codec.proofs.Columns.{later_number}
use Rattle.codec.proofs.Rows.{track_room}

-- One more byte is written.
module _ (l n w p : ℕ) (payload before : List ℕ) (v : ℕ) (after : List ℕ) (f : Filled l n w p payload (cells_of before))
    (u : Unpacked before (8 * n) v after) where
  -- A cell is of this byte, or stays.
  cell_bit : (m : ℕ) → m < l → get_or after m 0 < 2
  cell_bit m h = by_cases (dec_lt m (8 * n)) (λ k. rw (u.early m k) (f.bit m h)) (λ k. by_cases (dec_lt m (8 * n + 8)) (within k) (λ i. rw (u.later m (omega arith)) (f.bit m h)))
    where
      within : ¬ (m < 8 * n) → m < 8 * n + 8 → get_or after m 0 < 2
      within k i =
          let e : 8 * n + (m - 8 * n) ≡ m = omega arith in
          let c = u.cells (m - 8 * n) (omega arith) in
          omega (arith, rw e at c)

  pub filled_more : v < 256 → get_or payload (n * w + p) 0 ≡ v → Filled l (n + 1) w p payload (cells_of after)
  filled_more small e = record {
    bit = cell_bit;
    byte = λ b h. by_cases (ℕ_discrete b n)
        (λ k. rw k (e ∙ sym (digits_same 8 _ _ (λ i j. u.cells i j) ∙ digits_digit 8 v small)))
        (λ k. f.byte b (omega arith) ∙ digits_same 8 _ _ (λ i j. sym (u.early (8 * b + i) (omega arith))));
    rest = λ m h k. u.later m (omega arith) ∙ f.rest m (omega arith) k;
  }

-- A track with the same cells is filled alike.
pub filled_same : (l n w p : ℕ) (payload : List ℕ) (f g : ℕ → ℕ) → 8 * n ≤ l → ((m : ℕ) → m < l → f m ≡ g m) → Filled l n w p payload f → Filled l n w p payload g
filled_same l n w p payload f g fits same r = record {
  bit = λ m h. rw (sym (same m h)) (r.bit m h);
  byte = λ b h. r.byte b h ∙ digits_same 8 _ _ (λ k i. same (8 * b + k) (omega arith));
  rest = λ m h k. sym (same m k) ∙ r.rest m h k;
}

-- The track of the next column.
module _ (sh : Shape) (n p : ℕ) (payload image : List ℕ) (column : p < sh.t1 + sh.t2) (f : Filling sh n p payload image) where
  abbrev l : ℕ
  l = track_length sh

  abbrev w : ℕ
  w = sh.t1 + sh.t2

  abbrev r : ℕ
  r = data_number sh p

  -- The image has it.
  room : r * l + l ≤ length image
  room = track_room sh p image column f.size

  -- It is 0.
  pub next_blank : (m : ℕ) → m < length (part l image r) → get_or (part l image r) m 0 ≡ 0
  next_blank m h =
      let k : m < l = omega (arith, part_length l image r room) in
      part_row l image r room m k ∙ f.rest r m (λ q. later_number sh p q) k

  -- It is written.
  pub filling_more : (ys : List ℕ) → length ys ≡ length (part l image r) → 8 * n ≤ l →
      Filled (length (part l image r)) n w p payload (cells_of ys) → Filling sh n (p + 1) payload (put_mid (r * l) (r * l + l - r * l) image ys)
  filling_more ys size fits t = record {
    size = new_length l image r room ys size ∙ f.size;
    done = λ q h. by_cases (ℕ_discrete q p)
        (λ e. rw e (filled_same l n w p payload _ _ fits (λ m k. sym (new_here l image r room ys size m k)) (rw (part_length l image r room) at t)))
        (λ d. filled_same l n w q payload _ _ fits (λ m k. sym (new_there l image r room ys size _ m (other q (omega arith)) k)) (f.done q (omega arith)));
    rest = λ g m apart k. new_there l image r room ys size g m (apart p (omega arith)) k ∙ f.rest g m (λ q h. apart q (omega arith)) k;
  }
    where
      other : (q : ℕ) → q < p → data_number sh q ≢ r
      other q h e = later_number sh p q h (sym e)
