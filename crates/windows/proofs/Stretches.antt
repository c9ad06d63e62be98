-- Stretches of the image: in one track a run of positions, and one stretch after the other.
use mathlib.Core.Path.{◌≡◌, refl, sym, ap, ap₂, ◌∙◌}
use mathlib.Core.Logic.{◌≢◌, by_cases}
use mathlib.Core.Bool.{Bool, true, false, ◌&&◌, ◌||◌, not}
use mathlib.Core.List.{List}
use Prim.Native.Nat.{ℕ, ◌+◌, ◌*◌, ◌-◌, ◌/◌, ◌^◌, ◌<◌, ◌≤◌}
use native.Mathlib.Decide.{dec_lt, ℕ_discrete}
use native.Mathlib.Nat.{div-lt_iff_lt-mul}
use native.Mathlib.Omega.{arith}
use borrow.Author.Tests.{lt-ltb, le-ltb, eq-eqb, ne_eqb}
use borrow.Rule.Slice.PartMut.{put_mid, mid_len, same_len_mid}
use lib.Bits.{bit_or}
use lib.Dec.{eqb, ltb}
use lib.ListN.{length, get_or, take, drop}
use Rattle.code.proofs.Patterns.{apart}
use Rattle.track.proofs.Parts.{part_at, put_before, put_in, put_after}
use Rattle.track.proofs.Rows.{row_end}
use Rattle.flags.specs.Words.{bit_at}
use Rattle.windows.specs.Steps.{in_stretch, RunFlagged, StretchFlagged}
use Rattle.code.proofs.Any.{or_off}
use Rattle.windows.proofs.Bits.{or_bit, one_bit}

-- ## Cells before, in and after a stretch

module _ (from to i : ℕ) where
  early : i < from → in_stretch from to i ≡ false
  early h = ap (λ (b : Bool). not b && ltb i to) (lt-ltb i from h)

  inside : from ≤ i → i < to → in_stretch from to i ≡ true
  inside h k = ap₂ (λ (a b : Bool). not a && b) (le-ltb i from h) (lt-ltb i to k)

  late : to ≤ i → in_stretch from to i ≡ false
  late h = ap (λ (b : Bool). not (ltb i from) && b) (le-ltb i to h) ∙ and_off (not (ltb i from))
    where
      and_off : (a : Bool) → a && false ≡ false
      and_off true = refl
      and_off false = refl

-- ## A stretch of one track

-- The track number of a cell of the image.
pub track_of : (l i : ℕ) → 0 < l → i < 18 * l → i / l < 18
track_of l i some h = (div-lt_iff_lt-mul some).1 h

-- From position `start` of track number q on k cells, and cell m of track number g.
module _ (l q start k : ℕ) (fits : start + k ≤ l) (g m : ℕ) (within : m < l) where
  abbrev from : ℕ
  from = q * l + start

  abbrev cell : ℕ
  cell = g * l + m

  -- Other tracks lie before it or after it.
  other_track : g ≢ q → in_stretch from (from + k) cell ≡ false
  other_track d = apart g q d
      (λ h. early from (from + k) cell (omega (arith, row_end l g q h)))
      (λ h. late from (from + k) cell (omega (arith, row_end l q g h)))

  -- So do positions before the run and after it.
  early_position : m < start → in_stretch from (from + k) cell ≡ false
  early_position h = by_cases (ℕ_discrete g q) (λ e. early from (from + k) cell (omega (arith, ap (λ (r : ℕ). r * l) e))) other_track

  late_position : start + k ≤ m → in_stretch from (from + k) cell ≡ false
  late_position h = by_cases (ℕ_discrete g q) (λ e. late from (from + k) cell (omega (arith, ap (λ (r : ℕ). r * l) e))) other_track

  -- The run's positions are in it in the track alone.
  own_position : start ≤ m → m < start + k → in_stretch from (from + k) cell ≡ eqb g q
  own_position h i = by_cases (ℕ_discrete g q)
      (λ e.
      let same = ap (λ (r : ℕ). r * l) e in
      inside from (from + k) cell (omega (arith, same)) (omega (arith, same)) ∙ sym (eq-eqb g q e))
      (λ d. other_track d ∙ sym (ne_eqb g q d))

-- The run that came back with its track's bit: the stretch is flagged.
module _ (l q start k : ℕ) (fits : start + k ≤ l) (before : List ℕ) (size_is : length before ≡ l)
    (bit : ℕ) (bit_is : bit ≡ 2 ^ q) (run : List ℕ) (f : RunFlagged (take (start + k - start) (drop start before)) bit run) where
  abbrev new : List ℕ
  new = put_mid start (start + k - start) before run

  room : start + k ≤ length before
  room = omega (arith, fits, size_is)

  run_length : length run ≡ start + k - start
  run_length = f.size ∙ mid_len start (start + k) before room

  -- A word of the run.
  in_run : (m : ℕ) → start ≤ m → m < start + k → get_or new m 0 ≡ bit_or (get_or before m 0) (2 ^ q)
  in_run m a b =
      let e : start + (m - start) ≡ m = omega arith in
      rw e at (put_in before run start k room run_length (m - start) (omega arith)
      ∙ f.words (m - start) (omega (arith, f.size, run_length))
      ∙ ap₂ bit_or (part_at before start (start + k - start) (m - start) (omega arith)) bit_is)

  flags_at : (g m : ℕ) → m < l → bit_at (get_or new m 0) g ≡ bit_at (get_or before m 0) g || in_stretch (q * l + start) (q * l + start + k) (g * l + m)
  flags_at g m h = by_cases (dec_lt m start)
      (λ a. same (put_before before run start k room run_length m a) (early_position l q start k fits g m h a))
      (λ a. by_cases (dec_lt m (start + k))
      (λ b. ap (λ (v : ℕ). bit_at v g) (in_run m (omega arith) b) ∙ or_bit (get_or before m 0) (2 ^ q) g
      ∙ ap (λ (v : Bool). bit_at (get_or before m 0) g || v) (one_bit q g ∙ sym (own_position l q start k fits g m h (omega arith) b)))
      (λ b. same (put_after before run start k room run_length m (omega arith)) (late_position l q start k fits g m h (omega arith))))
    where
      same : get_or new m 0 ≡ get_or before m 0 → in_stretch (q * l + start) (q * l + start + k) (g * l + m) ≡ false →
          bit_at (get_or new m 0) g ≡ bit_at (get_or before m 0) g || in_stretch (q * l + start) (q * l + start + k) (g * l + m)
      same p r = ap (λ (v : ℕ). bit_at v g) p ∙ sym (ap (λ (v : Bool). bit_at (get_or before m 0) g || v) r ∙ or_off _)

  pub run_flagged : (from to : ℕ) → q * l + start ≡ from → from + k ≡ to → StretchFlagged l before from to new
  run_flagged from to p r = rw (sym r, sym p) (record {
    size = same_len_mid start (start + k - start) before run f.size;
    flags = flags_at;
  })
