-- The track numbers of columns.
use mathlib.Core.Path.{◌≡◌, refl}
use mathlib.Core.Logic.{◌≢◌, by_cases}
use Prim.Native.Nat.{ℕ, suc, ◌+◌, ◌*◌, ◌<◌, ◌≤◌}
use native.Mathlib.Decide.{dec_lt}
use native.Mathlib.Omega.{arith}
use borrow.Author.Tests.{lt-ltb, le-ltb}
use Rattle.code.specs.Record.{Shape, data_tracks, track_length}
use Rattle.code.specs.declared.sizes.TrackSet.{TrackSet}
use Rattle.code.specs.declared.sizes.TrackSet.TheVariants.{A, B}
use Rattle.code.specs.Image.{track_number, all_tracks, image_size}
use Rattle.code.specs.Payload.{payload_index}
use Rattle.code.proofs.Places.{row_end}
use Rattle.codec.specs.Steps.{data_number, DataStart}

-- The column that goes along track c + 1 of a set.
abbrev pub column : Shape → TrackSet → ℕ → ℕ
column sh A c = c
column sh B c = sh.t1 + c

module _ (sh : Shape) where
  -- The columns of A, and those of B.
  pub number_low : (p : ℕ) → p < sh.t1 → data_number sh p ≡ p + 1
  unfolding data_number
  number_low p h = rw (lt-ltb _ _ h)

  pub number_high : (p : ℕ) → sh.t1 ≤ p → data_number sh p ≡ p + 3
  unfolding data_number
  number_high p h = rw (le-ltb _ _ h)

  -- A column is one of A's or one of B's.
  by_number : (p : ℕ) (P : Type 0) → (p < sh.t1 → data_number sh p ≡ p + 1 → P) → (sh.t1 ≤ p → data_number sh p ≡ p + 3 → P) → P
  by_number p P low high = by_cases (dec_lt p sh.t1) (λ h. low h (number_low p h)) (λ h. let k : sh.t1 ≤ p = omega arith in high k (number_high p k))

  -- An image has the track.
  pub number_room : (p : ℕ) → p < sh.t1 + sh.t2 → data_number sh p * track_length sh + track_length sh ≤ image_size sh
  number_room p h = row_end (track_length sh) _ (all_tracks sh) (by_number p _ (λ k d. omega arith) (λ k d. omega arith))

  -- It begins there.
  pub starts : (p number r : ℕ) → p < sh.t1 + sh.t2 → r ≡ number * track_length sh → number ≡ data_number sh p → DataStart sh p r
  starts p number r h e d = record { is = rw d at e; room = rw (e, d) (number_room p h) }

  -- A later column has another track.
  pub later_number : (p q : ℕ) → q < p → data_number sh p ≢ data_number sh q
  later_number p q h = by_number p _
      (λ k d e. omega (arith, number_low q (omega arith)))
      (λ k d. by_number q _ (λ _ f e. omega arith) (λ _ f e. omega arith))

  -- Each data track has a column.
  pub column_lt : (s : TrackSet) (c : ℕ) → c < data_tracks sh s → column sh s c < sh.t1 + sh.t2
  column_lt A c h = omega arith
  column_lt B c h = omega arith

  -- It is the track's place in a block.
  pub column_index : (b : ℕ) (s : TrackSet) (c : ℕ) → payload_index sh b s c ≡ b * (sh.t1 + sh.t2) + column sh s c
  column_index b A c = refl
  column_index b B c = refl

  -- It goes along the track.
  pub column_number : (s : TrackSet) (c : ℕ) → c < data_tracks sh s → data_number sh (column sh s c) ≡ track_number sh s (suc c)
  column_number A c h = omega (arith, number_low c h)
  column_number B c h = omega (arith, number_high (sh.t1 + c) (omega arith))

  -- No column goes along a check track.
  pub first_unnumbered : (s : TrackSet) (q : ℕ) → track_number sh s 0 ≢ data_number sh q
  first_unnumbered A q = by_number q _ (λ k d e. omega arith) (λ k d e. omega arith)
  first_unnumbered B q = by_number q _ (λ k d e. omega arith) (λ k d e. omega arith)

  pub last_unnumbered : (s : TrackSet) (q : ℕ) → q < sh.t1 + sh.t2 → track_number sh s (suc (data_tracks sh s)) ≢ data_number sh q
  last_unnumbered A q h = by_number q _ (λ k d e. omega arith) (λ k d e. omega arith)
  last_unnumbered B q h = by_number q _ (λ k d e. omega arith) (λ k d e. omega arith)
