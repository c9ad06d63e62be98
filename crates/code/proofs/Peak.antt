-- The determinant of two pairs out of three tracks of a set is not 0.
use mathlib.Core.Path.{◌≡◌}
use mathlib.Core.Logic.{◌≢◌}
use Prim.Native.Nat.{ℕ, ◌+◌, ◌-◌, ◌<◌, ◌≤◌}
use native.Mathlib.Decide.{dec_le}
use native.Mathlib.Omega.{arith}
use Rattle.code.specs.Record.{TrackSet, other, Shape, data_tracks, tracks, lag}
use Rattle.code.proofs.Cell.{lag_sets}
use Rattle.code.proofs.Mono.{mono, mono_hit, mono_miss}
use Rattle.code.proofs.OneTrack.{offset, offset_both, offset_vertical}
use Rattle.code.proofs.Determinant.{Spans, det, det_cells}
use Rattle.code.proofs.Pairs.{spans_of}

-- A position of the data at which the determinant of two pairs is 1.
pub record Peak (sh : Shape) (c e : Spans) : Type 0 where
  pub position : ℕ
  pub early : position < sh.positions
  pub one : det c e position ≡ 1

-- Two pairs out of three tracks have one: of the tracks that are no vertical tracks, the first and the last make a cell of their own.
pub peak : (sh : Shape) (s : TrackSet) (i j k : ℕ) → i < j → j < k → k < tracks sh s → lag sh + lag sh < sh.positions →
    Peak sh (spans_of sh s i j) (spans_of sh s j k)
peak sh s i j k ij jk h n = go (dec_le k (data_tracks sh s))
  where
    -- A track's offsets on its own set's diagonal and on the other's.
    a : ℕ → ℕ
    a t = offset sh s s t

    b : ℕ → ℕ
    b t = offset sh (other s) s t

    -- Of the determinant's eight cells just one is at m.
    at : (m : ℕ) → m < sh.positions → mono (a j + b i) m + mono (a k + b i) m ≡ 1 →
        (b j + a i ≢ m) × (b k + a i ≢ m) × (b j + a j ≢ m) × (b k + a j ≢ m) × (a k + b j ≢ m) → Peak sh (spans_of sh s i j) (spans_of sh s j k)
    at m l e d = record {
      position = m;
      early = l;
      one = omega (
        arith,
        det_cells s (spans_of sh s i j) (spans_of sh s j k) m,
        mono_miss (b j + a i) m d.0,
        mono_miss (b k + a i) m d.1,
        mono_miss (b j + a j) m d.2,
        mono_miss (b k + a j) m d.3,
        mono_miss (a k + b j) m d.4,
        mono_miss (a j + b j) m (omega arith),
      );
    }

    go : Dec (k ≤ data_tracks sh s) → Peak sh (spans_of sh s i j) (spans_of sh s j k)
    go (yes l) =
        let w = lag_sets sh s in
        let m = k + (lag sh - i) in
        let ri = offset_both sh s i (omega arith) in
        let rj = offset_both sh s j (omega arith) in
        let rk = offset_both sh s k l in
        at m (omega arith) (omega (arith, mono_miss (a j + b i) m (omega arith), mono_hit (a k + b i) m (omega arith))) (omega arith)
    go (no l) =
        let w = lag_sets sh s in
        let m = j + (lag sh - i) in
        let ri = offset_both sh s i (omega arith) in
        let rj = offset_both sh s j (omega arith) in
        let ak = offset_vertical sh s s k (omega arith) in
        let bk = offset_vertical sh (other s) s k (omega arith) in
        at m (omega arith) (omega (arith, mono_hit (a j + b i) m (omega arith), mono_miss (a k + b i) m (omega arith))) (omega arith)
