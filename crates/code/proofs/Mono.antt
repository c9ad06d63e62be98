-- D^e: the track whose one cell is at e.
use mathlib.Core.Path.{◌≡◌, refl}
use mathlib.Core.Logic.{◌≢◌}
use Prim.Native.Nat.{ℕ, zero, suc, ◌+◌}
use native.Mathlib.Omega.{arith}
use Rattle.code.specs.Record.{back}
use Rattle.code.proofs.Sums.{back_at, back_zero, back_back}

-- D^0: 1 at 0, and 0 later.
start : ℕ → ℕ
start zero = 1
start (suc m) = 0

start_late : (m : ℕ) → m ≢ 0 → start m ≡ 0
unfolding start
start_late zero d = absurd (d refl)
start_late (suc m) d = refl

-- D^e is D^0, shifted by e.
pub mono : ℕ → ℕ → ℕ
mono e m = back start m e

-- Its one cell is at e.
pub mono_hit : (e m : ℕ) → e ≡ m → mono e m ≡ 1
unfolding mono start
mono_hit e m h = back_at start 0 e m (omega arith)

-- All its other cells are 0.
pub mono_miss : (e m : ℕ) → e ≢ m → mono e m ≡ 0
unfolding mono
mono_miss e m d = back_zero start m e (λ p h. start_late p (omega arith))

-- Shifted by k, it is D^(e + k).
pub back_mono : (e m k : ℕ) → back (mono e) m k ≡ mono (e + k) m
unfolding mono
back_mono e m k = back_back start m e k
