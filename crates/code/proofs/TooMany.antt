-- Too many is too many: from N = 2 (T1 + T2 + 1) + 1 positions up, the code of the flags is 0 exactly when two different good
-- records agree on all unflagged tracks.
use mathlib.Core.Path.{◌≡◌}
use mathlib.Core.Logic.{◌↔◌}
use Prim.Native.Nat.{◌+◌, ◌<◌}
use native.Mathlib.Decide.{ℕ_discrete}
use Rattle.code.specs.Record.{closed_tail, Shape, lag}
use Rattle.code.specs.Flags.{TrackFlags}
use Rattle.code.specs.Reach.{flags_code, Ambiguous}
use Rattle.code.proofs.Codes.{closed_within, code_within, code_past}
use Rattle.code.proofs.Unique.{unique_tracks}
use Rattle.code.proofs.Limit.{past_limit_ambiguous}

module _ (sh : Shape) (f : TrackFlags) (c : sh.closing ≡ closed_tail) where
  -- Flags with a code leave no doubt, at any size.
  ambiguous_code : Ambiguous sh f → flags_code sh f ≡ 0
  ambiguous_code a = go (ℕ_discrete (flags_code sh f) 0)
    where
      go : Dec (flags_code sh f ≡ 0) → flags_code sh f ≡ 0
      go (yes e) = e
      go (no n) = absurd (a.differ (unique_tracks sh a.one a.two a.good_one a.good_two f (code_within sh f c n) a.agree))

  code_ambiguous : lag sh + lag sh < sh.positions → flags_code sh f ≡ 0 → Ambiguous sh f
  code_ambiguous n e = past_limit_ambiguous sh f n (λ w. code_past sh f e (closed_within sh f c w.0 w.1 w.2))

  pub too_many : lag sh + lag sh < sh.positions → (flags_code sh f ≡ 0) ↔ Ambiguous sh f
  too_many n = (code_ambiguous n, ambiguous_code)
