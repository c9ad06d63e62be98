-- Flags by stretch: at most one good record where every window has a code, and stretches that are whole tracks.
use mathlib.Core.Path.{◌≡◌, refl, sym, ap, ◌∙◌}
use mathlib.Core.Logic.{◌↔◌}
use mathlib.Core.Bool.{Bool, true, false, ◌&&◌}
use Prim.Native.Nat.{ℕ, ◌+◌, ◌<◌, ◌≤◌}
use native.Mathlib.Omega.{arith}
use borrow.Author.Tests.{lt-ltb, ltb-true}
use lib.Dec.{ltb}
use Rattle.code.specs.Record.{TrackSet, closed_tail, Shape, lag, track_length, Cells}
use Rattle.code.specs.Flags.{TrackFlags, CellFlags, AgreeOff}
use Rattle.code.specs.Reach.{flags_code, AtMostOne}
use Rattle.code.specs.Spans.{window, to_tail_end, window_flags, WindowsCoded, WindowTooMany, OnTracks}
use Rattle.code.proofs.Codes.{code_within}
use Rattle.code.proofs.Any.{any_none, any_some}
use Rattle.code.proofs.Same.{SameFlags, code_same}
use Rattle.code.proofs.Unique.{unique}

module _ (sh : Shape) (flag : CellFlags) where
  -- Before the tail's end the flags are as they are.
  pub before_end : (s : TrackSet) (t m : ℕ) → m < track_length sh → to_tail_end sh flag s t m ≡ flag s t m
  before_end s t m b = ap (λ (c : Bool). c && flag s t m) (lt-ltb m (track_length sh) b)

  agree_to_end : (x y : Cells) → AgreeOff sh flag x y → AgreeOff sh (to_tail_end sh flag) x y
  agree_to_end x y a = record { cell = λ s t m l b e. a.cell s t m l b (sym (before_end s t m b) ∙ e) }

  -- At most one good record equals x on every cell that is not flagged.
  pub one_by_windows : sh.closing ≡ closed_tail → lag sh ≤ window → WindowsCoded sh flag → (x : Cells) → AtMostOne sh (AgreeOff sh flag x)
  one_by_windows c w coded x y z gy gz p q = unique sh y z gy gz window w (to_tail_end sh flag)
      (λ m b. code_within sh _ c (coded m (omega arith)))
      (agree_to_end y z (record { cell = λ s t m l b e. sym (p.cell s t m l b e) ∙ q.cell s t m l b e }))

  -- ## Whole tracks

  module _ (f : TrackFlags) (on : OnTracks sh flag f) where
    -- Every window has the flagged tracks.
    window_same : (m : ℕ) → m < track_length sh → SameFlags sh (window_flags sh flag m) f
    window_same m b s t l = go (f s t) refl
      where
        at : (k : ℕ) → m + k < track_length sh → to_tail_end sh flag s t (m + k) ≡ f s t
        at k h = before_end s t (m + k) h ∙ on s t (m + k) l h

        clear : f s t ≡ false → (k : ℕ) → to_tail_end sh flag s t (m + k) ≡ false
        clear e k = past (ltb (m + k) (track_length sh)) refl
          where
            past : (c : Bool) → ltb (m + k) (track_length sh) ≡ c → to_tail_end sh flag s t (m + k) ≡ false
            past true q = at k (ltb-true _ _ q) ∙ e
            past false q = ap (λ (c : Bool). c && flag s t (m + k)) q

        go : (c : Bool) → f s t ≡ c → window_flags sh flag m s t ≡ f s t
        go true e = any_some window (λ k. to_tail_end sh flag s t (m + k)) 0 (omega arith) (at 0 (omega arith) ∙ e) ∙ sym e
        go false e = any_none window (λ k. to_tail_end sh flag s t (m + k)) (λ k h. clear e k) ∙ sym e

    window_code : (m : ℕ) → m < track_length sh → flags_code sh (window_flags sh flag m) ≡ flags_code sh f
    window_code m b = code_same sh _ f (window_same m b)

    -- A window has code 0 exactly where the flagged tracks have.
    pub too_many_on_tracks : 0 < track_length sh → WindowTooMany sh flag ↔ (flags_code sh f ≡ 0)
    too_many_on_tracks b = (
      λ w. sym (window_code w.position w.inside) ∙ w.code,
      λ e. record { position = 0; inside = b; code = window_code 0 b ∙ e },
    )
