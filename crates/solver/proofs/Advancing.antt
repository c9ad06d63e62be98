-- One track of a set is made right by the verticals, position by position.
use mathlib.Core.Path.{◌≡◌, refl, ◌∙◌}
use mathlib.Core.Logic.{by_cases}
use mathlib.Core.List.{List}
use Prim.Native.Nat.{ℕ, ◌+◌, ◌<◌}
use native.Mathlib.Decide.{dec_lt}
use native.Mathlib.Omega.{arith}
use Rattle.std.specs.Prelude.{Option}
use Rattle.code.specs.declared.sizes.TrackSet.{TrackSet}
use Rattle.code.specs.Record.{vertical_end, Cells, Good}
use Rattle.code.specs.Image.{cells}
use Rattle.code.specs.Sizes.{shape}
use Rattle.code.specs.declared.sizes.Sizes.{Sizes}
use Rattle.code.proofs.Cell.{vertical_within, by_vertical}
use Rattle.syndrome.specs.Syndrome.{Kept}
use Rattle.solver.specs.declared.Rule.TheVariants.{Vertical}
use Rattle.solver.specs.Steps.{By, Others, Ahead}
use Rattle.solver.proofs.Sets.{same_track}
use Rattle.solver.proofs.Settling.{RightCell, right_cell}
use Rattle.solver.proofs.Stepping.{still_both}

-- Nothing is done yet.
pub ahead_none : {z : Sizes} {s : TrackSet} {track : Option ℕ} {from : ℕ} {out syn : List ℕ} → Kept z out syn → Ahead z s track from from out out syn
ahead_none k = record {
  kept = k;
  order = omega arith;
  only = λ r u q l b n. refl;
  still = λ y g rest. record { cell = λ r u q l b e. e };
  right = λ y g rest t e l q h b. absurd (omega arith);
}

-- By the vertical at p.
pub ahead_more : {z : Sizes} {s : TrackSet} {track : Option ℕ} {from p : ℕ} {o₀ o₁ o₂ n₁ n₂ : List ℕ} → p < vertical_end (shape z) →
    Ahead z s track from p o₀ o₁ n₁ → By Vertical z s track p o₁ o₂ n₂ → Ahead z s track from (p + 1) o₀ o₂ n₂
ahead_more {z} {s} {track} {from} {p} {o₀} {o₁} {o₂} h v w = record {
  kept = w.kept;
  order = omega (arith, v.order);
  only = λ r u q l b n. w.there r u q l b (λ i j k. n i j (omega (arith, v.order)) (omega arith)) ∙ v.only r u q l b (λ i j a c. n i j a (omega arith));
  still = λ y g rest. still_both (v.still y g (old y rest)) (now y g rest).still;
  right = λ y g rest t e l q a b. by_cases (dec_lt q p)
      (λ k. (now y g rest).still.cell s t q l (omega (arith, vertical_within (shape z))) (v.right y g (old y rest) t e l q a k))
      (λ k. let d : q ≡ p = omega arith in rw d ((now y g rest).cell t e l));
}
  where
    old : (y : Cells) → Others z s track from (p + 1) y o₀ → Others z s track from p y o₀
    old y rest u q i a b d = rest u q i a (omega arith) d

    now : (y : Cells) → Good (shape z) y → Others z s track from (p + 1) y o₀ → RightCell (shape z) y (cells (shape z) o₁) (cells (shape z) o₂) s track p
    now y g rest = right_cell y w (λ t e l. by_vertical (shape z) (cells (shape z) o₁) y g s t p l h
        (λ u i d. v.only s u p i (omega (arith, vertical_within (shape z))) (λ _ k _ _. d (same_track k e))
        ∙ rest u p i v.order (omega arith) (λ k. d (same_track k e))))
