-- The working copy with its sums.
use mathlib.Core.Path.{◌≡◌, sym, subst, ◌∙◌}
use mathlib.Core.List.{List}
use Rattle.std.specs.Prelude.{Option}
use Prim.Native.Nat.{ℕ, ◌<◌, ◌≤◌}
use native.Mathlib.Omega.{arith}
use Rattle.code.specs.declared.sizes.TrackSet.{TrackSet}
use Rattle.code.specs.declared.sizes.TrackSet.TheVariants.{A, B}
use Rattle.code.specs.Record.{Shape, tracks, track_length, tail_tracks}
use Rattle.code.specs.Image.{cells}
use Rattle.code.specs.Flags.{TrackFlags}
use Rattle.code.specs.Sizes.{shape}
use Rattle.code.specs.declared.sizes.Sizes.{Sizes}
use Rattle.code.proofs.Cell.{tail_within}
use Rattle.forms.specs.Found.{Tails}
use Rattle.mend.specs.declared.Need.{Need}
use Rattle.mend.specs.Mend.{SumsIn, Explained, TailsBut, TailsCleared}
use Rattle.repair.specs.declared.Needs.{Needs}
use Rattle.repair.specs.Steps.{need_of, Prepared}

-- The tails of A are cleared, then those of B.
module _ (z : Sizes) (f : TrackFlags) (image copy mid out words : List ℕ) (a b : Need) (is_copy : copy ≡ image)
    (first_copy : TailsCleared z A f (tail_tracks (shape z) A) copy mid a) (second : TailsCleared z B f (tail_tracks (shape z) B) mid out b)
    (sums : SumsIn z out words) where
  abbrev sh : Shape
  sh = shape z

  first : TailsCleared z A f (tail_tracks (shape z) A) image mid a
  first = subst (λ (xs : List ℕ). TailsCleared z A f (tail_tracks (shape z) A) xs mid a) is_copy first_copy

  abbrev need : Needs
  need = record { a = a; b = b }

  -- Clearing one set leaves the other.
  still_a : (t m : ℕ) → t < tracks sh A → m < track_length sh → cells sh out A t m ≡ cells sh mid A t m
  still_a t m l h = second.same A t m l h (λ e. absurd cc)

  still_b : (t m : ℕ) → t < tracks sh B → m < track_length sh → cells sh mid B t m ≡ cells sh image B t m
  still_b t m l h = first.same B t m l h (λ e. absurd cc)

  tails : Tails sh (cells sh out)
  tails A t m i j k l = still_a t m (omega (arith, tail_within sh A)) l ∙ first.zero t m i j k l
  tails B t m i j k l = second.zero t m i j k l

  same : (s : TrackSet) (t m : ℕ) → t < tracks sh s → m < track_length sh → (1 ≤ t → t < tail_tracks sh s → z.positions ≤ m → ⊥) → cells sh out s t m ≡ cells sh image s t m
  same A t m l h n = still_a t m l h ∙ first.same A t m l h (λ e i j k. n i j k)
  same B t m l h n = second.same B t m l h (λ e i j k. n i j k) ∙ still_b t m l h

  fits : (s : TrackSet) (e : Option ℕ) → Explained (need_of need s) e → TailsBut z s f image (tail_tracks sh s) e
  fits A e n = first.fits e n
  fits B e n = λ t m i j u d k l. sym (still_b t m (omega (arith, tail_within sh B)) l) ∙ second.fits e n t m i j u d k l

  fails : (s : TrackSet) (e : Option ℕ) → (Explained (need_of need s) e → ⊥) → TailsBut z s f image (tail_tracks sh s) e → ⊥
  fails A e d w = first.fails e d w
  fails B e d w = second.fails e d (λ t m i j u g k l. still_b t m (omega (arith, tail_within sh B)) l ∙ w t m i j u g k l)

  pub both_cleared : Prepared z f image out words need
  both_cleared = record { copy = second.image; sums_in = sums; tails = tails; same = same; fits = fits; fails = fails }
