-- Errors found and added.
use mathlib.Core.Path.{◌≡◌, refl, sym}
use mathlib.Core.Bool.{true, false, true≢false}
use mathlib.Core.List.{List, []}
use Rattle.std.specs.Prelude.{None}
use Prim.Native.Nat.{ℕ}
use lib.ListN.{length}
use Rattle.code.specs.declared.sizes.TrackSet.{TrackSet}
use Rattle.code.specs.Record.{vertical_end}
use Rattle.code.specs.Sizes.{shape}
use Rattle.code.specs.declared.sizes.Sizes.{Sizes}
use Rattle.plans.specs.declared.Form.{Form}
use Rattle.errors.specs.Steps.{Found}
use Rattle.mend.specs.Mend.{Added, Explained}
use Rattle.repair.specs.declared.Needs.{Needs}
use Rattle.repair.specs.Steps.{need_of, errors_in, MadeGood}

module _ (z : Sizes) (need : Needs) (p : Form) (rows out : List ℕ) where
  -- An extra track is needed.
  pub made_needed : (s : TrackSet) → (Explained (need_of need s) None → ⊥) → MadeGood z need p rows out out false
  made_needed s n = record {
    size = refl;
    words = [];
    none_needed = λ e. absurd (true≢false (sym e));
    found = λ e. absurd (true≢false (sym e));
    added = λ e. absurd (true≢false (sym e));
    failed = λ e all. absurd (n (all s));
  }

  -- A test failed.
  pub made_failed : (words : List ℕ) → Found z (vertical_end (shape z)) p rows words false → MadeGood z need p rows out out false
  made_failed words w = record {
    size = refl;
    words = words;
    none_needed = λ e. absurd (true≢false (sym e));
    found = λ e. absurd (true≢false (sym e));
    added = λ e. absurd (true≢false (sym e));
    failed = λ e all. w;
  }

  pub made_all : ((s : TrackSet) → Explained (need_of need s) None) → (words after : List ℕ) → Found z (vertical_end (shape z)) p rows words true → length after ≡ length out →
      Added z (errors_in p words) out after → MadeGood z need p rows out after true
  made_all none words after w l a = record {
    size = l;
    words = words;
    none_needed = λ e. none;
    found = λ e. w;
    added = λ e. a;
    failed = λ e. absurd (true≢false e);
  }
