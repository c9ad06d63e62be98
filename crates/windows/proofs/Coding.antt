-- Codes of words, and of windows.
use mathlib.Core.Path.{◌≡◌, sym, ap, ap₂, ◌∙◌}
use mathlib.Core.Logic.{◌≢◌}
use mathlib.Core.Bool.{Bool}
use mathlib.Core.List.{List}
use Prim.Native.Nat.{ℕ}
use native.Mathlib.Omega.{arith}
use lib.ListN.{length}
use Rattle.code.specs.declared.sizes.TrackSet.{TrackSet}
use Rattle.code.specs.declared.sizes.TrackSet.TheVariants.{A, B}
use Rattle.code.specs.Record.{Shape, tracks, track_length}
use Rattle.code.specs.Image.{track_number}
use Rattle.code.specs.Flags.{bit, word_flags, flag_count, in_window}
use Rattle.code.specs.Reach.{look_up, reach_code, flags_code}
use Rattle.code.specs.Spans.{window}
use Rattle.code.proofs.Sums.{sum_zero}
use Rattle.flags.specs.Words.{word_cells}
use Rattle.code.proofs.Same.{code_same}
use Rattle.windows.specs.Steps.{Joined, AllCoded, WordWithout}
use Rattle.windows.specs.Windows.{NoCode, WindowsFound}
use Rattle.windows.proofs.Bits.{no_bit}

-- A word with a code.
abbrev pub Coded : Shape → ℕ → Type 0
Coded sh word = flags_code sh (word_flags sh word) ≢ 0

-- A word without a flag has one.
none_counted : (sh : Shape) (s : TrackSet) → flag_count sh (word_flags sh 0) s ≡ 0
unfolding flag_count
none_counted sh s = sum_zero (tracks sh s) _ (λ t l. ap bit (no_bit (track_number sh s t)))

pub none_coded : (sh : Shape) → Coded sh 0
unfolding flags_code reach_code look_up
none_coded sh e = absurd (omega (arith, sym (ap₂ reach_code (none_counted sh A) (none_counted sh B)) ∙ e))

module _ (sh : Shape) (words near : List ℕ) (size : length words ≡ track_length sh) (j : Joined words window near) where
  -- A joined word flags the tracks with a flagged cell in its window.
  near_at : (s : TrackSet) (t m : ℕ) → word_cells sh near s t m ≡ in_window window (word_cells sh words) m s t
  near_at s t m = j.bits (track_number sh s t) m

  -- A word without a code is a window without one.
  no_code : WordWithout sh near → NoCode sh words
  no_code w = record {
    position = w.position;
    inside = omega (arith, w.inside, j.size);
    code = code_same sh _ _ (λ s t l. sym (near_at s t w.position)) ∙ w.code;
  }

  pub windows_found : (r : Bool) → AllCoded sh near r → WindowsFound sh words near r
  windows_found r h = record {
    near_size = j.size ∙ size;
    coded = λ e. record {
      words_size = size;
      near_size = j.size ∙ size;
      near_at = λ s t m l. near_at s t m;
      coded = λ m l. h.coded e m (omega (arith, j.size));
    };
    no_code = λ e. no_code (h.without e);
  }
