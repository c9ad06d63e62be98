-- One track's tail is cleared.
use mathlib.Core.Path.{◌≡◌, refl, sym, ap, ◌∙◌}
use mathlib.Core.Logic.{by_cases}
use mathlib.Core.Bool.{Bool, true, false, true≢false}
use mathlib.Core.List.{List}
use Prim.Native.Nat.{ℕ, ◌+◌, ◌*◌, ◌-◌, ◌<◌, ◌≤◌}
use native.Mathlib.Decide.{dec_lt, ℕ_discrete}
use native.Mathlib.Omega.{arith}
use borrow.Rule.Slice.PartMut.{put_mid, mid_len, same_len_mid}
use lib.Arith.{digits_lt}
use lib.ListN.{length, get_or, take, drop}
use Rattle.code.specs.declared.sizes.TrackSet.{TrackSet}
use Rattle.code.specs.declared.sizes.TrackSet.TheVariants.{A, B}
use Rattle.code.specs.Record.{Shape, tracks, lag, track_length}
use Rattle.code.specs.Image.{track_number, image_size, cells}
use Rattle.code.specs.Sizes.{shape}
use Rattle.code.specs.declared.sizes.Sizes.{Sizes}
use Rattle.code.proofs.Patterns.{apart}
use Rattle.track.specs.Track.{Cleared}
use Rattle.track.proofs.Parts.{put_before, put_in, put_after}
use Rattle.track.proofs.Rows.{row_end}
use Rattle.syndrome.specs.Syndrome.{Image}
use Rattle.syndrome.specs.Steps.{TrackTested}
use Rattle.syndrome.proofs.Testing.{tail_of}
use Rattle.mend.specs.Mend.{TailCleared}

-- Tracks with the same number are the same.
same_track : (sh : Shape) (c s : TrackSet) (u t : ℕ) → u < tracks sh c → t < tracks sh s → track_number sh c u ≡ track_number sh s t → (c ≡ s) × (u ≡ t)
same_track sh A A u t h k e = (refl, e)
same_track sh A B u t h k e = absurd (omega arith)
same_track sh B A u t h k e = absurd (omega arith)
same_track sh B B u t h k e = (refl, omega arith)

-- The cells from `start` on, `size` of them, are 0 now, and the others stay.
record Blank (start size : ℕ) (before after : List ℕ) : Type 0 where
  pub length_same : length after ≡ length before
  pub early : (i : ℕ) → i < start → get_or after i 0 ≡ get_or before i 0
  pub here : (m : ℕ) → m < size → get_or after (start + m) 0 ≡ 0
  pub later : (i : ℕ) → start + size ≤ i → get_or after i 0 ≡ get_or before i 0

-- A part that came back cleared.
blank : (start size k : ℕ) (out last : List ℕ) → k ≡ start + size - start → start + size ≤ length out → Cleared (take k (drop start out)) last →
    Blank start size out (put_mid start k out last)
blank start size k out last e room c = rw e (go (rw e at c))
  where
    go : Cleared (take (start + size - start) (drop start out)) last → Blank start size out (put_mid start (start + size - start) out last)
    go d =
        let fits : length last ≡ start + size - start = d.size ∙ mid_len start (start + size) out room in
        record {
          length_same = same_len_mid start (start + size - start) out last d.size;
          early = put_before out last start size room fits;
          here = λ m h. put_in out last start size room fits m h ∙ d.none m;
          later = put_after out last start size room fits;
        }

-- Bits stay bits.
blank_bits : (start size : ℕ) (before after : List ℕ) → Blank start size before after → ((i : ℕ) → get_or before i 0 < 2) → (i : ℕ) → get_or after i 0 < 2
blank_bits start size before after b bits i = by_cases (dec_lt i start)
    (λ h. omega (arith, b.early i h, bits i))
    (λ h. by_cases (dec_lt i (start + size))
    (λ k. let e : start + (i - start) ≡ i = omega arith in omega (arith, ap (λ j. get_or after j 0) e, b.here (i - start) (omega arith)))
    (λ k. omega (arith, b.later i (omega arith), bits i)))

-- A tail that is 0 is left as it is.
pub tail_kept : (z : Sizes) (s : TrackSet) (t : ℕ) (out : List ℕ) (r : Bool) → Image (shape z) out → TrackTested (shape z) (cells (shape z) out) s t r → r ≡ true →
    TailCleared z s t out out false
tail_kept z s t out r image tested e = record {
  image = image;
  zero = (tested.yes e).zero;
  same = λ c u m h k d. refl;
  was_zero = λ _. (tested.yes e).zero;
  was_not = λ f. absurd (true≢false (sym f));
}

-- One that is not 0 is cleared.
pub tail_cleared : (z : Sizes) (s : TrackSet) (t : ℕ) (out : List ℕ) (r : Bool) → t < tracks (shape z) s → Image (shape z) out →
    TrackTested (shape z) (cells (shape z) out) s t r → r ≡ false →
    let g = track_number (shape z) s t in
    let l = track_length (shape z) in
    g * l + l ≤ image_size (shape z) → (last : List ℕ) → Cleared (tail_of z g out) last →
    TailCleared z s t out (put_mid (g * l + z.positions) (g * l + l - (g * l + z.positions)) out last) true
tail_cleared z s t out r has image tested e fits last c = record {
  image = record { size = b.length_same ∙ image.size; bits = blank_bits _ _ _ _ b image.bits };
  zero = λ m p q. ap (λ j. get_or after j 0) (omega arith) ∙ b.here (m - z.positions) (omega arith);
  same = λ c u m h k d. by_cases (ℕ_discrete (track_number (shape z) c u) g)
      (λ o. by_cases (dec_lt m z.positions)
      (λ p. b.early _ (omega (arith, ap (λ v. v * l) o)))
      (λ p. let w = same_track (shape z) c s u t h has o in absurd (d w.0 w.1 (omega arith))))
      (λ o. apart (track_number (shape z) c u) g o
      (λ p. b.early _ (omega (arith, digits_lt p k)))
      (λ p. b.later _ (omega (arith, row_end l g (track_number (shape z) c u) p))));
  was_zero = λ f. absurd (true≢false f);
  was_not = λ f h. tested.no e (record { zero = h });
}
  where
    g : ℕ
    g = track_number (shape z) s t

    l : ℕ
    l = track_length (shape z)

    after : List ℕ
    after = put_mid (g * l + z.positions) (g * l + l - (g * l + z.positions)) out last

    b : Blank (g * l + z.positions) (lag (shape z)) out after
    b = blank (g * l + z.positions) (lag (shape z)) (g * l + l - (g * l + z.positions)) out last (omega arith) (omega (arith, fits, image.size)) c
