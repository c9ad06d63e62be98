-- What passes the test makes a good record, which agrees off the flags.
use mathlib.Core.Path.{◌≡◌, refl, sym, ap, ◌∙◌}
use mathlib.Core.Logic.{by_cases}
use mathlib.Core.Bool.{true, false, true≢false}
use Prim.Native.Nat.{ℕ, zero, suc, ◌+◌, ◌<◌, ◌≤◌, ◌%◌}
use native.Mathlib.Decide.{dec_lt}
use native.Mathlib.Omega.{arith}
use Rattle.code.specs.declared.sizes.TrackSet.{TrackSet}
use Rattle.code.specs.declared.sizes.TrackSet.TheVariants.{A, B}
use Rattle.code.specs.Record.{Closing, closed_tail, open_tail, Shape, data_tracks, tracks, track_length, vertical_end, tail_tracks, Cells, back, diagonal, vertical, Good, blank}
use Rattle.code.specs.Flags.{TrackFlags, whole, AgreeOff}
use Rattle.code.proofs.Sums.{back_same, back_zero, back_add, back_mod}
use Rattle.code.proofs.Cell.{vertical_within}
use Rattle.code.proofs.Closings.{closed_tracks}
use Rattle.code.proofs.Linear.{◌⊞◌, plus, diagonal_add, vertical_add, good_bits}
use Rattle.code.proofs.OneTrack.{put, put_off, put_zero, offset, diagonal_put, vertical_on, vertical_off}
use Rattle.plans.specs.declared.Form.{Form}
use Rattle.plans.specs.Plans.{pivot, room, Room, no_pivot, data_pivot, zero_pivot, vertical_pivot, Fits, count, v_of, u_of}
use Rattle.forms.specs.Streams.{Stream, cut}
use Rattle.forms.specs.Forms.{left, met}
use Rattle.forms.specs.Found.{Sums, Tails, low_sum, only_in, residue, pivot_sum, Tested, errors}
use Rattle.forms.proofs.Shifts.{cut_in, cut_zero, cut_out}
use Rattle.forms.proofs.Lows.{low_same, low_zero, low_add, low_sets, Ordered, form_order}

-- ## Sums of the tracks below the pivots

back_low : (k : ℕ) (a b : Stream) (m o : ℕ) → back (λ p. low_sum k (a p) (b p)) m o ≡ low_sum k (back a m o) (back b m o)
back_low zero a b m o = back_zero _ m o (λ p e. refl)
back_low (suc zero) a b m o = refl
back_low (suc (suc k)) a b m o = back_add a b m o

back_only : (s c : TrackSet) (e : Stream) (m o : ℕ) → back (λ p. only_in s c (e p)) m o ≡ only_in s c (back e m o)
back_only A A e m o = refl
back_only A B e m o = back_zero _ m o (λ p e. refl)
back_only B A e m o = back_zero _ m o (λ p e. refl)
back_only B B e m o = refl

only_zero : (s c : TrackSet) → only_in s c 0 ≡ 0
only_zero A A = refl
only_zero A B = refl
only_zero B A = refl
only_zero B B = refl

diagonal_low : (sh : Shape) (k : ℕ) (a b : Cells) (d : TrackSet) (m : ℕ) →
    diagonal sh (λ c t p. low_sum k (a c t p) (b c t p)) d m ≡ low_sum k (diagonal sh a d m) (diagonal sh b d m)
diagonal_low sh zero a b d m = omega (arith, diagonal_add sh blank blank d m)
diagonal_low sh (suc zero) a b d m = refl
diagonal_low sh (suc (suc k)) a b d m = diagonal_add sh a b d m

vertical_low : (sh : Shape) (k : ℕ) (a b : Cells) (c : TrackSet) (m : ℕ) →
    vertical sh (λ c t p. low_sum k (a c t p) (b c t p)) c m ≡ low_sum k (vertical sh a c m) (vertical sh b c m)
vertical_low sh zero a b c m = omega (arith, vertical_add sh blank blank c m)
vertical_low sh (suc zero) a b c m = refl
vertical_low sh (suc (suc k)) a b c m = vertical_add sh a b c m

vertical_only : (sh : Shape) (s : TrackSet) (t : ℕ) (f : Stream) (c : TrackSet) (m : ℕ) → t < tracks sh s → vertical sh (put s t f) c m ≡ only_in s c (f m)
vertical_only sh A t f A m h = vertical_on sh A t f m h
vertical_only sh A t f B m h = vertical_off sh A t f m
vertical_only sh B t f A m h = vertical_off sh B t f m
vertical_only sh B t f B m h = vertical_on sh B t f m h

only_sets : (c : TrackSet) (f : TrackSet → ℕ) → only_in A c (f A) + only_in B c (f B) ≡ f c
only_sets A f = omega arith
only_sets B f = omega arith

-- ## The sums of the errors of a form

module _ (sh : Shape) (p : Form) (P : TrackSet → Stream) (U E : Stream) where
  abbrev s : TrackSet
  s = (v_of p).s

  abbrev q : TrackSet
  q = (u_of p).s

  -- The tracks below the pivots, and the pivots.
  abbrev low_errors : Cells
  low_errors c t m = low_sum (count p) (put s (v_of p).t E c t m) (put q (u_of p).t U c t m)

  abbrev pivot_errors : Cells
  pivot_errors = put A (pivot p A) (P A) ⊞ put B (pivot p B) (P B)

  diagonal_errors : (d : TrackSet) (m : ℕ) → m < track_length sh → diagonal sh (errors p P U E) d m ≡
      back (P A) m (offset sh d A (pivot p A)) + back (P B) m (offset sh d B (pivot p B))
      + low_sum (count p) (back E m (offset sh d s (v_of p).t)) (back U m (offset sh d q (u_of p).t))
  unfolding errors
  diagonal_errors d m b = omega (
    arith,
    diagonal_add sh pivot_errors low_errors d m,
    diagonal_add sh (put A (pivot p A) (P A)) (put B (pivot p B) (P B)) d m,
    diagonal_put sh A (pivot p A) (P A) d m b,
    diagonal_put sh B (pivot p B) (P B) d m b,
    diagonal_low sh (count p) (put s (v_of p).t E) (put q (u_of p).t U) d m,
    low_same (count p) (diagonal sh (put s (v_of p).t E) d m) (diagonal sh (put q (u_of p).t U) d m) (back E m (offset sh d s (v_of p).t)) (back U m (offset sh d q (u_of p).t))
        (λ h. diagonal_put sh s (v_of p).t E d m b) (λ h. diagonal_put sh q (u_of p).t U d m b),
  )

  vertical_errors : ((c : TrackSet) → pivot p c < tracks sh c) → (1 ≤ count p → (v_of p).t < tracks sh s) → (2 ≤ count p → (u_of p).t < tracks sh q) →
      (c : TrackSet) (m : ℕ) → vertical sh (errors p P U E) c m ≡ P c m + low_sum (count p) (only_in s c (E m)) (only_in q c (U m))
  unfolding errors
  vertical_errors hp hv hu c m = omega (
    arith,
    vertical_add sh pivot_errors low_errors c m,
    vertical_add sh (put A (pivot p A) (P A)) (put B (pivot p B) (P B)) c m,
    vertical_only sh A (pivot p A) (P A) c m (hp A),
    vertical_only sh B (pivot p B) (P B) c m (hp B),
    only_sets c (λ d. P d m),
    vertical_low sh (count p) (put s (v_of p).t E) (put q (u_of p).t U) c m,
    low_same (count p) (vertical sh (put s (v_of p).t E) c m) (vertical sh (put q (u_of p).t U) c m) (only_in s c (E m)) (only_in q c (U m))
        (λ h. vertical_only sh s (v_of p).t E c m (hv h)) (λ h. vertical_only sh q (u_of p).t U c m (hu h)),
  )

  -- A cell is right if no track of the form is wrong there.
  errors_zero : (c : TrackSet) (t m : ℕ) → ((d : TrackSet) → put d (pivot p d) (P d) c t m ≡ 0) →
      (1 ≤ count p → put s (v_of p).t E c t m ≡ 0) → (2 ≤ count p → put q (u_of p).t U c t m ≡ 0) → errors p P U E c t m ≡ 0
  unfolding errors
  errors_zero c t m hp hv hu = omega (arith, hp A, hp B, low_zero (count p) (put s (v_of p).t E c t m) (put q (u_of p).t U c t m) hv hu)

even_charged : (d a b l v w i j : ℕ) → a ≡ (v + i) % 2 → b ≡ (w + j) % 2 → (d + v + w + (l + (i + j))) % 2 ≡ 0 → (d + (a + b + l)) % 2 ≡ 0
even_charged d a b l v w i j p q r = omega arith

-- ## The test is passed, and P is what is left of the verticals, as far as rule 3 goes

module _ (sh : Shape) (f : TrackFlags) (p : Form) (D W P : TrackSet → Stream) (U E : Stream)
    (fits : Fits sh f p) (tested : Tested sh (vertical_end sh) p D W U E (track_length sh))
    (pivots_are : (c : TrackSet) (m : ℕ) → m < track_length sh → P c m ≡ cut (vertical_end sh) (λ k. pivot_sum sh (vertical_end sh) p D W U E c k % 2) m) where
  -- What counts before the end of rule 3.
  abbrev early : Stream → Stream
  early = cut (vertical_end sh)

  abbrev charge : TrackSet → ℕ → ℕ → ℕ
  charge c m o = low_sum (count p) (only_in (v_of p).s c (back (early E) m o)) (only_in (u_of p).s c (back (early U) m o))

  -- A pivot is its vertical and the errors below it, all cut.
  pivot_cut : (c : TrackSet) (m : ℕ) → m < track_length sh → P c m ≡ pivot_sum sh (vertical_end sh) p D (λ d. early (W d)) (early U) (early E) c m % 2
  unfolding pivot_sum
  pivot_cut c m b = pivots_are c m b ∙ by_cases (dec_lt m (vertical_end sh))
      (λ h. simp (cut_in (vertical_end sh), h))
      (λ h. let l : vertical_end sh ≤ m = omega arith in simp (cut_out (vertical_end sh), l, only_zero)
      (omega (arith, low_zero (count p) 0 0 (λ k. refl) (λ k. refl))))

  -- A diagonal meets them with it.
  pivot_met : (c : TrackSet) (m o : ℕ) → m < track_length sh → back (P c) m o ≡ (back (early (W c)) m o + charge c m o) % 2
  unfolding pivot_sum
  pivot_met c m o b = omega (
    arith,
    back_same (P c) (λ k. pivot_sum sh (vertical_end sh) p D (λ d. early (W d)) (early U) (early E) c k % 2) m o (λ k e. pivot_cut c k (omega arith)),
    back_mod (pivot_sum sh (vertical_end sh) p D (λ d. early (W d)) (early U) (early E) c) m o,
    back_add (early (W c)) (λ k. low_sum (count p) (only_in (v_of p).s c (early E k)) (only_in (u_of p).s c (early U k))) m o,
    back_low (count p) (λ k. only_in (v_of p).s c (early E k)) (λ k. only_in (u_of p).s c (early U k)) m o,
    low_same (count p) (back (λ k. only_in (v_of p).s c (early E k)) m o) (back (λ k. only_in (u_of p).s c (early U k)) m o)
        (only_in (v_of p).s c (back (early E) m o)) (only_in (u_of p).s c (back (early U) m o))
        (λ h. back_only (v_of p).s c (early E) m o) (λ h. back_only (u_of p).s c (early U) m o),
  )

  -- A pivot is right from its room on.
  quiet : (c : TrackSet) (m : ℕ) → m < track_length sh → room p c ≤ m → P c m ≡ 0
  quiet c m b r = pivots_are c m b ∙ cut_zero (vertical_end sh) (λ k. pivot_sum sh (vertical_end sh) p D W U E c k % 2) m (λ l. tested.verticals c m b l r)

  order : Ordered sh (pivot p) (count p) (v_of p).s (v_of p).t (u_of p).s (u_of p).t
  order = form_order sh p fits.sized

  in_set : (c : TrackSet) → pivot p c < tracks sh c
  in_set c = (fits.sized.order c).0

  residue_charged : (d : TrackSet) (m : ℕ) → residue sh (vertical_end sh) p D W U E d m ≡
      D d m + back (early (W A)) m (offset sh d A (pivot p A)) + back (early (W B)) m (offset sh d B (pivot p B))
      + (low_sum (count p) (back E m (offset sh d (v_of p).s (v_of p).t)) (back U m (offset sh d (u_of p).s (u_of p).t))
      + (charge A m (offset sh d A (pivot p A)) + charge B m (offset sh d B (pivot p B))))
  unfolding residue left met
  residue_charged d m =
      let s = (v_of p).s in
      let q = (u_of p).s in
      omega (
        arith,
        low_sets (count p) s q (λ c. back (early E) m (offset sh d c (pivot p c))) (λ c. back (early U) m (offset sh d c (pivot p c))),
        low_add (count p) (back E m (offset sh d s (v_of p).t)) (back U m (offset sh d q (u_of p).t))
            (back (early E) m (offset sh d s (pivot p s))) (back (early U) m (offset sh d q (pivot p q))),
      )

  diagonal_even : (d : TrackSet) (m : ℕ) → m < track_length sh → (D d m + diagonal sh (errors p P U E) d m) % 2 ≡ 0
  diagonal_even d m b = rw (diagonal_errors sh p P U E d m b) (even_charged _ _ _ _ _ _ _ _
      (pivot_met A m (offset sh d A (pivot p A)) b)
      (pivot_met B m (offset sh d B (pivot p B)) b)
      (ap (λ k. k % 2) (sym (residue_charged d m)) ∙ tested.diagonals d m b b))

  vertical_even : (c : TrackSet) (m : ℕ) → m < vertical_end sh → (W c m + vertical sh (errors p P U E) c m) % 2 ≡ 0
  unfolding pivot_sum
  vertical_even c m b = omega (
    arith,
    pivots_are c m (omega (arith, vertical_within sh)),
    cut_in (vertical_end sh) (λ k. pivot_sum sh (vertical_end sh) p D W U E c k % 2) m b,
    vertical_errors sh p P U E in_set
        (λ h. omega (arith, order.v_below h)) (λ h. omega (arith, order.u_below h)) c m,
  )

  -- The tail of a pivot, where rule 4 makes it 0.
  pivot_tail : (d c : TrackSet) (t m : ℕ) → 1 ≤ t → t < tail_tracks sh c → sh.positions ≤ m → m < track_length sh → put d (pivot p d) (P d) c t m ≡ 0
  pivot_tail d c t m k h l b = go (fits.rooms d)
    where
      vertical_tail : (z : Closing) → sh.closing ≡ z → pivot p d ≡ suc (data_tracks sh d) → room p d ≡ vertical_end sh → put d (pivot p d) (P d) c t m ≡ 0
      vertical_tail closed_tail e i r = put_off d (pivot p d) (P d) c t m (λ j. omega (arith, closed_tracks sh e c, ap (data_tracks sh) j))
      vertical_tail open_tail e i r = let n : vertical_end sh ≡ sh.positions = rw e in put_zero d (pivot p d) (P d) c t m (quiet d m b (omega arith))

      go : Room sh f d (pivot p d) (room p d) → put d (pivot p d) (P d) c t m ≡ 0
      go (no_pivot i off z) = put_zero d (pivot p d) (P d) c t m (quiet d m b (omega arith))
      go (data_pivot low high on z) = put_zero d (pivot p d) (P d) c t m (quiet d m b (omega arith))
      go (zero_pivot i on z e) = put_off d (pivot p d) (P d) c t m (λ j. omega arith)
      go (vertical_pivot i on z) = vertical_tail sh.closing refl i z

  -- A track that is not flagged.
  flag_off : (s : TrackSet) (v : ℕ) (e : Stream) → f s v ≡ true → (c : TrackSet) (t m : ℕ) → f c t ≡ false → put s v e c t m ≡ 0
  flag_off s v e on c t m off = put_off s v e c t m (λ i j. true≢false (sym on ∙ ap (λ d. f d v) i ∙ ap (f c) j ∙ off))

  pivot_off : (d c : TrackSet) (t m : ℕ) → m < track_length sh → f c t ≡ false → put d (pivot p d) (P d) c t m ≡ 0
  pivot_off d c t m b off = go (fits.rooms d)
    where
      go : Room sh f d (pivot p d) (room p d) → put d (pivot p d) (P d) c t m ≡ 0
      go (no_pivot i clear z) = put_zero d (pivot p d) (P d) c t m (quiet d m b (omega arith))
      go (data_pivot low high on z) = flag_off d (pivot p d) (P d) on c t m off
      go (zero_pivot i on z e) = flag_off d (pivot p d) (P d) on c t m off
      go (vertical_pivot i on z) = flag_off d (pivot p d) (P d) on c t m off

  unflagged : (c : TrackSet) (t m : ℕ) → m < track_length sh → f c t ≡ false → errors p P U E c t m ≡ 0
  unflagged c t m b off = errors_zero sh p P U E c t m (λ d. pivot_off d c t m b off)
      (λ h. flag_off (v_of p).s (v_of p).t E (fits.v_flagged h) c t m off) (λ h. flag_off (u_of p).s (u_of p).t U (fits.u_flagged h) c t m off)

-- The tail of a track below the pivots.
low_tail : (s : TrackSet) (v : ℕ) (e : Stream) (c : TrackSet) (t m : ℕ) → 1 ≤ t → (1 ≤ v → e m ≡ 0) → put s v e c t m ≡ 0
low_tail s zero e c t m k h = put_off s 0 e c t m (λ i. omega arith)
low_tail s (suc v) e c t m k h = put_zero s (suc v) e c t m (h (omega arith))

-- Where the test is passed, x with its errors taken off is good.
pub sound : (sh : Shape) (x : Cells) (f : TrackFlags) (p : Form) (D W P : TrackSet → Stream) (U E : Stream) →
    Tails sh x → Sums sh x D W → Fits sh f p → Tested sh (vertical_end sh) p D W U E (track_length sh) →
    ((c : TrackSet) (m : ℕ) → m < track_length sh → P c m ≡ cut (vertical_end sh) (λ k. pivot_sum sh (vertical_end sh) p D W U E c k % 2) m) →
    (2 ≤ count p → 1 ≤ (u_of p).t → (m : ℕ) → m < track_length sh → sh.positions ≤ m → U m ≡ 0) →
    (1 ≤ count p → 1 ≤ (v_of p).t → (m : ℕ) → m < track_length sh → sh.positions ≤ m → E m ≡ 0) →
    Good sh (plus x (errors p P U E))
sound sh x f p D W P U E tails sums fits tested pivots_are u_end v_end = good_bits sh (x ⊞ errors p P U E)
    (λ d m b. omega (
      arith,
      diagonal_add sh x (errors p P U E) d m,
      sums.diagonals d m b,
      diagonal_even sh f p D W P U E fits tested pivots_are d m b,
    ))
    (λ c m b. omega (
      arith,
      vertical_add sh x (errors p P U E) c m,
      sums.verticals c m (omega (arith, vertical_within sh)),
      vertical_even sh f p D W P U E fits tested pivots_are c m b,
    ))
    (λ c t m k h l b. omega (
      arith,
      tails c t m k h l b,
      errors_zero sh p P U E c t m (λ d. pivot_tail sh f p D W P U E fits tested pivots_are d c t m k h l b)
          (λ n. low_tail (v_of p).s (v_of p).t E c t m k (λ i. v_end n i m b l))
          (λ n. low_tail (u_of p).s (u_of p).t U c t m k (λ i. u_end n i m b l)),
    ))

-- And it agrees with x off the flags.
pub sound_agree : (sh : Shape) (x : Cells) (f : TrackFlags) (p : Form) (D W P : TrackSet → Stream) (U E : Stream) →
    ((s : TrackSet) (t m : ℕ) → t < tracks sh s → m < track_length sh → x s t m < 2) →
    Fits sh f p → Tested sh (vertical_end sh) p D W U E (track_length sh) →
    ((c : TrackSet) (m : ℕ) → m < track_length sh → P c m ≡ cut (vertical_end sh) (λ k. pivot_sum sh (vertical_end sh) p D W U E c k % 2) m) →
    AgreeOff sh (whole f) x (plus x (errors p P U E))
sound_agree sh x f p D W P U E bits fits tested pivots_are = record {
  cell = λ s t m l b off. omega (arith, bits s t m l b, unflagged sh f p D W P U E fits tested pivots_are s t m b off);
}
