-- Errors found by the closed forms, from the sums of a record.
use Rattle.std.specs.Prelude.{◌≡◌, ℕ, zero, suc, ◌+◌, ◌-◌, ◌<◌, ◌≤◌, ◌%◌}
use Rattle.code.specs.declared.sizes.TrackSet.{TrackSet}
use Rattle.code.specs.declared.sizes.TrackSet.TheVariants.{A, B}
use Rattle.code.specs.Record.{other, Shape, track_length, tail_tracks, Cells, back, diagonal, vertical}
use Rattle.code.proofs.Linear.{◌⊞◌}
use Rattle.code.proofs.OneTrack.{put}
use Rattle.plans.specs.declared.Form.{Form}
use Rattle.plans.specs.Plans.{pivot, room, count, v_of, u_of}
use Rattle.forms.specs.Streams.{Stream, cut}
use Rattle.forms.specs.Forms.{left, met, gap, point}

-- D has the diagonals of x and W its verticals.
pub record Sums (sh : Shape) (x : Cells) (D W : TrackSet → Stream) : Type 0 where
  pub diagonals : (d : TrackSet) (m : ℕ) → m < track_length sh → D d m ≡ diagonal sh x d m % 2
  pub verticals : (c : TrackSet) (m : ℕ) → m < track_length sh → W c m ≡ vertical sh x c m % 2

-- The tails of x are 0 where rule 4 makes them so.
abbrev pub Tails : Shape → Cells → Type 0
Tails sh x = (s : TrackSet) (t m : ℕ) → 1 ≤ t → t < tail_tracks sh s → sh.positions ≤ m → m < track_length sh → x s t m ≡ 0

-- The cells up to which track t may be wrong: track 0 up to w, a data track before the tail.
abbrev pub extent : Shape → ℕ → ℕ → ℕ
extent sh w zero = w
extent sh w (suc t) = sh.positions

-- What counts of two terms, one for each track below the pivots.
abbrev pub low_sum : ℕ → ℕ → ℕ → ℕ
low_sum zero x y = 0
low_sum (suc zero) x y = x
low_sum (suc (suc k)) x y = x + y

-- What counts where t is track 0.
abbrev pub at_zero : ℕ → ℕ → ℕ
at_zero zero x = x
at_zero (suc t) x = 0

-- x in set s, as set c sees it.
abbrev pub only_in : TrackSet → TrackSet → ℕ → ℕ
only_in A A x = x
only_in A B x = 0
only_in B A x = 0
only_in B B x = x

module _ (sh : Shape) (end : ℕ) (p : Form) where
  abbrev s : TrackSet
  s = (v_of p).s

  abbrev q : TrackSet
  q = (u_of p).s

  -- Where the pair of u is met by the diagonal of the set that is not v's and by that of v's set, and the pair of v by the former.
  abbrev pub ahead : ℕ
  ahead = point sh (other s) q (u_of p).t (pivot p q)

  abbrev pub across : ℕ
  across = point sh (other s) s (v_of p).t (pivot p s)

  abbrev pub along : ℕ
  along = point sh s q (u_of p).t (pivot p q)

  -- With v's pair eliminated, u's counts again so much later.
  abbrev pub stride : ℕ
  stride = across + along - (ahead + (v_of p).t)

  module _ (D W : TrackSet → Stream) where
    -- What is left with v's pair eliminated.
    abbrev pub eliminated_row : Stream
    eliminated_row m = left sh end D W p (other s) (m + ahead) + back (left sh end D W p s) (m + ahead + (v_of p).t) across

    -- What is left on v's diagonal with u taken off.
    abbrev pub lower_row : Stream → Stream
    lower_row U m = left sh end D W p s (m + (v_of p).t) + low_sum (count p) 0 (met sh end U s q (u_of p).t (pivot p q) (m + (v_of p).t))

    -- What is left of the diagonal of set d, and of the vertical of set c, when the errors of u and v are taken off.
    unfoldable pub residue : Stream → Stream → TrackSet → Stream
    residue U E d m = left sh end D W p d m
        + low_sum (count p) (met sh end E d s (v_of p).t (pivot p s) m) (met sh end U d q (u_of p).t (pivot p q) m)

    unfoldable pub pivot_sum : Stream → Stream → TrackSet → Stream
    pivot_sum U E c m = W c m + low_sum (count p) (only_in s c (E m)) (only_in q c (U m))

    -- X is the pair of u, U the error of u and E that of v, at the first n positions. Where there is one track below the pivots it is v.
    -- Past `end` track 0 is what its own diagonal leaves for it.
    pub record Computed (X U E : Stream) (n : ℕ) : Type 0 where
      pub pair : 2 ≤ count p → (m : ℕ) → m < n → m < extent sh end (u_of p).t → X m ≡ (eliminated_row m + back X m stride) % 2
      pub upper : 2 ≤ count p → (m : ℕ) → m < n → m < extent sh end (u_of p).t → U m ≡ (X m + back U m (gap sh q (u_of p).t (pivot p q))) % 2
      pub upper_end : 2 ≤ count p → (m : ℕ) → m < n → m < track_length sh → extent sh end (u_of p).t ≤ m → U m ≡ at_zero (u_of p).t (residue (cut end U) E q m % 2)
      pub lower : 1 ≤ count p → (m : ℕ) → m < n → m < extent sh (track_length sh) (v_of p).t →
          E m ≡ (lower_row U m + back (cut end E) m (gap sh s (v_of p).t (pivot p s))) % 2
      pub lower_end : 1 ≤ count p → (m : ℕ) → m < n → extent sh (track_length sh) (v_of p).t ≤ m → E m ≡ 0

    -- The test of all sums and tails at the first n positions: the diagonals are 0, and what is left of the verticals is 0 where the pivots
    -- cannot be wrong.
    pub record Tested (U E : Stream) (n : ℕ) : Type 0 where
      pub diagonals : (d : TrackSet) (m : ℕ) → m < n → m < track_length sh → residue U E d m % 2 ≡ 0
      pub verticals : (c : TrackSet) (m : ℕ) → m < n → m < end → room p c ≤ m → pivot_sum U E c m % 2 ≡ 0

-- The errors of the tracks that a form has: P those of the pivots.
unfoldable pub errors : Form → (TrackSet → Stream) → Stream → Stream → Cells
errors p P U E c t m = (put A (pivot p A) (P A) ⊞ put B (pivot p B) (P B)) c t m
    + low_sum (count p) (put (v_of p).s (v_of p).t E c t m) (put (u_of p).s (u_of p).t U c t m)
