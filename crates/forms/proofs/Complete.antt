-- A good record that agrees off the flags passes every test: the errors that are computed are its own.
use mathlib.Core.Path.{◌≡◌, refl, sym, ap, ◌∙◌}
use mathlib.Core.Logic.{by_cases}
use mathlib.Core.List.{◌∷◌}
use Prim.Native.Nat.{ℕ, zero, suc, ◌+◌, ◌<◌, ◌≤◌, ◌%◌}
use native.Mathlib.Decide.{dec_lt, ℕ_discrete}
use native.Mathlib.Omega.{arith}
use Rattle.code.specs.declared.sizes.TrackSet.{TrackSet}
use Rattle.code.specs.Record.{other, Shape, data_tracks, track_length, vertical_end, tail_tracks, Cells, back, Good}
use Rattle.code.specs.Flags.{TrackFlags, whole, AgreeOff}
use Rattle.code.proofs.Sums.{back_at}
use Rattle.code.proofs.Cell.{lag_sets, vertical_data, vertical_within, tail_data, Closed, by_rule_3, by_rule_4, closed}
use Rattle.code.proofs.Linear.{plus}
use Rattle.code.proofs.OneTrack.{offset_both}
use Rattle.plans.specs.declared.Form.{Form}
use Rattle.plans.specs.Plans.{pivot, room, lows, Room, no_pivot, data_pivot, zero_pivot, vertical_pivot, Fits, count, v_of, u_of}
use Rattle.forms.specs.Streams.{Stream, cut}
use Rattle.forms.specs.Flagged.{Flagged}
use Rattle.forms.specs.Forms.{left, met, gap, point, pair}
use Rattle.forms.specs.Found.{
  Sums,
  Tails,
  extent,
  at_zero,
  only_in,
  ahead,
  across,
  along,
  stride,
  eliminated_row,
  lower_row,
  Computed,
  residue,
  pivot_sum,
  Tested,
}
use Rattle.forms.proofs.Shifts.{back_move, cut_at, back_cut, quotient_same, eliminated}
use Rattle.forms.proofs.Errors.{tail_clear}
use Rattle.forms.proofs.Lows.{low_one, low_two, low_same, total_lows, Ordered, form_order}
use Rattle.forms.proofs.Pivots.{point_own, gap_positive, both_met, pair_met, met_same, met_cut, even_three, vertical_sums, pivots}
use Rattle.forms.proofs.Strides.{Strides, extent_fits, extent_below, past_extent, extent_data, form_strides}

-- ## What is computed of a data track is 0 in the tail

on_zero : (t x : ℕ) → t ≡ 0 → at_zero t x ≡ x
on_zero zero x h = refl
on_zero (suc t) x h = absurd (omega arith)

off_zero : (t x : ℕ) → 1 ≤ t → at_zero t x ≡ 0
off_zero zero x h = absurd (omega arith)
off_zero (suc t) x h = refl

-- Of u, and of v.
pub upper_quiet : (sh : Shape) (end : ℕ) (p : Form) (D W : TrackSet → Stream) (X U E : Stream) (n : ℕ) → Computed sh end p D W X U E n →
    2 ≤ count p → 1 ≤ (u_of p).t → (m : ℕ) → m < n → m < track_length sh → sh.positions ≤ m → U m ≡ 0
upper_quiet sh end p D W X U E n got h k m b l r = got.upper_end h m b l (omega (arith, extent_data sh end (u_of p).t k)) ∙ off_zero (u_of p).t _ k

pub lower_quiet : (sh : Shape) (end : ℕ) (p : Form) (D W : TrackSet → Stream) (X U E : Stream) (n : ℕ) → Computed sh end p D W X U E n →
    1 ≤ count p → 1 ≤ (v_of p).t → (m : ℕ) → m < n → m < track_length sh → sh.positions ≤ m → E m ≡ 0
lower_quiet sh end p D W X U E n got h k m b l r = got.lower_end h m b (omega (arith, extent_data sh (track_length sh) (v_of p).t k))

-- What makes a sum even is the sum's parity.
leaves : (a e r : ℕ) → e < 2 → a + e ≡ r → r % 2 ≡ 0 → a % 2 ≡ e
leaves a e r b h z = omega arith

-- ## What is computed is right

module _ (sh : Shape) (x y : Cells) (f : TrackFlags) (p : Form) (D W : TrackSet → Stream) (gy : Good sh y)
    (agree : AgreeOff sh (whole f) x y) (tails : Tails sh x) (sums : Sums sh x D W) (fits : Fits sh f p) where
  abbrev s : TrackSet
  s = (v_of p).s

  abbrev q : TrackSet
  q = (u_of p).s

  abbrev end : ℕ
  end = vertical_end sh

  -- The errors of v and of u, and what is left of the diagonals.
  abbrev e_v : Stream
  e_v = plus x y s (v_of p).t

  abbrev e_u : Stream
  e_u = plus x y q (u_of p).t

  abbrev R : TrackSet → Stream
  R = left sh end D W p

  flagged : (c : TrackSet) → Flagged sh x y c (pivot p c ∷ lows p c)
  flagged c = record { order = fits.sized.order c; agree = λ t m l o b. agree.cell c t m l b (fits.clear c t l o) }

  order : Ordered sh (pivot p) (count p) s (v_of p).t q (u_of p).t
  order = form_order sh p fits.sized

  numbers : 2 ≤ count p → Strides sh s (v_of p).t (pivot p s) q (u_of p).t (pivot p q) (extent sh end (u_of p).t)
  numbers = form_strides sh end p fits.sized (vertical_within sh)

  extent_early : extent sh end (u_of p).t ≤ end
  extent_early = extent_below sh end (u_of p).t (vertical_data sh)

  -- A data track has no errors in the tail.
  past_data : (c : TrackSet) (t m : ℕ) → 1 ≤ t → t ≤ data_tracks sh c → sh.positions ≤ m → m < track_length sh → plus x y c t m ≡ 0
  past_data c t m k l r b = let h : t < tail_tracks sh c = omega (arith, tail_data sh c) in tail_clear sh x y gy c t m k h r b (tails c t m k h r b)

  -- A pivot has no errors from its room on, and so none past the end of rule 3.
  room_clear : (c : TrackSet) (m : ℕ) → m < track_length sh → room p c ≤ m → plus x y c (pivot p c) m ≡ 0
  room_clear c m l r = go (fits.rooms c)
    where
      vertical : pivot p c ≡ suc (data_tracks sh c) → room p c ≡ end → Closed sh → plus x y c (pivot p c) m ≡ 0
      vertical i z (by_rule_3 e) = absurd (omega arith)
      vertical i z (by_rule_4 o e t) =
          let k : 1 ≤ pivot p c = omega arith in
          let h : pivot p c < tail_tracks sh c = omega (arith, t c) in
          let n : sh.positions ≤ m = omega arith in
          tail_clear sh x y gy c (pivot p c) m k h n l (tails c (pivot p c) m k h n l)

      go : Room sh f c (pivot p c) (room p c) → plus x y c (pivot p c) m ≡ 0
      go (no_pivot i off z) = omega (arith, agree.cell c (pivot p c) m (omega arith) l off)
      go (data_pivot low high on z) = past_data c (pivot p c) m low high (omega arith) l
      go (zero_pivot i on z e) = absurd (omega arith)
      go (vertical_pivot i on z) = vertical i z (closed sh)

  room_early : (c : TrackSet) → room p c ≤ end
  room_early c = go (fits.rooms c)
    where
      go : Room sh f c (pivot p c) (room p c) → room p c ≤ end
      go (no_pivot i off z) = omega arith
      go (data_pivot low high on z) = omega (arith, vertical_data sh)
      go (zero_pivot i on z e) = omega arith
      go (vertical_pivot i on z) = omega arith

  pivot_quiet : (c : TrackSet) (m : ℕ) → end ≤ m → m < track_length sh → plus x y c (pivot p c) m ≡ 0
  pivot_quiet c m k b = room_clear c m b (omega (arith, room_early c))

  residue_even : (d : TrackSet) (m : ℕ) → m < track_length sh → residue sh end p D W e_u e_v d m % 2 ≡ 0
  residue_even = pivots sh x y gy D W sums p flagged pivot_quiet

  -- ## Of two tracks below the pivots, u first

  pair_v : Stream
  pair_v = pair sh end e_v s (v_of p).t (pivot p s)

  pair_u : Stream
  pair_u = pair sh end e_u q (u_of p).t (pivot p q)

  system : 2 ≤ count p → (d : TrackSet) (m : ℕ) → m < track_length sh → m < end + point sh d q (u_of p).t (pivot p q) → m < end + point sh d s (v_of p).t (pivot p s) →
      (R d m + (back pair_u m (point sh d q (u_of p).t (pivot p q)) + back pair_v m (point sh d s (v_of p).t (pivot p s)))) % 2 ≡ 0
  unfolding residue pair_v pair_u
  system h d m b near_u near_v = omega (
    arith,
    low_two (count p) (met sh end e_v d s (v_of p).t (pivot p s) m) (met sh end e_u d q (u_of p).t (pivot p q) m) h,
    even_three _ _ _
        (residue_even d m b)
        (pair_met sh (v_of p).t (pivot p s) end e_v d s (order.v_below (omega arith)) m b (λ k. near_v))
        (pair_met sh (u_of p).t (pivot p q) end e_u d q (order.u_below h) m b (λ k. near_u)),
  )

  -- Its pair is what is left with v's pair eliminated, divided by the stride.
  pair_cells : 2 ≤ count p → (m : ℕ) → m < extent sh end (u_of p).t → pair_u m ≡ (eliminated_row sh end p D W m + back pair_u m (stride sh end p)) % 2
  unfolding pair_u
  pair_cells h m l =
      let n = numbers h in
      let e = extent_early in
      let own = point_own sh s (v_of p).t (pivot p s) in
      omega (
        arith,
        eliminated (R (other s)) (R s) pair_u pair_v (ahead sh end p) (across sh end p) (along sh end p) (v_of p).t (stride sh end p) m (omega arith)
            (system h (other s) (m + ahead sh end p) (omega arith) (omega arith) (omega arith))
            (λ k o. rw own at (system h s k (omega arith) (omega arith) (omega arith))),
      )

  module _ (X U E : Stream) (n : ℕ) (got : Computed sh end p D W X U E n) where
    pair_found : 2 ≤ count p → (m : ℕ) → m < n → m < extent sh end (u_of p).t → X m ≡ pair_u m
    pair_found h m b l =
        let e = extent_early in
        let d = stride sh end p in
        quotient_same end d (eliminated_row sh end p D W) (eliminated_row sh end p D W) X pair_u (omega (arith, numbers h)) (suc m)
        (λ k o. refl)
        (λ k o. omega (arith, got.pair h k (omega arith) (omega arith), back_cut end X k d (omega arith)))
        (λ k o. omega (arith, pair_cells h k (omega arith), back_cut end pair_u k d (omega arith)))
        m (omega arith)

    -- What is computed of u is its error: before the end of rule 3, and of a data track everywhere.
    upper_before : 2 ≤ count p → (m : ℕ) → m < n → m < track_length sh → ((u_of p).t ≡ 0 → m < end) → U m ≡ e_u m
    unfolding pair_u
    upper_before h m b l near = by_cases (dec_lt m (extent sh end (u_of p).t))
        (λ r. quotient_same end g X pair_u U e_u (gap_positive sh (u_of p).t (pivot p q) q (order.u_below h)) (suc m)
        (λ k o. rw (pair_found h k (omega arith) (omega arith)))
        (λ k o. omega (arith, got.upper h k (omega arith) (omega arith), back_cut end U k g (omega (arith, extent_early))))
        (λ k o. omega arith)
        m (omega arith))
        (λ r. let k = past_extent sh end (u_of p).t m (omega arith) near in
        upper_quiet sh end p D W X U E n got h k.0 m b l k.1 ∙ sym (past_data q (u_of p).t m k.0 (order.u_below h).on_diagonals k.1 l))
      where
        g : ℕ
        g = gap sh q (u_of p).t (pivot p q)

    -- ## Then v, with u taken off

    -- It is what is left on its own diagonal, divided by the gap.
    lower_cells : 1 ≤ count p → (m : ℕ) → m + (v_of p).t < track_length sh →
        e_v m ≡ (lower_row sh end p D W e_u m + back (cut end e_v) m (gap sh s (v_of p).t (pivot p s))) % 2
    unfolding residue
    lower_cells h m l =
        let g = gap sh s (v_of p).t (pivot p s) in
        let own = point_own sh s (v_of p).t (pivot p s) in
        omega (
          arith,
          residue_even s (m + (v_of p).t) l,
          low_one (count p) (met sh end e_v s s (v_of p).t (pivot p s) (m + (v_of p).t)) (met sh end e_u s q (u_of p).t (pivot p q) (m + (v_of p).t)) h,
          both_met sh (v_of p).t (pivot p s) end e_v s s (order.v_below h) (m + (v_of p).t) l
              (λ k. absurd (k ((offset_both sh s (v_of p).t (order.v_below h).on_diagonals).0 ∙ sym own))),
          ap (back e_v (m + (v_of p).t)) own ∙ back_at e_v m (v_of p).t (m + (v_of p).t) refl,
          ap (λ k. back (cut end e_v) (m + (v_of p).t) (g + k)) own ∙ back_move (cut end e_v) (m + (v_of p).t) (g + (v_of p).t) m g (omega arith),
        )

    -- The diagonal of s at m + v meets u before m, and track 0 before the tail.
    row_same : (m : ℕ) → m < n → m + (v_of p).t < track_length sh → lower_row sh end p D W U m ≡ lower_row sh end p D W e_u m
    row_same m b l = ap (λ k. R s (m + (v_of p).t) + k) (low_same (count p) 0 _ 0 _ (λ h. refl) (λ h.
        let k = numbers h in
        met_same sh end U e_u s q (u_of p).t (pivot p q) (m + (v_of p).t)
        (λ o e. upper_before h o (omega arith) (omega arith) (λ z. omega (arith, k.zero_met z, vertical_data sh)))
        (λ o i e. upper_before h o (omega arith) (omega arith) (λ z. i))))

    -- What is computed of v is its error.
    lower : 1 ≤ count p → (m : ℕ) → m < n → m < track_length sh → E m ≡ e_v m
    lower h m b l = by_cases (dec_lt m (extent sh (track_length sh) (v_of p).t))
        (λ r. quotient_same end g (lower_row sh end p D W U) (lower_row sh end p D W e_u) E e_v (gap_positive sh (v_of p).t (pivot p s) s (order.v_below h)) (suc m)
        (λ k o. ap (λ z. z % 2) (row_same k (omega arith) (omega (arith, within))))
        (λ k o. got.lower h k (omega arith) (omega arith))
        (λ k o. lower_cells h k (omega (arith, within)))
        m (omega arith))
        (λ r. let k = past_extent sh (track_length sh) (v_of p).t m (omega arith) (λ z. l) in
        lower_quiet sh end p D W X U E n got h k.0 m b l k.1 ∙ sym (past_data s (v_of p).t m k.0 (order.v_below h).on_diagonals k.1 l))
      where
        g : ℕ
        g = gap sh s (v_of p).t (pivot p s)

        within : extent sh (track_length sh) (v_of p).t + (v_of p).t ≤ track_length sh
        within = extent_fits sh (track_length sh) (v_of p).t (omega arith) (omega (arith, order.v_below h, lag_sets sh s))

    -- ## Then u past the end of rule 3, as track 0

    -- What its own diagonal leaves for it.
    upper_past : 2 ≤ count p → (m : ℕ) → m < n → m < track_length sh → end ≤ m → (u_of p).t ≡ 0 →
        residue sh end p D W (cut end U) E q m + e_u m ≡ residue sh end p D W e_u e_v q m
    unfolding residue
    upper_past h m b l r z = omega (
      arith,
      low_two (count p) (met sh end E q s (v_of p).t (pivot p s) m) (met sh end (cut end U) q q (u_of p).t (pivot p q) m) h,
      low_two (count p) (met sh end e_v q s (v_of p).t (pivot p s) m) (met sh end e_u q q (u_of p).t (pivot p q) m) h,
      met_same sh end E e_v q s (v_of p).t (pivot p s) m (λ o e. lower (omega arith) o (omega arith) (omega arith)) (λ o i e. lower (omega arith) o (omega arith) (omega arith)),
      met_same sh end (cut end U) (cut end e_u) q q (u_of p).t (pivot p q) m (λ o e. same o (omega arith)) (λ o i e. same o (omega arith)),
      met_cut sh end e_u q (u_of p).t (pivot p q) m (omega (arith, offset_both sh q (u_of p).t (omega arith))) r,
    )
      where
        same : (o : ℕ) → o ≤ m → cut end U o ≡ cut end e_u o
        same o k = cut_at end U e_u o (λ i. upper_before h o (omega arith) (omega arith) (λ j. i))

    -- So what is computed of u is its error everywhere.
    upper : 2 ≤ count p → (m : ℕ) → m < n → m < track_length sh → U m ≡ e_u m
    upper h m b l = by_cases (dec_lt m end)
        (λ r. upper_before h m b l (λ z. r))
        (λ r. by_cases (ℕ_discrete (u_of p).t 0)
        (λ z. got.upper_end h m b l (omega (arith, extent_early)) ∙ on_zero (u_of p).t _ z ∙ leaves _ _ _ (omega arith) (upper_past h m b l (omega arith) z) (residue_even q m l))
        (λ d. upper_before h m b l (λ z. absurd (d z))))

    -- ## The tests

    -- What is left of the vertical is the pivot's error.
    pivot_error : (c : TrackSet) (m : ℕ) → m < n → m < end → (pivot_sum sh end p D W U E c m + plus x y c (pivot p c) m) % 2 ≡ 0
    unfolding pivot_sum
    pivot_error c m b l = let k = vertical_within sh in omega (
      arith,
      vertical_sums sh x y gy D W sums p flagged pivot_quiet c m l,
      total_lows (count p) s (v_of p).t q (u_of p).t c (λ c t. plus x y c t m),
      low_same (count p) (only_in s c (E m)) (only_in q c (U m)) (only_in s c (e_v m)) (only_in q c (e_u m))
          (λ h. ap (only_in s c) (lower h m b (omega arith))) (λ h. ap (only_in q c) (upper h m b (omega arith))),
    )

    residue_same : (d : TrackSet) (m : ℕ) → m < n → m < track_length sh → residue sh end p D W U E d m ≡ residue sh end p D W e_u e_v d m
    unfolding residue
    residue_same d m b l = ap (λ k. R d m + k) (low_same (count p) _ _ _ _
        (λ h. met_same sh end E e_v d s (v_of p).t (pivot p s) m (λ o e. lower h o (omega arith) (omega arith)) (λ o i e. lower h o (omega arith) (omega arith)))
        (λ h. met_same sh end U e_u d q (u_of p).t (pivot p q) m (λ o e. upper h o (omega arith) (omega arith)) (λ o i e. upper h o (omega arith) (omega arith))))

    tested : Tested sh end p D W U E n
    tested = record {
      diagonals = λ d m b l. ap (λ k. k % 2) (residue_same d m b l) ∙ residue_even d m l;
      verticals = λ c m b l r. omega (arith, pivot_error c m b l, room_clear c m (omega (arith, vertical_within sh)) r);
    }

-- Where x agrees with a good record off the flags, what is computed from the sums of x passes the test.
pub complete : (sh : Shape) (x y : Cells) (f : TrackFlags) (p : Form) (D W : TrackSet → Stream) (X U E : Stream) (n : ℕ) →
    Good sh y → AgreeOff sh (whole f) x y → Tails sh x → Sums sh x D W →
    Fits sh f p → Computed sh (vertical_end sh) p D W X U E n → Tested sh (vertical_end sh) p D W U E n
complete sh x y f p D W X U E n gy agree tails sums fits got = tested sh x y f p D W gy agree tails sums fits X U E n got
