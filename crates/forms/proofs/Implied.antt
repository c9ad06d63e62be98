-- Below the pivots the sums before the tail have nothing to test: what is computed makes them even.
use mathlib.Core.Path.{◌≡◌, refl, sym, ap, ◌∙◌}
use mathlib.Core.Logic.{◌≢◌}
use Prim.Native.Nat.{ℕ, zero, suc, ◌+◌, ◌-◌, ◌<◌, ◌≤◌, ◌%◌}
use native.Mathlib.Omega.{arith}
use Rattle.code.specs.declared.sizes.TrackSet.{TrackSet}
use Rattle.code.specs.declared.sizes.TrackSet.TheVariants.{A, B}
use Rattle.code.specs.Record.{other, Shape, lag, track_length, back}
use Rattle.code.proofs.Sums.{back_at, back_same, back_add}
use Rattle.code.proofs.Cell.{lag_sets}
use Rattle.code.proofs.OneTrack.{offset_both}
use Rattle.plans.specs.declared.Form.{Form}
use Rattle.plans.specs.Plans.{pivot, Sized, count, v_of, u_of}
use Rattle.forms.specs.Streams.{Stream, cut}
use Rattle.forms.specs.Forms.{left, met, gap, point, pair}
use Rattle.forms.specs.Found.{extent, ahead, across, along, stride, Computed, residue}
use Rattle.forms.proofs.Shifts.{back_move, moved, back_cut, eliminated}
use Rattle.forms.proofs.Lows.{low_one, low_two, Ordered, form_order}
use Rattle.forms.proofs.Pivots.{point_own, point_across, both_met, pair_met}
use Rattle.forms.proofs.Strides.{form_strides}

-- Where w is past the data, every track reaches to the tail.
extent_holds : (sh : Shape) (w t : ℕ) → sh.positions ≤ w → sh.positions ≤ extent sh w t
extent_holds sh w zero h = h
extent_holds sh w (suc t) h = omega arith

-- The other set's diagonal meets a pair within the lag.
point_within : (sh : Shape) (s : TrackSet) (t j : ℕ) → point sh (other s) s t j ≤ lag sh
point_within sh s t j = omega (arith, (point_across sh s t j).0)

-- The sets are one and the other.
either : (P : TrackSet → Type 0) (s d : TrackSet) → P s → (d ≢ s → P (other s)) → P d
either P A A one two = one
either P A B one two = two (λ e. let z : ◌≡◌ {A = ℕ} 0 1 = cc in omega arith)
either P B A one two = two (λ e. let z : ◌≡◌ {A = ℕ} 0 1 = cc in omega arith)
either P B B one two = one

module _ (sh : Shape) (end : ℕ) (p : Form) (D W : TrackSet → Stream) (X U E : Stream) (n : ℕ) (sized : Sized sh p)
    (past : sh.positions ≤ end) (within : end ≤ track_length sh) (got : Computed sh end p D W X U E n) where
  abbrev s : TrackSet
  s = (v_of p).s

  abbrev q : TrackSet
  q = (u_of p).s

  -- What is left of the diagonals, and what of it when the errors are taken off.
  abbrev R : TrackSet → Stream
  R = left sh end D W p

  abbrev left_over : TrackSet → Stream
  left_over = residue sh end p D W U E

  order : Ordered sh (pivot p) (count p) s (v_of p).t q (u_of p).t
  order = form_order sh p sized

  -- ## The diagonal of v's set

  -- It leaves nothing where v is computed from it.
  own_cells : 1 ≤ count p → (m : ℕ) → m < n → m < extent sh (track_length sh) (v_of p).t → m + (v_of p).t < track_length sh → left_over s (m + (v_of p).t) % 2 ≡ 0
  unfolding residue
  own_cells h m b r l =
      let g = gap sh s (v_of p).t (pivot p s) in
      let own = point_own sh s (v_of p).t (pivot p s) in
      omega (
        arith,
        got.lower h m b r,
        low_one (count p) (met sh end E s s (v_of p).t (pivot p s) (m + (v_of p).t)) (met sh end U s q (u_of p).t (pivot p q) (m + (v_of p).t)) h,
        both_met sh (v_of p).t (pivot p s) end E s s (order.v_below h) (m + (v_of p).t) l
            (λ k. absurd (k ((offset_both sh s (v_of p).t (order.v_below h).on_diagonals).0 ∙ sym own))),
        ap (back E (m + (v_of p).t)) own ∙ back_at E m (v_of p).t (m + (v_of p).t) refl,
        ap (λ k. back (cut end E) (m + (v_of p).t) (g + k)) own ∙ back_move (cut end E) (m + (v_of p).t) (g + (v_of p).t) m g (omega arith),
      )

  -- So it leaves nothing from v on, before the tail.
  own_even : 1 ≤ count p → (k : ℕ) → (v_of p).t ≤ k → k < n + (v_of p).t → k < sh.positions + (v_of p).t → left_over s k % 2 ≡ 0
  own_even h k low b l =
      let e : k ≡ k - (v_of p).t + (v_of p).t = omega arith in
      let w = extent_holds sh (track_length sh) (v_of p).t (omega arith) in
      ap (λ z. left_over s z % 2) e ∙ own_cells h (k - (v_of p).t) (omega arith) (omega arith) (omega (arith, order.v_below h, lag_sets sh s))

  -- ## The other diagonal, of two tracks below the pivots

  -- The two pairs, of what is computed.
  pair_v : Stream
  pair_v = pair sh end E s (v_of p).t (pivot p s)

  pair_u : Stream
  pair_u = pair sh end U q (u_of p).t (pivot p q)

  -- The pair of u is what is computed of it.
  pair_same : 2 ≤ count p → (m : ℕ) → m < n → m < sh.positions → pair_u m ≡ X m
  unfolding pair_u
  pair_same h m b l =
      let w = extent_holds sh end (u_of p).t past in
      omega (
        arith,
        got.pair h m b (omega arith),
        got.upper h m b (omega arith),
        back_cut end U m (gap sh q (u_of p).t (pivot p q)) (omega arith),
      )

  -- A diagonal leaves what is left with the two pairs taken off.
  system : 2 ≤ count p → (d : TrackSet) (m : ℕ) → m < track_length sh → m < end + point sh d s (v_of p).t (pivot p s) →
      m < n + point sh d q (u_of p).t (pivot p q) → m < sh.positions + point sh d q (u_of p).t (pivot p q) →
      (left_over d m + R d m + (back X m (point sh d q (u_of p).t (pivot p q)) + back pair_v m (point sh d s (v_of p).t (pivot p s)))) % 2 ≡ 0
  unfolding residue pair_v pair_u
  system h d m b near near_n near_u = omega (
    arith,
    low_two (count p) (met sh end E d s (v_of p).t (pivot p s) m) (met sh end U d q (u_of p).t (pivot p q) m) h,
    pair_met sh (v_of p).t (pivot p s) end E d s (order.v_below (omega arith)) m b (λ k. near),
    pair_met sh (u_of p).t (pivot p q) end U d q (order.u_below h) m b (λ k. omega arith),
    back_same pair_u X m (point sh d q (u_of p).t (pivot p q)) (λ k e. pair_same h k (omega arith) (omega arith)),
  )

  -- Both diagonals together leave what the pair is computed from, and v's leaves nothing.
  other_cells : 2 ≤ count p → (m : ℕ) → lag sh ≤ m + ahead sh end p → m + ahead sh end p < n → m + ahead sh end p < sh.positions →
      left_over (other s) (m + ahead sh end p) % 2 ≡ 0
  other_cells h m low b l =
      let k = form_strides sh end p sized within h in
      let a = point_within sh s (v_of p).t (pivot p s) in
      let v = order.v_below (omega arith) in
      let z = lag_sets sh s in
      let w = extent_holds sh end (u_of p).t past in
      let own = point_own sh s (v_of p).t (pivot p s) in
      omega (
        arith,
        got.pair h m (omega arith) (omega arith),
        eliminated (λ o. left_over (other s) o + R (other s) o) (λ o. left_over s o + R s o) X pair_v
            (ahead sh end p) (across sh end p) (along sh end p) (v_of p).t (stride sh end p) m (omega arith)
            (system h (other s) (m + ahead sh end p) (omega arith) (omega arith) (omega arith) (omega arith))
            (λ o e. rw own at (system h s o (omega arith) (omega arith) (omega arith) (omega arith))),
        back_add (left_over s) (R s) (m + ahead sh end p + (v_of p).t) (across sh end p),
        moved (left_over s) (m + ahead sh end p + (v_of p).t) (across sh end p) (λ o e. own_even (omega arith) o (omega arith) (omega arith) (omega arith)),
      )

  -- So the other leaves nothing from the lag on, before the tail.
  other_even : 2 ≤ count p → (k : ℕ) → lag sh ≤ k → k < sh.positions → k < n → left_over (other s) k % 2 ≡ 0
  other_even h k low l b =
      let a = (form_strides sh end p sized within h).ahead_first in
      let c = point_within sh s (v_of p).t (pivot p s) in
      let e : k ≡ k - ahead sh end p + ahead sh end p = omega arith in
      ap (λ z. left_over (other s) z % 2) e ∙ other_cells h (k - ahead sh end p) (omega arith) (omega arith) (omega arith)

-- Below the pivots an error is what its own diagonal leaves for it, and two of them take both diagonals: there no sum can be wrong.
pub implied : (sh : Shape) (end : ℕ) (p : Form) (D W : TrackSet → Stream) (X U E : Stream) (n : ℕ) → Sized sh p → sh.positions ≤ end → end ≤ track_length sh →
    Computed sh end p D W X U E n → 1 ≤ count p → (d : TrackSet) → (d ≢ (v_of p).s → 2 ≤ count p) →
    (k : ℕ) → lag sh ≤ k → k < sh.positions → k < n → residue sh end p D W U E d k % 2 ≡ 0
implied sh end p D W X U E n sized past within got h d two k low l b = either (λ c. residue sh end p D W U E c k % 2 ≡ 0) (v_of p).s d
    (own_even sh end p D W X U E n sized past within got h k
    (omega (arith, (form_order sh p sized).v_below h, lag_sets sh (v_of p).s)) (omega arith) (omega arith))
    (λ e. other_even sh end p D W X U E n sized past within got (two e) k low l b)
