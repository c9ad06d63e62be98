-- The words of the test: what is left of the diagonals and of the verticals.
use mathlib.Core.Path.{◌≡◌, refl, sym, ap, subst, ◌∙◌}
use mathlib.Core.Logic.{◌≢◌, by_cases}
use mathlib.Core.Bool.{Bool, true, true≢false}
use mathlib.Core.List.{List}
use Prim.Native.Nat.{ℕ, ◌+◌, ◌*◌, ◌-◌, ◌<◌, ◌≤◌, ◌%◌, ◌^◌}
use native.Mathlib.Decide.{dec_lt}
use native.Mathlib.Omega.{arith}
use borrow.Author.Tests.{eqb-true, eqb-false}
use lib.Bits.{bit_xor}
use lib.Dec.{eqb}
use lib.ListN.{get_or}
use Rattle.code.specs.declared.sizes.TrackSet.{TrackSet}
use Rattle.code.specs.declared.sizes.TrackSet.TheVariants.{A, B}
use Rattle.code.specs.Record.{Shape, track_length, row_of}
use Rattle.code.specs.Sizes.{shape}
use Rattle.code.specs.declared.sizes.Sizes.{Sizes}
use Rattle.plans.specs.declared.Form.{Form}
use Rattle.plans.specs.Plans.{pivot, room, count, v_of, u_of}
use Rattle.words.specs.Words.{bit, First}
use Rattle.words.proofs.Bit.{bit_lt, bit_zero, bit_of_xor}
use Rattle.forms.specs.Streams.{Stream, cut}
use Rattle.forms.specs.Forms.{left, met}
use Rattle.forms.specs.Found.{only_in, residue, pivot_sum}
use Rattle.forms.proofs.Shifts.{cut_in, cut_out}
use Rattle.forms.proofs.Lows.{low_two}
use Rattle.forms.proofs.Implied.{implied}
use Rattle.errors.specs.Rows.{cell, diagonals, verticals, Shown, Put}
use Rattle.errors.specs.Steps.{ComputedIn, Given, ImpliedTold, ZeroTold, DiagonalTold, LeftTold, PivotWord, PivotPut}
use Rattle.errors.proofs.Cells.{cell_index, same_bits}
use Rattle.errors.proofs.Words.{in_word, put_later}
use Rattle.errors.proofs.Shown.{shown_xor, shown_same, shown_at}

-- ## The residue of the diagonal of set d, where D has the diagonals, W the verticals, U and E the errors of u and v

-- With no track below the pivots it is what is left.
pub residue_left : (sh : Shape) (end : ℕ) (p : Form) (D W : TrackSet → Stream) (U E : Stream) (d : TrackSet) → count p ≡ 0 → (m : ℕ) →
    residue sh end p D W U E d m ≡ left sh end D W p d m
unfolding residue
residue_left sh end p D W U E d e m = rw e (omega arith)

module _ (sh : Shape) (end : ℕ) (p : Form) (D W : TrackSet → Stream) (U E : Stream) (d : TrackSet) (at w : ℕ)
    (whole : Shown (track_length sh) (left sh end D W p d) at w) where
  pub residue_none : count p ≡ 0 → Shown (track_length sh) (residue sh end p D W U E d) at w
  residue_none e = shown_same _ _ _ at w (λ m h. ap (λ v. v % 2) (sym (residue_left sh end p D W U E d e m))) whole

  module _ (x : ℕ) (met_lower : Shown (track_length sh) (met sh end E d (v_of p).s (v_of p).t (pivot p (v_of p).s)) at x) where
    lower : Shown (track_length sh) (λ m. left sh end D W p d m + met sh end E d (v_of p).s (v_of p).t (pivot p (v_of p).s) m) at (bit_xor w x)
    lower = shown_xor _ _ _ at w x whole met_lower

    pub residue_one : count p ≡ 1 → Shown (track_length sh) (residue sh end p D W U E d) at (bit_xor w x)
    unfolding residue
    residue_one e = shown_same _ _ _ at _ (λ m h. rw e) lower

    pub residue_two : 2 ≤ count p → (y : ℕ) →
        Shown (track_length sh) (met sh end U d (u_of p).s (u_of p).t (pivot p (u_of p).s)) at y →
        Shown (track_length sh) (residue sh end p D W U E d) at (bit_xor (bit_xor w x) y)
    unfolding residue
    residue_two e y upper = shown_same _ _ _ at _ (λ m h. rw low_two (omega arith))
        (shown_xor _ _ _ at _ y lower upper)

-- ## Is a stream 0 in word i?

module _ (n : ℕ) (f : Stream) (i v w : ℕ) (p : Shown n f (64 * i + 64) v) (q : First v (n - 64 * i) w) where
  zero_right : w ≡ 0 → (m : ℕ) → 64 * i ≤ m → m < 64 * (i + 1) → m < n → f m % 2 ≡ 0
  zero_right e = in_word i (λ m. m < n → f m % 2 ≡ 0) (λ k l h. omega (
    arith,
    q.cells k (omega arith),
    shown_at n f (64 * i + 64) v p k (64 * i + k) l (omega arith) h,
    ap (λ x. bit x k) e,
    bit_zero k,
  ))

  zero_wrong : w < 2 ^ 64 → ((m : ℕ) → 64 * i ≤ m → m < 64 * (i + 1) → m < n → f m % 2 ≡ 0) → w ≡ 0
  zero_wrong s z = same_bits 64 w 0 s (omega arith) (λ k l. by_cases (dec_lt k (n - 64 * i))
      (λ h. omega (
        arith,
        q.cells k h,
        shown_at n f (64 * i + 64) v p k (64 * i + k) l (omega arith) (omega arith),
        z (64 * i + k) (omega arith) (omega arith) (omega arith),
        bit_zero k,
      ))
      (λ h. q.none k (omega arith) ∙ sym (bit_zero k)))

pub zero_told : (n : ℕ) (f : Stream) (i v w k : ℕ) → w < 2 ^ 64 → Shown n f (64 * i + 64) v → k ≡ n - 64 * i → First v k w → ZeroTold n f i (eqb w 0)
zero_told n f i v w k s h e q = let q' = subst (λ k. First v k w) e q in record {
  right = λ t. zero_right n f i v w h q' (eqb-true w 0 t);
  wrong = λ t z. eqb-false w 0 t (zero_wrong n f i v w h q' s z);
}

-- Where no track is below the pivots, the diagonal is what is left of it.
pub left_diagonal : (z : Sizes) (end : ℕ) (p : Form) (rows found : List ℕ) (d : TrackSet) (i : ℕ) (r : Bool) → count p ≡ 0 →
    LeftTold z end p rows d i r → DiagonalTold z end p rows found d i r
left_diagonal z end p rows found d i r e t = record {
  right = λ h m a b l. ap (λ v. v % 2) (same m) ∙ t.right h m a b l;
  wrong = λ h w. t.wrong h (λ m a b l. ap (λ v. v % 2) (sym (same m)) ∙ w m a b l);
}
  where
    same : (m : ℕ) → residue (shape z) end p (diagonals rows) (verticals rows) (cell found 0) (cell found 1) d m ≡ left (shape z) end (diagonals rows) (verticals rows) p d m
    same = residue_left (shape z) end p (diagonals rows) (verticals rows) (cell found 0) (cell found 1) d e

-- Where no sum can be wrong.
pub diagonal_implied : (z : Sizes) (end : ℕ) (p : Form) (rows found : List ℕ) → Given z end p rows found → (d : TrackSet) (i : ℕ) (r : Bool) → r ≡ true → ImpliedTold z p d i r →
    ComputedIn z end p rows found (64 * (i + 1)) → DiagonalTold z end p rows found d i true
diagonal_implied z end p rows found given d i r e t computed = record {
  right = λ _ m a b l. implied (shape z) end p (diagonals rows) (verticals rows) (cell found 4) (cell found 0) (cell found 1) (64 * (i + 1)) given.sized given.end_data given.end_small
      computed (t.below e) d (t.two e) m (omega (arith, t.past e)) (omega (arith, t.in_data e)) b;
  wrong = λ f. absurd (true≢false f);
}

-- ## What is left of the vertical of set c

-- Set s as set c sees it.
only_on : (s c : TrackSet) (x : ℕ) → s ≡ c → only_in s c x ≡ x
only_on A A x e = refl
only_on A B x e = cc
only_on B A x e = cc
only_on B B x e = refl

only_off : (s c : TrackSet) (x : ℕ) → s ≢ c → only_in s c x ≡ 0
only_off A A x d = absurd (d refl)
only_off A B x d = refl
only_off B A x d = refl
only_off B B x d = absurd (d refl)

-- r is w with the word x of set s taken off, as set c sees it.
abbrev pub Taken : TrackSet → TrackSet → ℕ → ℕ → ℕ → Type 0
Taken s c w x r = (k : ℕ) → k < 64 → bit r k ≡ (bit w k + only_in s c (bit x k)) % 2

pub taken_on : (s c : TrackSet) (w x : ℕ) → s ≡ c → Taken s c w x (bit_xor w x)
taken_on s c w x e k l = omega (arith, bit_of_xor w x k, only_on s c (bit x k) e)

pub taken_off : (s c : TrackSet) (w x : ℕ) → s ≢ c → Taken s c w x w
taken_off s c w x d k l = omega (arith, bit_lt w k, only_off s c (bit x k) d)

module _ (z : Sizes) (end : ℕ) (p : Form) (rows found : List ℕ) (c : TrackSet) (i w : ℕ) (short : i < 33) (is : get_or rows (34 * (2 + row_of c) + 1 + i) 0 ≡ w) where
  vertical : (k : ℕ) → k < 64 → bit w k ≡ cell rows (2 + row_of c) (64 * i + k)
  vertical k l = sym (cell_index rows (2 + row_of c) i k (64 * i + k) (34 * (2 + row_of c) + 1 + i) short l refl refl ∙ ap (λ v. bit v k) is)

  -- The errors of v and of u in word i.
  v_bit : (k : ℕ) → k < 64 → bit (get_or found (35 + i) 0) k ≡ cell found 1 (64 * i + k)
  v_bit k l = sym (cell_index found 1 i k (64 * i + k) (35 + i) short l refl (omega arith))

  u_bit : (k : ℕ) → k < 64 → bit (get_or found (1 + i) 0) k ≡ cell found 0 (64 * i + k)
  u_bit k l = sym (cell_index found 0 i k (64 * i + k) (1 + i) short l refl (omega arith))

  pub pivot_none : count p ≡ 0 → PivotWord z end p rows found c i w
  unfolding pivot_sum
  pivot_none e = record { cells = λ k l. rw e (omega (arith, vertical k l, bit_lt w k)) }

  pub pivot_one : count p ≡ 1 → (r : ℕ) → Taken (v_of p).s c w (get_or found (35 + i) 0) r → PivotWord z end p rows found c i r
  unfolding pivot_sum
  pivot_one e r t = record { cells = λ k l. rw e (omega (arith, vertical k l, t k l, ap (only_in (v_of p).s c) (v_bit k l))) }

  pub pivot_two : count p ≡ 2 → (r x : ℕ) → Taken (v_of p).s c w (get_or found (35 + i) 0) r → Taken (u_of p).s c r (get_or found (1 + i) 0) x →
      PivotWord z end p rows found c i x
  unfolding pivot_sum
  pivot_two e r x t y = record {
    cells = λ k l. rw e (omega (arith, vertical k l, t k l, y k l, ap (only_in (v_of p).s c) (v_bit k l), ap (only_in (u_of p).s c) (u_bit k l)));
  }

-- ## A pivot's word put

module _ (z : Sizes) (end : ℕ) (p : Form) (rows before after : List ℕ) (c : TrackSet) (i most l n v w x : ℕ)
    (word : PivotWord z end p rows before c i v) (is_end : l ≡ end - 64 * i) (first : First v l w) (put : Put 5 before (2 + row_of c) i w after)
    (is_room : most ≡ room p c) (is : n ≡ most - 64 * i) (kept : First w n x) where
  abbrev f : Stream
  f = pivot_sum (shape z) end p (diagonals rows) (verticals rows) (cell before 0) (cell before 1) c

  put_cells : (k : ℕ) → k < 64 → bit w k ≡ cut end (λ q. f q % 2) (64 * i + k)
  put_cells k g = by_cases (dec_lt (64 * i + k) end)
      (λ h. first.cells k (omega arith) ∙ word.cells k g ∙ sym (cut_in end _ (64 * i + k) h))
      (λ h. first.none k (omega arith) ∙ sym (cut_out end _ (64 * i + k) (omega arith)))

  same_word : w < 2 ^ 64 → x < 2 ^ 64 → ((m : ℕ) → 64 * i ≤ m → m < 64 * (i + 1) → m < end → most ≤ m → f m % 2 ≡ 0) → x ≡ w
  same_word s t h = same_bits 64 x w t s (λ k g. by_cases (dec_lt k n)
      (λ b. kept.cells k b)
      (λ b. kept.none k (omega arith) ∙ sym (by_cases (dec_lt (64 * i + k) end)
      (λ a. first.cells k (omega arith) ∙ word.cells k g ∙ h (64 * i + k) (omega arith) (omega arith) a (omega arith))
      (λ a. first.none k (omega arith)))))

  pub pivot_put : w < 2 ^ 64 → x < 2 ^ 64 → PivotPut z end p rows before c i after (eqb x w)
  pivot_put s t = record {
    later = put_later before (2 + row_of c) i w after put;
    stays = put.there;
    cells = in_word i (λ m. cell after (2 + row_of c) m ≡ cut end (λ q. f q % 2) m) (λ k g. put.here k g ∙ put_cells k g);
    right = λ e. in_word i (λ m. m < end → room p c ≤ m → f m % 2 ≡ 0)
        (λ k g h r. sym (first.cells k (omega arith) ∙ word.cells k g) ∙ ap (λ y. bit y k) (sym (eqb-true x w e)) ∙ kept.none k (omega arith));
    wrong = λ e h. eqb-false x w e (same_word s t (λ m a b g r. h m a b g (omega arith)));
  }
