-- The tracks below the pivots: their words, and what is known when these are put.
use mathlib.Core.Path.{◌≡◌, refl, sym, ap, ◌∙◌}
use mathlib.Core.Logic.{by_cases}
use mathlib.Core.List.{List}
use Prim.Native.Nat.{ℕ, ◌+◌, ◌*◌, ◌-◌, ◌<◌, ◌≤◌, ◌%◌}
use native.Mathlib.Decide.{dec_lt}
use native.Mathlib.Omega.{arith}
use lib.Bits.{bit_xor}
use lib.ListN.{get_or}
use Rattle.code.specs.declared.sizes.TrackSet.{TrackSet}
use Rattle.code.specs.Record.{other, lag, track_length, back}
use Rattle.code.specs.Sizes.{shape}
use Rattle.code.specs.declared.sizes.Sizes.{Sizes}
use Rattle.code.proofs.Sums.{back_same}
use Rattle.plans.specs.declared.Track.{Track}
use Rattle.plans.specs.declared.Form.{Form}
use Rattle.plans.specs.Plans.{pivot, count, v_of, u_of}
use Rattle.words.specs.Words.{bit, First, Fed}
use Rattle.words.proofs.Bit.{bit_lt, bit_of_xor}
use Rattle.forms.specs.Streams.{Stream, cut}
use Rattle.forms.specs.Forms.{left, met, gap}
use Rattle.forms.specs.Found.{extent, at_zero, low_sum, ahead, across, lower_row, residue}
use Rattle.forms.proofs.Shifts.{cut_in, cut_out, cut_at}
use Rattle.forms.proofs.Lows.{low_two, low_zero}
use Rattle.forms.proofs.Strides.{extent_fits}
use Rattle.errors.specs.Rows.{cell, Rows, diagonals, verticals, Shown, GapOf, Put}
use Rattle.errors.specs.Steps.{ComputedIn, Given, PairWord, UpperWord, LowerWord, Later, UpperPut, LowerPut, TailPut, Extended}
use Rattle.errors.proofs.Shown.{shown_xor, shown_same, shown_at, shown_back}
use Rattle.errors.proofs.Charging.{shown_first}
use Rattle.errors.proofs.Numbers.{Numbers}
use Rattle.errors.proofs.Words.{prior_word, next_fed, next_less, next_more, put_later, later_same, later_both, in_word}
use Rattle.errors.proofs.Tails.{extent_within, residue_early, lower_row_same, tail_same}

-- ## Words

-- The word of u's error.
pub upper_next : (z : Sizes) (p : Form) (found : List ℕ) → Rows 5 found → (i pair d x : ℕ) → i < 33 → GapOf (shape z) (gap (shape z) (u_of p).s (u_of p).t (pivot p (u_of p).s)) d →
    Fed pair (get_or found (0 + i) 0) d 64 x → UpperWord z p found i pair x
upper_next z p found five i pair d x l g fed R same =
    next_fed R _ _ 64 i _ pair (get_or found (0 + i) 0) d x l fed (λ k b h. sym (same k b))
    (prior_word found 0 i (0 + i) (five.lead 0 (omega arith)) (omega arith)) (λ b. g.near b) (λ b. g.far b)

module _ (z : Sizes) (end : ℕ) (p : Form) (rows found : List ℕ) where
  abbrev s : TrackSet
  s = (v_of p).s

  abbrev q : TrackSet
  q = (u_of p).s

  -- What is left of the diagonals, and on v's with u taken off.
  abbrev R : TrackSet → Stream
  R = left (shape z) end (diagonals rows) (verticals rows) p

  abbrev row : Stream → Stream
  row = lower_row (shape z) end p (diagonals rows) (verticals rows)

  -- The word of u's pair.
  pub pair_next : Rows 5 found → (v : Track) (i a b c r₁ r₂ x : ℕ) → i < 33 → Numbers z end p v a b c → b + c < 64 →
      Shown (track_length (shape z)) (R (other s)) (64 * i + 64 + a) r₁ →
      Shown (track_length (shape z)) (R s) (64 * i + 64 + a + (v_of p).t - b) r₂ →
      Fed (bit_xor r₁ r₂) (get_or found (136 + i) 0) (b + c - (a + (v_of p).t)) 64 x → PairWord z end p rows found i x
  pair_next five v i a b c r₁ r₂ x l n small h₁ h₂ fed =
      next_fed _ _ _ 64 i _ _ _ (b + c - (a + (v_of p).t)) x l fed
      (λ k b' h. omega (
        arith,
        bit_of_xor r₁ r₂ k,
        shown_at _ _ _ _ (rw n.a_is at h₁) k (64 * i + k + ahead (shape z) end p) b' (omega arith) (omega (arith, n.met)),
        shown_back _ _ _ _ (rw (n.a_is, n.b_is) at h₂) k (64 * i + k + ahead (shape z) end p + (v_of p).t) (across (shape z) end p) b' (omega arith) (omega (arith, n.met)),
      ))
      (prior_word found 4 i (136 + i) (five.lead 4 (omega arith)) (omega arith))
      (λ d. omega arith) (λ d. absurd (omega arith))

  -- What is left on v's diagonal, with u taken off.
  abbrev pub lower_left : Stream
  lower_left m = R s m + low_sum (count p) 0 (met (shape z) end (cell found 0) s q (u_of p).t (pivot p q) m)

  pub lower_one : (at r : ℕ) → count p < 2 → Shown (track_length (shape z)) (R s) at r → Shown (track_length (shape z)) lower_left at r
  lower_one at r l h = shown_same _ _ _ at r (λ m b. omega (arith, low_zero (count p) 0 (met (shape z) end (cell found 0) s q (u_of p).t (pivot p q) m) (λ k. refl) (λ k. absurd (omega arith)))) h

  pub lower_two : (at r₁ r₂ : ℕ) → 2 ≤ count p → Shown (track_length (shape z)) (R s) at r₁ →
      Shown (track_length (shape z)) (met (shape z) end (cell found 0) s q (u_of p).t (pivot p q)) at r₂ →
      Shown (track_length (shape z)) lower_left at (bit_xor r₁ r₂)
  lower_two at r₁ r₂ l h₁ h₂ = shown_same _ _ _ at (bit_xor r₁ r₂) (λ m b. omega (arith, low_two (count p) 0 (met (shape z) end (cell found 0) s q (u_of p).t (pivot p q) m) l)) (shown_xor _ _ _ at r₁ r₂ h₁ h₂)

  -- The word of v's error.
  pub lower_next : Rows 5 found → (i r prior d x : ℕ) → i < 33 → Shown (track_length (shape z)) lower_left (64 * i + 64 + (v_of p).t) r →
      (v_of p).t ≤ lag (shape z) → First (get_or found (34 + i) 0) (end + 64 - 64 * i) prior →
      GapOf (shape z) (gap (shape z) s (v_of p).t (pivot p s)) d →
      Fed r prior d (end - 64 * i) x → LowerWord z end p rows found i x
  lower_next five i r prior d x l h v first g fed =
      let fits = extent_fits (shape z) (track_length (shape z)) (v_of p).t (omega arith) v in
      next_fed _ _ _ (end - 64 * i) i _ r prior d x l fed
      (λ k b m. shown_at _ _ _ r h k (64 * i + k + (v_of p).t) b (omega arith) (omega arith))
      (shown_first _ _ _ end _ prior (prior_word found 1 i (34 + i) (five.lead 1 (omega arith)) (omega arith)) first)
      (λ b. g.near b) (λ b. omega (arith, g.far b))

  -- ## Words put

  -- There are no errors below the pivots.
  pub computed_none : count p < 1 → (n : ℕ) → ComputedIn z end p rows found n
  computed_none l n = record {
    pair = λ h. absurd (omega arith);
    upper = λ h. absurd (omega arith);
    upper_end = λ h. absurd (omega arith);
    lower = λ h. absurd (omega arith);
    lower_end = λ h. absurd (omega arith);
  }

  module _ (i : ℕ) where
    abbrev u_gap : ℕ
    u_gap = gap (shape z) q (u_of p).t (pivot p q)

    abbrev v_gap : ℕ
    v_gap = gap (shape z) s (v_of p).t (pivot p s)

    -- v's error in f is a quotient at m.
    abbrev lower_at : List ℕ → ℕ → Type 0
    lower_at f m = cell f 1 m ≡ (row (cell f 0) m + back (cut end (cell f 1)) m v_gap) % 2

    -- u's, at the end where u can be wrong: f has the pair's word, and h the error's too.
    pub upper_put : (pair w w' : ℕ) (f h : List ℕ) → end ≤ track_length (shape z) → 2 ≤ count p → ComputedIn z end p rows found (64 * i) →
        PairWord z end p rows found i pair → Put 5 found 4 i pair f → UpperWord z p f i pair w → First w (extent (shape z) end (u_of p).t - 64 * i) w' →
        Put 5 f 0 i w' h → UpperPut z end p rows found i h
    upper_put pair w w' f h l two computed pw put₁ uw first put₂ = record {
      later = later_both i _ _ _ (put_later found 4 i pair f put₁) (put_later f 0 i w' h put₂);
      lower_stays = put₂.there 1 (omega arith) (omega arith) ∙ put₁.there 1 (omega arith) (omega arith);
      pair = rw same_pair (next_more _ (cell found 4) (cell f 4) _ i _ pair pw put₁.early (λ k b m. put₁.here k b) (computed.pair two));
      upper = rw same_pair (next_more (cell f 4) (cell f 0) (cell h 0) _ i _ w
          (next_less _ _ _ i _ _ w (extent_within (shape z) end (u_of p).t l) (uw (cell f 4) (λ k b. omega (arith, put₁.here k b, bit_lt pair k))))
          put₂.early
          (λ k b m. put₂.here k b ∙ first.cells k (omega arith))
          (λ m b r. rw same_upper (computed.upper two m b r ∙ ap (λ v. (v + back (cell found 0) m u_gap) % 2) (sym (put₁.early m b)))));
      upper_end = in_word i (λ m. extent (shape z) end (u_of p).t ≤ m → cell h 0 m ≡ 0) (λ k b r. put₂.here k b ∙ first.none k (omega arith));
    }
      where
        same_pair : cell h 4 ≡ cell f 4
        same_pair = put₂.there 4 (omega arith) (omega arith)

        same_upper : cell f 0 ≡ cell found 0
        same_upper = put₁.there 0 (omega arith) (omega arith)

    -- v's, at the end where v can be wrong.
    pub lower_put : (w w' : ℕ) (f : List ℕ) → LowerWord z end p rows found i w → First w (extent (shape z) (track_length (shape z)) (v_of p).t - 64 * i) w' →
        Put 5 found 1 i w' f → LowerPut z end p rows found i f
    lower_put w w' f lw first put = record {
      later = put_later found 1 i w' f put;
      upper_stays = put.there 0 (omega arith) (omega arith);
      pair_stays = put.there 4 (omega arith) (omega arith);
      lower = in_word i
          (λ m. m < extent (shape z) (track_length (shape z)) (v_of p).t → lower_at f m)
          (λ k b r. here k b r ∙ rw same_upper (lw.cells (cut end (cell f 1))
          (λ m b. cut_at end (cell f 1) (cell found 1) m (λ n. put.early m b))
          (λ k b n r. cut_in end (cell f 1) (64 * i + k) (omega arith) ∙ here k b r)
          (λ k b n r. cut_out end (cell f 1) (64 * i + k) (omega arith)) k b r));
      lower_end = in_word i (λ m. extent (shape z) (track_length (shape z)) (v_of p).t ≤ m → cell f 1 m ≡ 0) (λ k b r. put.here k b ∙ first.none k (omega arith));
    }
      where
        same_upper : cell f 0 ≡ cell found 0
        same_upper = put.there 0 (omega arith) (omega arith)

        here : (k : ℕ) → k < 64 → 64 * i + k < extent (shape z) (track_length (shape z)) (v_of p).t → cell f 1 (64 * i + k) ≡ bit w k
        here k b r = put.here k b ∙ first.cells k (omega arith)

    -- Before u's tail is put, there is none.
    pub tail_empty : (f g : List ℕ) → UpperPut z end p rows found i f → LowerPut z end p rows f i g →
        (m : ℕ) → 64 * i ≤ m → m < 64 * (i + 1) → extent (shape z) end (u_of p).t ≤ m → cell g 0 m ≡ 0
    tail_empty f g upper lower = rw lower.upper_stays upper.upper_end

    -- There are none to put.
    pub extended_none : Rows 5 found → count p < 1 → Extended z end p rows found i found
    extended_none five l = record { later = later_same i found five; computed = computed_none l _ }

    module _ (given : Given z end p rows found) (computed : ComputedIn z end p rows found (64 * i)) where
      -- v's error in word i, with the words before.
      module _ (one : 1 ≤ count p) (h : List ℕ) (later : Later i found h) where
        lower_all : ((m : ℕ) → 64 * i ≤ m → m < 64 * (i + 1) → m < extent (shape z) (track_length (shape z)) (v_of p).t → lower_at h m) →
            (m : ℕ) → m < 64 * (i + 1) → m < extent (shape z) (track_length (shape z)) (v_of p).t → lower_at h m
        lower_all word m a r = by_cases (dec_lt m (64 * i))
            (λ b. later.early 1 m (omega arith) b ∙ computed.lower one m b r ∙ omega (
              arith,
              lower_row_same z end p rows found given (cell found 0) (cell h 0) m r (λ n k e. sym (later.early 0 n (omega arith) (omega arith))),
              back_same (cut end (cell found 1)) (cut end (cell h 1)) m v_gap
                  (λ n k. cut_at end (cell found 1) (cell h 1) n (λ e. sym (later.early 1 n (omega arith) (omega arith)))),
            ))
            (λ b. word m (omega arith) a r)

        lower_end_all : ((m : ℕ) → 64 * i ≤ m → m < 64 * (i + 1) → extent (shape z) (track_length (shape z)) (v_of p).t ≤ m → cell h 1 m ≡ 0) →
            (m : ℕ) → m < 64 * (i + 1) → extent (shape z) (track_length (shape z)) (v_of p).t ≤ m → cell h 1 m ≡ 0
        lower_end_all word m a r = by_cases (dec_lt m (64 * i))
            (λ b. later.early 1 m (omega arith) b ∙ computed.lower_end one m b r)
            (λ b. word m (omega arith) a r)

      -- There is v alone.
      pub extended_one : (h : List ℕ) → count p ≡ 1 → LowerPut z end p rows found i h → Extended z end p rows found i h
      extended_one h one lower = record {
        later = lower.later;
        computed = record {
          pair = λ two. absurd (omega arith);
          upper = λ two. absurd (omega arith);
          upper_end = λ two. absurd (omega arith);
          lower = λ b. lower_all b h lower.later lower.lower;
          lower_end = λ b. lower_end_all b h lower.later lower.lower_end;
        };
      }

      -- There are both.
      module _ (f g h : List ℕ) (two : 2 ≤ count p) (upper : UpperPut z end p rows found i f) (lower : LowerPut z end p rows f i g) (tail : TailPut z end p rows g i h) where
        all_later : Later i found h
        all_later = later_both i _ _ _ upper.later (later_both i _ _ _ lower.later tail.later)

        -- u's error before the tail, and in it.
        upper_all : (m : ℕ) → m < 64 * (i + 1) → m < extent (shape z) end (u_of p).t → cell h 0 m ≡ (cell f 4 m + back (cell h 0) m u_gap) % 2
        upper_all m b r =
            let same : (n : ℕ) → n ≤ m → cell h 0 n ≡ cell f 0 n = λ n a. tail.same n (omega arith) ∙ ap (λ x. x n) lower.upper_stays in
            same m (omega arith) ∙ upper.upper m b r ∙ ap (λ v. (cell f 4 m + v) % 2) (back_same (cell f 0) (cell h 0) m u_gap (λ n a. sym (same n (omega arith))))

        upper_end_all : (m : ℕ) → m < 64 * (i + 1) → m < track_length (shape z) → extent (shape z) end (u_of p).t ≤ m →
            cell h 0 m ≡ at_zero (u_of p).t (residue (shape z) end p (diagonals rows) (verticals rows) (cut end (cell h 0)) (cell h 1) q m % 2)
        upper_end_all m b l r = by_cases (dec_lt m (64 * i))
            (λ a. all_later.early 0 m (omega arith) a ∙ computed.upper_end two m a l r ∙ ap (λ v. at_zero (u_of p).t (v % 2)) (residue_early z end p rows _ _ _ _ q m
            (λ n k. cut_at end _ _ n (λ e. sym (all_later.early 0 n (omega arith) (omega arith)))) (λ n k. sym (all_later.early 1 n (omega arith) (omega arith)))))
            (λ a. tail.tail m (omega arith) b l r)

        -- v's diagonal meets none of the tail.
        lower_word : (m : ℕ) → 64 * i ≤ m → m < 64 * (i + 1) → m < extent (shape z) (track_length (shape z)) (v_of p).t → lower_at h m
        lower_word m a b r =
            let l = extent_within (shape z) (track_length (shape z)) (v_of p).t (omega arith) in
            rw (tail.others 1 (omega arith) (omega arith)) (lower.lower m a b r ∙ ap (λ v. (v + back (cut end (cell g 1)) m v_gap) % 2)
            (lower_row_same z end p rows found given (cell g 0) (cell h 0) m r
            (λ n k e. tail_same z end p rows i g (tail_empty f g upper lower) h tail n (omega arith) (omega arith) e)))

        pub extended_two : Extended z end p rows found i h
        extended_two = record {
          later = all_later;
          computed = record {
            pair = λ _. rw (tail.others 4 (omega arith) (omega arith), lower.pair_stays) upper.pair;
            upper = λ _. rw (tail.others 4 (omega arith) (omega arith), lower.pair_stays) upper_all;
            upper_end = λ _. upper_end_all;
            lower = λ one. lower_all one h all_later lower_word;
            lower_end = λ one. lower_end_all one h all_later (rw (tail.others 1 (omega arith) (omega arith)) lower.lower_end);
          };
        }
