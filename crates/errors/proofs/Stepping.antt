-- One word more of all errors.
use mathlib.Core.Path.{◌≡◌, sym, ap, ◌∙◌}
use mathlib.Core.Logic.{◌≢◌, by_cases}
use mathlib.Core.Bool.{Bool, true, false, true≢false}
use mathlib.Core.List.{List}
use Prim.Native.Nat.{ℕ, ◌+◌, ◌*◌, ◌<◌, ◌≤◌, ◌%◌}
use native.Mathlib.Decide.{dec_lt}
use native.Mathlib.Omega.{arith}
use Rattle.code.specs.declared.sizes.TrackSet.{TrackSet}
use Rattle.code.specs.declared.sizes.TrackSet.TheVariants.{A, B}
use Rattle.code.specs.Record.{track_length, row_of}
use Rattle.code.specs.Sizes.{shape}
use Rattle.code.specs.declared.sizes.Sizes.{Sizes}
use Rattle.plans.specs.declared.Form.{Form}
use Rattle.plans.specs.Plans.{room, count, v_of, u_of}
use Rattle.forms.specs.Streams.{Stream, cut}
use Rattle.forms.specs.Found.{only_in, residue, pivot_sum}
use Rattle.forms.proofs.Shifts.{cut_at}
use Rattle.forms.proofs.Lows.{low_same}
use Rattle.errors.specs.Rows.{cell, diagonals, verticals}
use Rattle.errors.specs.Steps.{ComputedIn, TestedIn, PivotsIn, Later, Extended, PivotPut, DiagonalTold, Stepped}
use Rattle.errors.proofs.Words.{later_both}
use Rattle.errors.proofs.Tails.{residue_early}

module _ (z : Sizes) (end : ℕ) (p : Form) (rows : List ℕ) (i : ℕ) where
  -- What is left of the diagonals and of the verticals.
  abbrev residues : List ℕ → TrackSet → Stream
  residues found = residue (shape z) end p (diagonals rows) (verticals rows) (cell found 0) (cell found 1)

  abbrev sums : List ℕ → TrackSet → Stream
  sums found = pivot_sum (shape z) end p (diagonals rows) (verticals rows) (cell found 0) (cell found 1)

  -- The verticals take no errors past the position.
  sums_early : (x y : List ℕ) → Later i x y → (c : TrackSet) (m : ℕ) → m < 64 * i → sums y c m ≡ sums x c m
  unfolding pivot_sum
  sums_early x y l c m h = ap (λ v. verticals rows c m + v) (low_same (count p) _ _ _ _
      (λ b. ap (only_in (v_of p).s c) (l.early 1 m (omega arith) h)) (λ b. ap (only_in (u_of p).s c) (l.early 0 m (omega arith) h)))

  -- A pivot's word changes no error below the pivots.
  kept_computed : (c : TrackSet) (mid after : List ℕ) (r : Bool) (n : ℕ) → PivotPut z end p rows mid c i after r → ComputedIn z end p rows mid n → ComputedIn z end p rows after n
  kept_computed c mid after r n w h = rw (w.stays 4 (omega arith) (four c), w.stays 0 (omega arith) (omega arith), w.stays 1 (omega arith) (omega arith)) h
    where
      four : (c : TrackSet) → 4 ≢ 2 + row_of c
      four A = omega arith
      four B = omega arith

  module _ (before : List ℕ) where
    -- A diagonal is wrong.
    pub step_diagonal : (mid : List ℕ) (d : TrackSet) (r : Bool) → r ≡ false → Extended z end p rows before i mid → DiagonalTold z end p rows mid d i r → Stepped z end p rows before i mid false
    step_diagonal mid d r h x t = record {
      later = x.later;
      computed = x.computed;
      tested = λ e. absurd (true≢false (sym e));
      pivots = λ e. absurd (true≢false (sym e));
      failed = λ e t'. t.wrong h (λ m l k b. t'.diagonals d m k b);
    }

    -- What is left of a vertical is wrong.
    wrong_pivot : (mid : List ℕ) (c : TrackSet) (after : List ℕ) (r : Bool) → r ≡ false → PivotPut z end p rows mid c i after r → TestedIn z end p rows after (64 * (i + 1)) → ⊥
    wrong_pivot mid c after r h w t =
        w.wrong h (λ m l k b f. rw (← w.stays 0 (omega arith) (omega arith), ← w.stays 1 (omega arith) (omega arith)) (t.verticals c m k b f))

    pub step_pivot : (mid : List ℕ) (c : TrackSet) (after : List ℕ) (r : Bool) → r ≡ false → Extended z end p rows before i mid → PivotPut z end p rows mid c i after r →
        Stepped z end p rows before i after false
    step_pivot mid c after r h x w = record {
      later = later_both i _ _ _ x.later w.later;
      computed = kept_computed c mid after r _ w x.computed;
      tested = λ e. absurd (true≢false (sym e));
      pivots = λ e. absurd (true≢false (sym e));
      failed = λ e. wrong_pivot mid c after r h w;
    }

    -- All is right but for the last vertical, of which r says.
    module _ (mid after last : List ℕ) (ra rb rc r : Bool) (ea : ra ≡ true) (eb : rb ≡ true) (ec : rc ≡ true) (x : Extended z end p rows before i mid)
        (da : DiagonalTold z end p rows mid A i ra) (db : DiagonalTold z end p rows mid B i rb)
        (wa : PivotPut z end p rows mid A i after rc) (wb : PivotPut z end p rows after B i last r)
        (t : TestedIn z end p rows before (64 * i)) (v : PivotsIn z end p rows before (64 * i)) where
      all_later : Later i before last
      all_later = later_both i _ _ _ x.later (later_both i _ _ _ wa.later wb.later)

      same_after : (k : ℕ) → k < 2 → cell last k ≡ cell after k
      same_after k l = wb.stays k (omega arith) (omega arith)

      same_mid : (k : ℕ) → k < 2 → cell last k ≡ cell mid k
      same_mid k l = same_after k l ∙ wa.stays k (omega arith) (omega arith)

      word_zero : (d : TrackSet) (m : ℕ) → 64 * i ≤ m → m < 64 * (i + 1) → m < track_length (shape z) → residues mid d m % 2 ≡ 0
      word_zero A = da.right ea
      word_zero B = db.right eb

      diagonals_right : (d : TrackSet) (m : ℕ) → m < 64 * (i + 1) → m < track_length (shape z) → residues last d m % 2 ≡ 0
      diagonals_right d m h b = by_cases (dec_lt m (64 * i))
          (λ l. ap (λ k. k % 2) (residue_early z end p rows _ _ _ _ d m
          (λ o h. all_later.early 0 o (omega arith) (omega arith)) (λ o h. all_later.early 1 o (omega arith) (omega arith))) ∙ t.diagonals d m l b)
          (λ l. rw (same_mid 0 (omega arith), same_mid 1 (omega arith)) (word_zero d m (omega arith) h b))

      verticals_right : r ≡ true → (c : TrackSet) (m : ℕ) → m < 64 * (i + 1) → m < end → room p c ≤ m → sums last c m % 2 ≡ 0
      verticals_right h c m k b f = by_cases (dec_lt m (64 * i))
          (λ l. ap (λ x. x % 2) (sums_early before last all_later c m l) ∙ t.verticals c m l b f)
          (λ l. word c (omega arith) f)
        where
          word : (c : TrackSet) → 64 * i ≤ m → room p c ≤ m → sums last c m % 2 ≡ 0
          word A l f = rw (same_mid 0 (omega arith), same_mid 1 (omega arith)) (wa.right ec m l k b f)
          word B l f = rw (same_after 0 (omega arith), same_after 1 (omega arith)) (wb.right h m l k b f)

      pivots_put : PivotsIn z end p rows last (64 * (i + 1))
      pivots_put c m h = by_cases (dec_lt m (64 * i))
          (λ l. all_later.early (2 + row_of c) m (small c) l ∙ v c m l ∙ cut_at end _ _ m (λ k. ap (λ x. x % 2) (sym (sums_early before last all_later c m l))))
          (λ l. word c (omega arith))
        where
          small : (c : TrackSet) → 2 + row_of c < 5
          small A = omega arith
          small B = omega arith

          word : (c : TrackSet) → 64 * i ≤ m → cell last (2 + row_of c) m ≡ cut end (λ q. sums last c q % 2) m
          word A l = rw (wb.stays 2 (omega arith) (omega arith), same_mid 0 (omega arith), same_mid 1 (omega arith)) (wa.cells m l h)
          word B l = rw (same_after 0 (omega arith), same_after 1 (omega arith)) (wb.cells m l h)

      pub step_all : Stepped z end p rows before i last r
      step_all = record {
        later = all_later;
        computed = kept_computed B after last r _ wb (kept_computed A mid after rc _ wa x.computed);
        tested = λ h. record { diagonals = diagonals_right; verticals = verticals_right h };
        pivots = λ h. pivots_put;
        failed = λ h. wrong_pivot after B last r h wb;
      }
