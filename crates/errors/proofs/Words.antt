-- Words of rows: the next word of a quotient, and the rows that it is put into.
use mathlib.Core.Path.{◌≡◌, refl, sym, ap, ◌∙◌}
use mathlib.Core.Logic.{by_cases, ite, if_pos, if_neg}
use mathlib.Core.List.{List}
use Prim.Native.Nat.{ℕ, ◌+◌, ◌*◌, ◌-◌, ◌<◌, ◌≤◌, ◌%◌}
use native.Mathlib.Decide.{dec_lt, ℕ_discrete}
use native.Mathlib.Omega.{arith}
use lib.ListN.{get_or}
use Rattle.code.specs.Record.{back}
use Rattle.code.proofs.Sums.{back_at, back_early, back_same}
use Rattle.words.specs.Words.{bit, Fed}
use Rattle.words.proofs.Bit.{cell_in}
use Rattle.forms.specs.Streams.{Stream}
use Rattle.forms.proofs.Shifts.{back_move}
use Rattle.errors.specs.declared.work.Work.{Work}
use Rattle.errors.specs.Rows.{cell, Rows, Shown, Put, Next}
use Rattle.errors.specs.Steps.{Given, Later}
use Rattle.errors.proofs.Charging.{shown_row}

-- The word before word i.
pub prior_word : (ws : List ℕ) (row i n : ℕ) → get_or ws (34 * row) 0 ≡ 0 → 34 * row + i ≡ n → Shown 2112 (cell ws row) (64 * i) (get_or ws n 0)
prior_word ws row i n z e = shown_row ws row (64 * i) _ z (record { cells = λ k m l a. sym (cell_in ws n k m l (omega arith)) }) 2112 (omega arith)

-- ## The next word

-- A position in word i.
pub in_word : (i : ℕ) (P : ℕ → Type 0) → ((k : ℕ) → k < 64 → P (64 * i + k)) → (m : ℕ) → 64 * i ≤ m → m < 64 * (i + 1) → P m
in_word i P here m a l = let e : 64 * i + (m - 64 * i) ≡ m = omega arith in rw e at (here (m - 64 * i) (omega arith))

-- A position before the end of word i lies before the word or in it.
pub word_cases : (i : ℕ) (P : ℕ → Type 0) → ((m : ℕ) → m < 64 * i → P m) → ((k : ℕ) → k < 64 → P (64 * i + k)) → (m : ℕ) → m < 64 * (i + 1) → P m
word_cases i P early here m l = by_cases (dec_lt m (64 * i))
    (λ h. early m h)
    (λ h. in_word i P here m (omega arith) l)

-- `quotient_word` gives it of a row r and the word before, where d stands for the gap.
pub next_fed : (R P : Stream) (g n i most r prior d x : ℕ) → i < 33 → Fed r prior d n x →
    ((k : ℕ) → k < 64 → 64 * i + k < most → bit r k ≡ R (64 * i + k) % 2) → Shown 2112 P (64 * i) prior →
    (d < 64 → d ≡ g) → (64 ≤ d → most ≤ g) → Next R P g n i most x
next_fed R P g n i most r prior d x short fed row before near far = record {
  cells = λ C early inside outside k b l.
      let here = row k b l in
      by_cases (dec_lt d 64)
      (λ s. let e = near s in by_cases (dec_lt k d)
      (λ h. omega (
        arith,
        fed.carried s k (k + 64 - d) (omega arith) (omega arith),
        before.cells (k + 64 - d) (omega arith) (omega arith),
        back_move P (64 * i + (k + 64 - d)) 64 (64 * i + k) g (omega arith),
        back_same C P (64 * i + k) g (λ q a. early q (omega arith)),
      ))
      (λ h.
      let c = back_at C (64 * i + (k - d)) g (64 * i + k) (omega arith) in
      by_cases (dec_lt (k - d) n)
      (λ t. omega (arith, fed.again s k (k - d) b (omega arith) t, inside (k - d) (omega arith) t (omega arith)))
      (λ t. omega (arith, fed.past s k (k - d) b (omega arith) (omega arith), outside (k - d) (omega arith) (omega arith) (omega arith)))))
      (λ s. omega (arith, ap (λ w. bit w k) (fed.far (omega arith)), back_early C (64 * i + k) g (omega (arith, far (omega arith)))));
}

-- The stream P with word i after it.
continued : Stream → ℕ → ℕ → Stream
continued P i x m = ite (dec_lt m (64 * i)) (P m) (bit x (m - 64 * i))

-- The same before an earlier end.
pub next_less : (R P : Stream) (g i most less x : ℕ) → less ≤ most → Next R P g 64 i most x → Next R P g 64 i less x
unfolding continued
next_less R P g i most less x h next = record {
  cells = λ C early inside outside k b l.
      next.cells (continued P i x) before (λ k b n m. at k) (λ k b n m. absurd (omega arith)) k b (omega arith)
      ∙ ap (λ v. (R (64 * i + k) + v) % 2) (back_same (continued P i x) C (64 * i + k) g
      (λ q a. word_cases i (λ q. q < less → continued P i x q ≡ C q)
      (λ m t u. before m t ∙ sym (early m t))
      (λ m t u. at m ∙ sym (inside m t t u))
      q (omega arith) (omega arith)));
}
  where
    before : (m : ℕ) → m < 64 * i → continued P i x m ≡ P m
    before m l = if_pos (dec_lt m (64 * i)) l _ _

    at : (k : ℕ) → continued P i x (64 * i + k) ≡ bit x k
    at k =
        let no : ¬ (64 * i + k < 64 * i) = omega arith in
        let e : 64 * i + k - 64 * i ≡ k = omega arith in
        if_neg (dec_lt (64 * i + k) (64 * i)) no _ _ ∙ ap (bit x) e

-- A quotient, and the next word of it.
pub next_more : (R P C : Stream) (g i most x : ℕ) → Next R P g 64 i most x → ((m : ℕ) → m < 64 * i → C m ≡ P m) →
    ((k : ℕ) → k < 64 → 64 * i + k < most → C (64 * i + k) ≡ bit x k) → ((m : ℕ) → m < 64 * i → m < most → P m ≡ (R m + back P m g) % 2) →
    (m : ℕ) → m < 64 * (i + 1) → m < most → C m ≡ (R m + back C m g) % 2
next_more R P C g i most x next early here before = word_cases i (λ m. m < most → C m ≡ (R m + back C m g) % 2)
    (λ m l h. early m l ∙ before m l h ∙ ap (λ v. (R m + v) % 2) (back_same P C m g (λ q a. sym (early q (omega arith)))))
    (λ k b h. here k b h ∙ next.cells C early (λ q c t u. here q c u) (λ q c t u. absurd (omega arith)) k b h)

-- ## Words put into rows

-- The cells before a word that is put stay in all rows; so they do with none put, and with two.
pub put_later : (before : List ℕ) (row i w : ℕ) (after : List ℕ) → Put 5 before row i w after → Later i before after
put_later before row i w after h = record {
  rows = h.rows;
  early = λ r m l b. by_cases (ℕ_discrete r row) (λ e. rw e (h.early m b)) (λ d. ap (λ f. f m) (h.there r l d));
}

pub later_same : (i : ℕ) (x : List ℕ) → Rows 5 x → Later i x x
later_same i x five = record { rows = five; early = λ r m a b. refl }

pub later_both : (i : ℕ) (x y w : List ℕ) → Later i x y → Later i y w → Later i x w
later_both i x y w p q = record { rows = q.rows; early = λ r m l h. q.early r m l h ∙ p.early r m l h }

-- What is known of the work and of rows of errors.
pub given : (w : Work) (found : List ℕ) → Rows 5 found → Given w.z w.end w.form w.rows.now found
given w found five = record { end_data = w.end_data; end_small = w.end_small; sized = w.sized; sums = w.sums; errors = five }
