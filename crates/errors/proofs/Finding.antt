-- All words, one after the other.
use mathlib.Core.Path.{◌≡◌, refl, ap, ◌∙◌}
use mathlib.Core.Logic.{◌≢◌, by_cases}
use mathlib.Core.List.{List}
use Prim.Native.Nat.{ℕ, ◌+◌, ◌*◌, ◌-◌, ◌<◌, ◌≤◌}
use native.Mathlib.Decide.{dec_lt, ℕ_discrete}
use native.Mathlib.Omega.{arith}
use Rattle.code.specs.declared.sizes.TrackSet.{TrackSet}
use Rattle.code.specs.declared.sizes.TrackSet.TheVariants.{A, B}
use Rattle.code.specs.declared.sizes.Sizes.{Sizes}
use Rattle.code.specs.Record.{row_of}
use Rattle.plans.specs.declared.Form.{Form}
use Rattle.plans.specs.Plans.{count}
use Rattle.words.proofs.Bit.{bit_zero}
use Rattle.errors.specs.Rows.{cell, Put}
use Rattle.errors.specs.Steps.{ComputedIn, TestedIn, PivotsIn, Given, Later, Quiet, Fresh, Begun}
use Rattle.errors.proofs.Words.{put_later, later_both}
use Rattle.errors.proofs.Lows.{computed_none}
use Rattle.errors.proofs.Beginning.{start_computed, start_tested, start_pivots, bare_tested, bare_pivots}

-- Errors and tests of the words before i, none before the start.
pub record Finding (z : Sizes) (end : ℕ) (p : Form) (rows found : List ℕ) (start i : ℕ) : Type 0 where
  pub order : start ≤ i
  pub within : i ≤ 33
  pub fresh : Fresh found start
  pub computed : ComputedIn z end p rows found (64 * i)
  pub tested : TestedIn z end p rows found (64 * i)
  pub pivots : PivotsIn z end p rows found (64 * i)

-- Words past the start are put.
fresh_later : (start i : ℕ) (before after : List ℕ) → start ≤ i → Later i before after → Fresh before start → Fresh after start
fresh_later start i before after h w f = record { rows = w.rows; zero = λ r m l k. w.early r m l (omega arith) ∙ f.zero r m l k }

-- ## The word to begin with

pub begin_later : (start : ℕ) (found mid after : List ℕ) → 0 < start → start < 33 → Fresh found start →
    Put 5 found 2 start 0 mid → Put 5 mid 3 start 0 after → Begun start found after (start + 1)
begin_later start found mid after pos h f w v = record {
  order = omega arith;
  within = omega arith;
  fresh = fresh_later start start found after (omega arith) later f;
  same = λ e. absurd (omega arith);
  next = λ d. (pos, refl);
  zero = λ d. zero;
}
  where
    later : Later start found after
    later = later_both start _ _ _ (put_later found 2 start 0 mid w) (put_later mid 3 start 0 after v)

    row_zero : (r : ℕ) → r < 5 → ((k : ℕ) → k < 64 → cell after r (64 * start + k) ≡ 0) → (m : ℕ) → m < 64 * (start + 1) → cell after r m ≡ 0
    row_zero r l here m b = by_cases (dec_lt m (64 * start)) (λ e. later.early r m l e ∙ f.zero r m l e)
        (λ e. ap (cell after r) (sym_plus m (omega arith)) ∙ here (m - 64 * start) (omega arith))
      where
        sym_plus : (m : ℕ) → 64 * start ≤ m → m ≡ 64 * start + (m - 64 * start)
        sym_plus m l = omega arith

    zero : (c : TrackSet) (m : ℕ) → m < 64 * (start + 1) → cell after (2 + row_of c) m ≡ 0
    zero A = row_zero 2 (omega arith) (λ k l. ap (λ x. x (64 * start + k)) (v.there 2 (omega arith) (omega arith)) ∙ w.here k l ∙ bit_zero k)
    zero B = row_zero 3 (omega arith) (λ k l. v.here k l ∙ bit_zero k)

module _ (z : Sizes) (end : ℕ) (p : Form) (rows found : List ℕ) (given : Given z end p rows found) (start : ℕ) (quiet : Quiet z rows start) (fresh : Fresh found start) where
  -- Before the start all is done.
  pub start_finding : start ≤ 33 → Finding z end p rows found start start
  start_finding h = record {
    order = omega arith;
    within = h;
    fresh = fresh;
    computed = start_computed z end p rows found given start quiet fresh;
    tested = start_tested z end p rows found given start quiet fresh;
    pivots = start_pivots z end p rows found given start quiet fresh;
  }

  -- For pivots alone also before the word to begin with.
  pub begin_finding : count p ≡ 0 → (after : List ℕ) (r : ℕ) → Begun start found after r → Finding z end p rows after start r
  begin_finding none after r w = by_cases (ℕ_discrete r start) at_start a_word_later
    where
      at_start : r ≡ start → Finding z end p rows after start r
      at_start e = rw (w.same e, e) (start_finding (omega (arith, w.within)))

      a_word_later : r ≢ start → Finding z end p rows after start r
      a_word_later d =
          let a = w.next d in
          let zero : (c : TrackSet) (m : ℕ) → m < 64 * (start + 1) → cell after (2 + row_of c) m ≡ 0 = λ c m l. w.zero d c m (omega arith) in
          rw a.1 (record {
            order = omega arith;
            within = omega (arith, w.within);
            fresh = w.fresh;
            computed = computed_none z end p rows after (omega arith) _;
            tested = bare_tested z end p rows found given start quiet fresh none a.0 after zero;
            pivots = bare_pivots z end p rows found given start quiet fresh none a.0 after zero;
          })
