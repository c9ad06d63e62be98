-- From position to position: first the sets with one flagged cell, then all cells.
use mathlib.Core.Path.{◌≡◌, refl, sym, ◌∙◌, subst}
use mathlib.Core.Logic.{by_cases}
use mathlib.Core.Bool.{Bool, true, false, true≢false}
use mathlib.Core.List.{List}
use Prim.Native.Nat.{ℕ, ◌+◌, ◌<◌, ◌≤◌}
use native.Mathlib.Decide.{dec_lt}
use native.Mathlib.Omega.{arith}
use lib.ListN.{get_or}
use Rattle.std.specs.Prelude.{Option, Some, None}
use Rattle.code.specs.declared.sizes.TrackSet.{TrackSet}
use Rattle.code.specs.declared.sizes.TrackSet.TheVariants.{A, B}
use Rattle.code.specs.Record.{other, Shape, tracks, track_length, Cells, Good}
use Rattle.code.specs.Image.{cells}
use Rattle.code.specs.Flags.{CellFlags, word_flags, flag_count, AgreeOff}
use Rattle.code.specs.Sizes.{shape}
use Rattle.code.specs.declared.sizes.Sizes.{Sizes}
use Rattle.code.proofs.Linear.{good_same}
use Rattle.code.proofs.Patterns.{in_each}
use Rattle.syndrome.specs.Syndrome.{Kept, Tested}
use Rattle.solver.specs.declared.Plan.{Plan}
use Rattle.solver.specs.Solver.{marked, Single, plan_of}
use Rattle.solver.specs.Steps.{Still, Known, Stepped, Others, Ahead}
use Rattle.solver.proofs.Stepping.{still_both, still_known}
use Rattle.solver.proofs.Sets.{no_track, track_is}
use Rattle.flags.specs.Marks.{Marks}
use Rattle.flags.specs.Words.{word_cells, Windows}
use Rattle.stretches.specs.Stretches.{Solved}
use Rattle.stretches.specs.Steps.{RunEnd, flags_at, OneTrack, PlanAt, Suits, Ready, Advanced, OnesTo, AllTo, Passed, RunSolved, SetRun, AllRun}
use Rattle.stretches.proofs.Planning.{plan_single, zero_flags, suits_at, word_at, marks_at}

-- What is right stays right.
still_ready : {sh : Shape} {flag : CellFlags} {y x x' : Cells} {n m : ℕ} → n ≤ track_length sh → m ≤ track_length sh → Still sh y x x' →
    Ready sh flag y x n m → Ready sh flag y x' n m
still_ready h k w r = record {
  good = r.good;
  clear = record { cell = λ s t q l b e. w.cell s t q l b (r.clear.cell s t q l b e) };
  ones = λ s t q l b c. w.cell s t q l (omega arith) (r.ones s t q l b c);
  before = λ s t q l b. w.cell s t q l (omega arith) (r.before s t q l b);
}

-- Nothing is done yet.
pub advanced_none : {z : Sizes} {flag : CellFlags} {n m : ℕ} {out syn : List ℕ} → Kept z out syn → Advanced z flag n m n m out out syn
advanced_none k = record { kept = k; only = record { cell = λ s t q l b e. refl }; ready = λ y r. r }

-- One after the other.
pub advanced_join : {z : Sizes} {flag : CellFlags} {n m n' m' n'' m'' : ℕ} {o₀ o₁ o₂ k₁ k₂ : List ℕ} → Advanced z flag n m n' m' o₀ o₁ k₁ →
    Advanced z flag n' m' n'' m'' o₁ o₂ k₂ → Advanced z flag n m n'' m'' o₀ o₂ k₂
advanced_join v w = record {
  kept = w.kept;
  only = record { cell = λ s t q l b e. v.only.cell s t q l b e ∙ w.only.cell s t q l b e };
  ready = λ y r. w.ready y (v.ready y r);
}

-- Positions without a flagged cell.
ones_clear : {z : Sizes} {flag : CellFlags} {from to : ℕ} {out syn : List ℕ} → Kept z out syn → to ≤ track_length (shape z) →
    ((s : TrackSet) (t q : ℕ) → from ≤ q → q < to → flag s t q ≡ false) → OnesTo z flag from to out out syn
ones_clear {from = from} k h none = record {
  kept = k;
  only = record { cell = λ s t q l b e. refl };
  ready = λ y r. record {
    good = r.good;
    clear = r.clear;
    ones = λ s t q l b c. by_cases (dec_lt q from) (λ i. r.ones s t q l i c) (λ i. r.clear.cell s t q l (omega arith) (none s t q (omega arith) b));
    before = r.before;
  };
}

-- ## One flagged cell

module _ {z : Sizes} {flag : CellFlags} {s : TrackSet} {track : Option ℕ} {from to : ℕ} {out after syn : List ℕ} (h : to ≤ track_length (shape z))
    (one : (q : ℕ) → from ≤ q → q < to → OneTrack (shape z) (flags_at flag q) s track) (w : Ahead z s track from to out after syn) where
  -- Only flagged cells are changed.
  one_only : AgreeOff (shape z) flag (cells (shape z) out) (cells (shape z) after)
  one_only = record {
    cell = λ c u q l b e. sym (w.only c u q l b (λ i j a k. true≢false (sym ((one q a k).flagged u j) ∙ (rw i at e))));
  }

  module _ (y : Cells) (good : Good (shape z) y) (clear : AgreeOff (shape z) flag (cells (shape z) out) y) where
    -- Beside the one flagged cell all cells of the set are right.
    one_others : {t : ℕ} → track ≡ Some t → Others z s track from to y out
    one_others {t} e u q i a b d = clear.cell s u q i (omega arith) ((one q a b).others ((one q a b).one t e) u i d)

    -- So what is right stays right.
    one_still : Still (shape z) y (cells (shape z) out) (cells (shape z) after)
    one_still = go track refl
      where
        go : (v : Option ℕ) → track ≡ v → Still (shape z) y (cells (shape z) out) (cells (shape z) after)
        go None e = record { cell = λ c u q l b i. w.only c u q l b (λ _ j _ _. no_track e j) ∙ i }
        go (Some t) e = w.still y good (one_others e)

    -- And the set is right where it has one flagged cell at the most.
    one_set : (u q : ℕ) → u < tracks (shape z) s → from ≤ q → q < to → flag_count (shape z) (flags_at flag q) s ≤ 1 →
        cells (shape z) after s u q ≡ y s u q
    one_set u q l a b c = by_cases (track_is track u)
        (λ e. w.right y good (one_others e) u e l q a b)
        (λ d. one_still.cell s u q l (omega arith) (clear.cell s u q l (omega arith) ((one q a b).others c u l d)))

-- Both sets.
ones_ahead : {z : Sizes} {flag : CellFlags} {a b : Option ℕ} {from to : ℕ} {o₀ o₁ o₂ k₁ k₂ : List ℕ} → to ≤ track_length (shape z) →
    ((q : ℕ) → from ≤ q → q < to → OneTrack (shape z) (flags_at flag q) A a) → ((q : ℕ) → from ≤ q → q < to → OneTrack (shape z) (flags_at flag q) B b) →
    Ahead z A a from to o₀ o₁ k₁ → Ahead z B b from to o₁ o₂ k₂ → OnesTo z flag from to o₀ o₂ k₂
ones_ahead {z} {flag} {a} {b} {from} {to} {o₀} {o₁} {o₂} h one two v w = record {
  kept = w.kept;
  only = record { cell = λ s t q l i e. (one_only {flag = flag} h one v).cell s t q l i e ∙ (one_only {flag = flag} h two w).cell s t q l i e };
  ready = next;
}
  where
    next : (y : Cells) → Ready (shape z) flag y (cells (shape z) o₀) from 0 → Ready (shape z) flag y (cells (shape z) o₂) to 0
    next y r₀ =
        let v' = one_still h one v y r₀.good r₀.clear in
        let r₁ = still_ready (omega (arith, v.order)) (omega arith) v' r₀ in
        let w' = one_still h two w y r₁.good r₁.clear in
        let r₂ = still_ready (omega (arith, v.order)) (omega arith) w' r₁ in
        let now : (s : TrackSet) (t q : ℕ) → t < tracks (shape z) s → from ≤ q → q < to → flag_count (shape z) (flags_at flag q) s ≤ 1 → cells (shape z) o₂ s t q ≡ y s t q =
        in_each (λ s. (t q : ℕ) → t < tracks (shape z) s → from ≤ q → q < to → flag_count (shape z) (flags_at flag q) s ≤ 1 → cells (shape z) o₂ s t q ≡ y s t q)
        (λ t q l i k c. w'.cell A t q l (omega arith) (one_set h one v y r₀.good r₀.clear t q l i k c))
        (one_set h two w y r₁.good r₁.clear) in
        record {
          good = r₂.good;
          clear = r₂.clear;
          ones = λ s t q l i c. by_cases (dec_lt q from) (λ k. r₂.ones s t q l k c) (λ k. now s t q l (omega arith) i c);
          before = r₂.before;
        }

-- ## All flagged cells

-- What a step goes by.
known : {sh : Shape} {flag : CellFlags} {s : TrackSet} {p : Plan} {y x : Cells} {m : ℕ} → m < track_length sh → (u : Suits sh flag s m p) →
    Ready sh flag y x (track_length sh) m → Known sh u.window s p y x m
known {sh} {flag} {s} {p} {y} {x} {m} b u r = record {
  before = r.before;
  rest = λ t l n. by_cases (dec_lt 1 (flag_count sh (flags_at flag m) s))
      (λ c. r.clear.cell s t m l b (u.rest c t l n))
      (λ c. r.ones s t m l b (omega arith));
  clear = λ d c t q l e h k. r.clear.cell c t q l (omega arith) (u.clear d c t q l e h k);
  across = λ d j h _ t q l i k. r.ones (other s) t q l (omega arith) (u.across d j h q i k);
}

-- Only flagged cells are changed.
step_only : {z : Sizes} {flag : CellFlags} {s : TrackSet} {p : Plan} {m : ℕ} {out after syn : List ℕ} → Suits (shape z) flag s m p → Stepped z s p m out after syn →
    AgreeOff (shape z) flag (cells (shape z) out) (cells (shape z) after)
step_only u w = record {
  cell = λ c t q l b e. sym (w.only c t q l b (λ i j k. true≢false (sym (u.flagged t (rw i at l) j) ∙ (rw (i, k) at e))));
}

-- Both sets at one position more.
all_more : {z : Sizes} {flag : CellFlags} {a b : Plan} {from m : ℕ} {o₀ o₁ o₂ o₃ k₁ k₂ k₃ : List ℕ} → m < track_length (shape z) →
    ((s : TrackSet) → Suits (shape z) flag s m (plan_of a b s)) → AllTo z flag from m o₀ o₁ k₁ → Stepped z A a m o₁ o₂ k₂ → Stepped z B b m o₂ o₃ k₃ →
    AllTo z flag from (m + 1) o₀ o₃ k₃
all_more {z} {flag} {a} {b} {from} {m} {o₀} {o₁} {o₂} {o₃} h suits done v w = record {
  kept = w.kept;
  only = record { cell = λ s t q l i e. done.only.cell s t q l i e ∙ (step_only (suits A) v).cell s t q l i e ∙ (step_only (suits B) w).cell s t q l i e };
  ready = λ y r. next y (done.ready y r);
}
  where
    next : (y : Cells) → Ready (shape z) flag y (cells (shape z) o₁) (track_length (shape z)) m →
        Ready (shape z) flag y (cells (shape z) o₃) (track_length (shape z)) (m + 1)
    next y r =
        let v' = v.made (suits A).window y (suits A).fits r.good (known h (suits A) r) in
        let w' = w.made (suits B).window y (suits B).fits r.good (still_known h v'.still (known h (suits B) r)) in
        let r₃ = still_ready (omega arith) (omega arith) (still_both v'.still w'.still) r in
        let now : (s : TrackSet) (t : ℕ) → t < tracks (shape z) s → cells (shape z) o₃ s t m ≡ y s t m =
        in_each (λ s. (t : ℕ) → t < tracks (shape z) s → cells (shape z) o₃ s t m ≡ y s t m) (λ t l. w'.still.cell A t m l h (v'.cell t l)) w'.cell in
        record {
          good = r₃.good;
          clear = r₃.clear;
          ones = r₃.ones;
          before = λ s t q l i. by_cases (dec_lt q m) (λ k. r₃.before s t q l k) (λ k. let e : q ≡ m = omega arith in rw e (now s t l));
        }

pub all_run_none : {z : Sizes} {a b : Plan} {from : ℕ} {out syn : List ℕ} → Kept z out syn → AllRun z a b from from out out syn
all_run_none k = record { kept = k; advanced = λ flag h c. advanced_none k }

pub all_run_more : {z : Sizes} {a b : Plan} {from m : ℕ} {o₀ o₁ o₂ o₃ k₁ k₂ k₃ : List ℕ} → from ≤ m → m < track_length (shape z) → AllRun z a b from m o₀ o₁ k₁ →
    Stepped z A a m o₁ o₂ k₂ → Stepped z B b m o₂ o₃ k₃ → AllRun z a b from (m + 1) o₀ o₃ k₃
all_run_more {m = m} i h r v w = record {
  kept = w.kept;
  advanced = λ flag suits ones. all_more h (λ s. suits s m i (omega arith))
      (r.advanced flag (λ s q a b. suits s q a (omega arith)) (λ s e q a b. ones s e q a (omega arith))) v w;
}

-- ## One set

-- What holds of a set and of the other one holds of both.
by_set : (P : TrackSet → Type 0) (c : TrackSet) → P c → P (other c) → (d : TrackSet) → P d
by_set P A p q = in_each P p q
by_set P B p q = in_each P q p

-- It at one position more, where the other has one flagged cell at the most.
set_more : {z : Sizes} {flag : CellFlags} {s : TrackSet} {p : Plan} {from m : ℕ} {o₀ o₁ o₂ k₁ k₂ : List ℕ} → m < track_length (shape z) →
    Suits (shape z) flag s m p → flag_count (shape z) (flags_at flag m) (other s) ≤ 1 → AllTo z flag from m o₀ o₁ k₁ → Stepped z s p m o₁ o₂ k₂ →
    AllTo z flag from (m + 1) o₀ o₂ k₂
set_more {z} {flag} {s} {p} {from} {m} {o₀} {o₁} {o₂} h suits one done v = record {
  kept = v.kept;
  only = record { cell = λ c t q l i e. done.only.cell c t q l i e ∙ (step_only suits v).cell c t q l i e };
  ready = λ y r. next y (done.ready y r);
}
  where
    next : (y : Cells) → Ready (shape z) flag y (cells (shape z) o₁) (track_length (shape z)) m →
        Ready (shape z) flag y (cells (shape z) o₂) (track_length (shape z)) (m + 1)
    next y r =
        let v' = v.made suits.window y suits.fits r.good (known h suits r) in
        let r₂ = still_ready (omega arith) (omega arith) v'.still r in
        let now : (c : TrackSet) (t : ℕ) → t < tracks (shape z) c → cells (shape z) o₂ c t m ≡ y c t m =
        by_set (λ c. (t : ℕ) → t < tracks (shape z) c → cells (shape z) o₂ c t m ≡ y c t m) s v'.cell (λ t l. r₂.ones (other s) t m l h one) in
        record {
          good = r₂.good;
          clear = r₂.clear;
          ones = r₂.ones;
          before = λ c t q l i. by_cases (dec_lt q m) (λ k. r₂.before c t q l k) (λ k. let e : q ≡ m = omega arith in rw e (now c t l));
        }

pub set_run_none : {z : Sizes} {s : TrackSet} {p : Plan} {from : ℕ} {out syn : List ℕ} → Kept z out syn → SetRun z s p from from out out syn
set_run_none k = record { kept = k; advanced = λ flag h c. advanced_none k }

pub set_run_more : {z : Sizes} {s : TrackSet} {p : Plan} {from m : ℕ} {o₀ o₁ o₂ k₁ k₂ : List ℕ} → from ≤ m → m < track_length (shape z) → SetRun z s p from m o₀ o₁ k₁ →
    Stepped z s p m o₁ o₂ k₂ → SetRun z s p from (m + 1) o₀ o₂ k₂
set_run_more {m = m} i h r v = record {
  kept = v.kept;
  advanced = λ flag suits one. set_more h (suits m i (omega arith)) (one m i (omega arith))
      (r.advanced flag (λ q a b. suits q a (omega arith)) (λ q a b. one q a (omega arith))) v;
}

-- Beside a plan of one track it is all.
pub all_of_a : {z : Sizes} {a b : Plan} {from to : ℕ} {out after syn : List ℕ} → Single b → SetRun z A a from to out after syn → AllRun z a b from to out after syn
all_of_a e r = record { kept = r.kept; advanced = λ flag suits ones. r.advanced flag (suits A) (ones B e) }

pub all_of_b : {z : Sizes} {a b : Plan} {from to : ℕ} {out after syn : List ℕ} → Single a → SetRun z B b from to out after syn → AllRun z a b from to out after syn
all_of_b e r = record { kept = r.kept; advanced = λ flag suits ones. r.advanced flag (suits B) (ones A e) }

-- ## Runs of words

-- The first pass, over a run without a flagged cell.
pub first_none : {z : Sizes} {word wide from to : ℕ} {out syn : List ℕ} → Kept z out syn → to ≤ track_length (shape z) → word ≡ 0 →
    RunSolved (λ q. q) (λ q. 0) z word wide from to out out syn
first_none {z} k h e = record {
  kept = k;
  advanced = λ words near w alike. ones_clear k h (λ s t q a b. zero_flags (shape z) (get_or words q 0) (alike.word_at q a b ∙ e) s t);
}

-- With the tracks of the word.
pub first_run : {z : Sizes} {word wide : ℕ} {a b : Option ℕ} {from to : ℕ} {o₀ o₁ o₂ k₁ k₂ : List ℕ} → to ≤ track_length (shape z) →
    OneTrack (shape z) (word_flags (shape z) word) A a → OneTrack (shape z) (word_flags (shape z) word) B b →
    Ahead z A a from to o₀ o₁ k₁ → Ahead z B b from to o₁ o₂ k₂ → RunSolved (λ q. q) (λ q. 0) z word wide from to o₀ o₂ k₂
first_run {z} {word} {a = a} {b = b} h u v p r = record {
  kept = r.kept;
  advanced = λ words near w alike. ones_ahead h
      (λ q i l. subst (λ (k : ℕ). OneTrack (shape z) (word_flags (shape z) k) A a) (sym (alike.word_at q i l)) u)
      (λ q i l. subst (λ (k : ℕ). OneTrack (shape z) (word_flags (shape z) k) B b) (sym (alike.word_at q i l)) v) p r;
}

-- The second pass, over a run with one flagged cell a set at the most.
pub second_none : {z : Sizes} {word wide from to : ℕ} {out syn : List ℕ} → Kept z out syn → to ≤ track_length (shape z) →
    ((s : TrackSet) → flag_count (shape z) (word_flags (shape z) word) s ≤ 1) →
    RunSolved (λ q. track_length (shape z)) (λ q. q) z word wide from to out out syn
second_none {z} {word} {wide} {from} k h few = record {
  kept = k;
  advanced = λ words near w alike. record {
    kept = k;
    only = record { cell = λ s t q l i e. refl };
    ready = λ y r. record {
      good = r.good;
      clear = r.clear;
      ones = r.ones;
      before = λ s t q l i. by_cases (dec_lt q from) (λ j. r.before s t q l j)
          (λ j. r.ones s t q l (omega arith) (subst (λ (v : ℕ). flag_count (shape z) (word_flags (shape z) v) s ≤ 1) (sym (alike.word_at q (omega arith) i)) (few s)));
    };
  };
}

-- With the plans of the words.
pub second_run : {z : Sizes} {word wide : ℕ} {a b : Plan} {from to : ℕ} {nears : List Bool} {out after syn : List ℕ} → z.closed ≡ true → to ≤ track_length (shape z) →
    Marks wide nears → PlanAt (shape z) (word_flags (shape z) word) (marked (shape z) nears) A a →
    PlanAt (shape z) (word_flags (shape z) word) (marked (shape z) nears) B b → AllRun z a b from to out after syn →
    RunSolved (λ q. track_length (shape z)) (λ q. q) z word wide from to out after syn
second_run {z} {word} {wide} {a} {b} {nears = nears} closed h n u v r = record {
  kept = r.kept;
  advanced = λ words near w alike. r.advanced (word_cells (shape z) words)
      (λ s q i l. suits_at z words near closed w q (omega arith) (word_flags (shape z) word) (marked (shape z) nears)
      (word_at (shape z) word words q (alike.word_at q i l)) (marks_at z wide nears n near q (alike.near_at q i l)) s (plan_of a b s) (planned s))
      (λ s e q i l. subst (λ (v : ℕ). flag_count (shape z) (word_flags (shape z) v) s ≤ 1) (sym (alike.word_at q i l)) (plan_single (planned s) e));
}
  where
    planned : (s : TrackSet) → PlanAt (shape z) (word_flags (shape z) word) (marked (shape z) nears) s (plan_of a b s)
    planned = in_each (λ s. PlanAt (shape z) (word_flags (shape z) word) (marked (shape z) nears) s (plan_of a b s)) u v

-- One run more.
pub pass_more : {z : Sizes} {ones all : ℕ → ℕ} {words near : List ℕ} {from m to end : ℕ} {o₀ o₁ o₂ k₁ k₂ : List ℕ} → Windows (shape z) words near →
    RunEnd words near m end to → Passed ones all z (word_cells (shape z) words) from m o₀ o₁ k₁ →
    RunSolved ones all z (get_or words m 0) (get_or near m 0) m to o₁ o₂ k₂ → Passed ones all z (word_cells (shape z) words) from to o₀ o₂ k₂
pass_more {words = words} {near = near} w k v r = advanced_join v (r.advanced words near w k.alike)

-- ## The whole way

pub solved : {z : Sizes} {flag : CellFlags} {o₀ o₁ o₂ o₃ o₄ k₁ k₂ k₃ k₄ : List ℕ} {r : Bool} → OnesTo z flag 0 z.positions o₀ o₁ k₁ →
    OnesTo z flag z.positions (track_length (shape z)) o₁ o₂ k₂ → AllTo z flag 0 z.positions o₂ o₃ k₃ →
    AllTo z flag z.positions (track_length (shape z)) o₃ o₄ k₄ → Tested (shape z) (cells (shape z) o₄) r → Solved z flag o₀ o₄ k₄ r
solved {z} {flag} {o₀} {o₄ = o₄} {k₄ = k₄} p u v w t = record {
  kept = all.kept;
  only = all.only;
  good = t.yes_good;
  none = λ e y good agree.
      let r = all.ready y (record { good = good; clear = agree; ones = λ s c m l h. absurd (omega arith); before = λ s c m l h. absurd (omega arith) }) in
      t.not_good e (good_same (shape z) y _ (record { cell = λ s c m l h. sym (r.before s c m l h) }) good);
}
  where
    all : Advanced z flag 0 0 (track_length (shape z)) (track_length (shape z)) o₀ o₄ k₄
    all = advanced_join p (advanced_join u (advanced_join v w))
