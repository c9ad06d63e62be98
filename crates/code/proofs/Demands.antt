-- Point 3, for any shape and any records that count as near: of a call whose last check gives 6 and which met none of the checks before.
use mathlib.Core.Path.{◌≡◌, sym, ap, ◌∙◌}
use mathlib.Core.Logic.{◌⊎◌, inl, inr, ◌≢◌, ◌↔◌}
use mathlib.Core.Bool.{true}
use mathlib.Core.List.{List, [], ◌∷◌, ◌++◌}
use Prim.Native.Nat.{ℕ, ◌<◌}
use native.Mathlib.Omega.{arith}
use Rattle.code.specs.Record.{TrackSet, Shape, tracks, Cells, Good, Same}
use Rattle.code.specs.Image.{cells}
use Rattle.code.specs.Flags.{word_flags}
use Rattle.code.specs.Reach.{Extra, AtMostOne}
use Rattle.code.specs.Numbers.{Check, Decides}
use Rattle.code.specs.Calls.{Result, Refused, Answered, changed_cells, Mended}
use Rattle.code.specs.Supply.{Differ, Point3}
use Rattle.code.proofs.Masks.{mask_differ}
use Rattle.code.proofs.Numbers.{first_append, Avoids, unrefused, answer_of}
use Rattle.code.proofs.Places.{cell_lt}

not_6 : (k : ℕ) → (k ≡ 0) ⊎ (k ≡ 7) → k ≢ 6
not_6 k (inl z) e = omega arith
not_6 k (inr z) e = omega arith

-- ## Past the checks

module _ (sh : Shape) (near : Cells → Type 0) (named : List ℕ → TrackSet → Extra) (image before : List ℕ) (r : Result) (after : List ℕ) where
  -- 7 is said exactly where there is no record.
  says_7 : Mended sh near named image before r after → (r.answer ≡ 7) ↔ ((y : Cells) → Good sh y → near y → ⊥)
  says_7 (inl a) = (
    λ e. absurd (omega (arith, ap answer_of a.result)),
    λ nothing. absurd (nothing _ a.good a.reached),
  )
  says_7 (inr a) = (λ e. a.no_record, λ nothing. ap answer_of a.result)

  -- 0 is said where there is one, and it is the output.
  says_0 : AtMostOne sh near → Mended sh near named image before r after →
      (y : Cells) → Good sh y → near y → (r.answer ≡ 0) × Same sh y (cells sh after)
  says_0 one (inl a) y g n = (ap answer_of a.result, one y _ g a.good n a.reached)
  says_0 one (inr a) y g n = absurd (a.no_record y g n)

  -- Of an answer 0.
  held : Mended sh near named image before r after → r.answer ≡ 0 → Good sh (cells sh after) × near (cells sh after)
  held (inl a) z = (a.good, a.reached)
  held (inr a) z = absurd (omega (arith, ap answer_of a.result))

  mask_of : Mended sh near named image before r after → r.answer ≡ 0 →
      (s : TrackSet) (t : ℕ) → t < tracks sh s → (word_flags sh r.mask s t ≡ true) ↔ Differ sh (cells sh image) (cells sh after) s t
  mask_of (inl a) z = rw a.result (mask_differ sh (cells sh image) (cells sh after))
  mask_of (inr a) z = absurd (omega (arith, ap answer_of a.result))

  number_of : Mended sh near named image before r after → r.answer ≡ 0 → r.changed ≡ changed_cells sh (cells sh image) (cells sh after)
  number_of (inl a) z = ap (λ (q : Result). q.changed) a.result
  number_of (inr a) z = absurd (omega (arith, ap answer_of a.result))

  -- The output is near, since a copy of the image is.
  stays_near : ((y : Cells) → Same sh (cells sh image) y → near y) → Mended sh near named image before r after → near (cells sh after)
  stays_near copy (inl a) = a.reached
  stays_near copy (inr a) = copy _ (record { cell = λ s t m l b. sym (a.copy _ (cell_lt sh s t m l b)) })

-- ## Point 3

module _ (sh : Shape) (near : Cells → Type 0) (named : List ℕ → TrackSet → Extra) (cs : List {1} Check) (six : Check) (is_6 : six.number ≡ 6)
    (image before : List ℕ) (r : Result) (after : List ℕ) (met_none : Avoids r.answer cs)
    (call : Answered (cs ++ (six ∷ [])) (Mended sh near named image before) before r after) where
  abbrev Done : Type 0
  Done = Mended sh near named image before r after

  -- 6 is said where the last check applies, and only there.
  last : Decides six.applies (Refused r before after six) Done
  last = (unrefused cs r before after _ met_none (first_append cs (six ∷ []) (Refused r before after) Done call)).done

  done : r.answer ≢ 6 → Done
  done = go last
    where
      go : Decides six.applies (Refused r before after six) Done → r.answer ≢ 6 → Done
      go (inl a) d = absurd (d (ap answer_of a.1.result ∙ is_6))
      go (inr a) d = a.1

  pub says_6 : (r.answer ≡ 6) ↔ six.applies
  says_6 = go last
    where
      zero_or_seven : Done → (r.answer ≡ 0) ⊎ (r.answer ≡ 7)
      zero_or_seven (inl a) = inl (ap answer_of a.result)
      zero_or_seven (inr a) = inr (ap answer_of a.result)

      go : Decides six.applies (Refused r before after six) Done → (r.answer ≡ 6) ↔ six.applies
      go (inl a) = (λ e. a.0, λ e. ap answer_of a.1.result ∙ is_6)
      go (inr a) = (λ e. absurd (not_6 _ (zero_or_seven a.1) e), λ e. absurd (a.0 e))

  -- Where the limit keeps the last check from applying and leaves at most one good record near, and a copy of the image is near.
  pub demanded : (limit long doubt : Type 0) → (limit → ¬ six.applies) → (limit → AtMostOne sh near) → (long → six.applies ↔ doubt) →
      ((y : Cells) → Same sh (cells sh image) y → near y) → Point3 sh near limit long doubt image r after
  demanded limit long doubt few one many copy = record {
    found = λ l. says_0 sh near named image before r after (one l) (done (within l));
    held = λ z. held sh near named image before r after (done (λ e. omega arith)) z;
    no_other = one;
    said_7 = λ l. says_7 sh near named image before r after (done (within l));
    only_there = λ e. stays_near sh near named image before r after copy (done (not_6 _ e));
    mask = λ z. mask_of sh near named image before r after (done (λ e. omega arith)) z;
    number = λ z. number_of sh near named image before r after (done (λ e. omega arith)) z;
    said_6 = λ l. (λ e. (many l).0 (says_6.0 e), λ d. says_6.1 ((many l).1 d));
  }
    where
      within : limit → r.answer ≢ 6
      within l e = few l (says_6.0 e)
