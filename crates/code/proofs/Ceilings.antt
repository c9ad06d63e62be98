-- Tracing with a ceiling (document 02, note 7): what 0, 1 and 2 come to, and that a higher one finds what a lower one finds.
use mathlib.Core.Path.{◌≡◌, sym, ap, subst}
use mathlib.Core.Logic.{inl, inr, ◌↔◌}
use mathlib.Core.List.{List, [], ◌∷◌}
use Prim.Native.Nat.{ℕ, ◌<◌, ◌≤◌}
use native.Mathlib.Omega.{arith}
use lib.ListN.{length}
use Rattle.code.specs.Record.{Shape, base, Cells}
use Rattle.code.specs.Image.{cells}
use Rattle.code.specs.Flags.{TrackFlags, whole}
use Rattle.code.specs.Lost.{read_values}
use Rattle.code.specs.Reach.{flags_code, table_reach, none, ceiling_reach, cautious, within, traced_reach}
use Rattle.code.specs.Numbers.{Check, First, ceiling_check, reach_check}
use Rattle.code.specs.Calls.{Result, Refused, Answered, early_checks, repair_checks, RepairNear, Repairs, TraceNear, trace_named, Traces}
use Rattle.code.specs.Promises.{call_flags, TracedWithin}
use Rattle.code.specs.Supply.{repair, Ceilings}
use Rattle.code.specs.declared.Reach.{Reach}
use Rattle.code.proofs.Mending.{near_names}
use Rattle.code.proofs.Numbers.{answer_of, first_append, first_rest, first_map, first_without, first_given, unrefused}
use Rattle.code.proofs.Outputs.{mended_as}
use Rattle.code.proofs.Reaches.{Below, reach_more, both_more, both_reach, ceiling_more, at_none, at_one, at_two}

-- ## Reaches of which one allows more

module _ (sh : Shape) (v w : Reach) (less : Below v w) (f : TrackFlags) (image before : List ℕ) (r : Result) (after : List ℕ) where
  -- What is found where less is allowed is found where more is.
  found_more : r.answer ≡ 0 → Traces sh v f image before r after → Traces sh w f image before r after
  found_more z (inl a) = inl (record { good = a.good; reached = reach_more v w less sh f _ _ a.reached; stays = a.stays; result = a.result })
  found_more z (inr a) = absurd (omega (arith, ap answer_of a.result))

  -- Where more is allowed and none is found, none is found where less is.
  none_less : r.answer ≡ 7 → Traces sh w f image before r after → Traces sh v f image before r after
  none_less z (inl a) = absurd (omega (arith, ap answer_of a.result))
  none_less z (inr a) = inr (record { no_record = λ y g n. a.no_record y g (reach_more v w less sh f _ y n); copy = a.copy; stays = a.stays; result = a.result })

-- ## The calls

module _ (n word : ℕ) (image before : List ℕ) where
  abbrev sh : Shape
  sh = base n

  abbrev f : TrackFlags
  f = call_flags n word image

  abbrev early : List {1} Check
  early = early_checks read_values sh n word image (length before)

  -- Past the checks that repair has too.
  abbrev Checked : (Result → List ℕ → Type 0) → Result → List ℕ → Type 0
  Checked done r after = Answered (repair_checks read_values sh n word f image before) done before r after

  abbrev capped : ℕ → Reach
  capped ceiling = traced_reach (within ceiling) sh f

  agreeing : (y : Cells) → TraceNear sh (capped 0) f image y ↔ RepairNear sh (whole f) image y
  agreeing y = at_none (table_reach sh f) sh f (cells sh image) y

  module _ (r : Result) (after : List ℕ) where
    -- A ceiling up to 2 passes.
    taken : (ceiling : ℕ) → ceiling ≤ 2 → TracedWithin n word ceiling image before r after ↔ Checked (Traces sh (capped ceiling) f image before) r after
    taken ceiling l = first_without early (ceiling_check ceiling) (reach_check sh f ∷ []) (Refused r before after) _ (λ h. omega arith)

    -- Past the same checks, something else is done.
    other : (done done' : Result → List ℕ → Type 0) → (done r after → done' r after) → Checked done r after → Checked done' r after
    other done done' = first_map (repair_checks read_values sh n word f image before) (Refused r before after) (done r after) (done' r after)

    -- The reach by another name.
    renamed : (ceiling : ℕ) → ceiling ≤ 2 → (w : Reach) → capped ceiling ≡ w → TracedWithin n word ceiling image before r after ↔ Checked (Traces sh w f image before) r after
    renamed ceiling l w e = (
      λ c. subst (λ (v : Reach). Checked (Traces sh v f image before) r after) e ((taken ceiling l).0 c),
      λ c. (taken ceiling l).1 (subst (λ (v : Reach). Checked (Traces sh v f image before) r after) (sym e) c),
    )

    -- Without extras tracing is repair, and names none.
    as_repair : Traces sh (capped 0) f image before r after → Repairs sh (whole f) image before r after
    as_repair = mended_as sh image before r after (TraceNear sh (capped 0) f image) (RepairNear sh (whole f) image) (trace_named sh f image) (λ _ _. none)
        (λ y. (agreeing y).0) (λ y. (agreeing y).1) (λ m s. sym (near_names sh f image repair after ((agreeing _).0 m) s))

    from_repair : Repairs sh (whole f) image before r after → Traces sh (capped 0) f image before r after
    from_repair = mended_as sh image before r after (RepairNear sh (whole f) image) (TraceNear sh (capped 0) f image) (λ _ _. none) (trace_named sh f image)
        (λ y. (agreeing y).1) (λ y. (agreeing y).0) (near_names sh f image repair after)

  pub ceilings : Ceilings n word image before
  ceilings = record {
    both_allow = λ ceiling y. both_reach (table_reach sh f) (ceiling_reach ceiling) sh f (cells sh image) y;
    at_0 = λ r after. (
      λ c. other r after (Traces sh (capped 0) f image before) (Repairs sh (whole f) image before) (as_repair r after) ((taken r after 0 (omega arith)).0 c),
      λ c. (taken r after 0 (omega arith)).1 (other r after (Repairs sh (whole f) image before) (Traces sh (capped 0) f image before) (from_repair r after) c),
    );
    at_1 = λ r after. renamed r after 1 (omega arith) (traced_reach cautious sh f) (at_one (flags_code sh f));
    at_2 = λ r after. renamed r after 2 (omega arith) (table_reach sh f) (at_two (flags_code sh f));
    higher = λ low high l top r after c z. (taken r after high top).1
        (other r after (Traces sh (capped low) f image before) (Traces sh (capped high) f image before)
        (found_more sh (capped low) (capped high) (both_more (table_reach sh f) _ _ (ceiling_more low high l)) f image before r after z)
        ((taken r after low (omega arith)).0 c));
    lower = λ low high l top r after c z. (taken r after low (omega arith)).1
        (other r after (Traces sh (capped high) f image before) (Traces sh (capped low) f image before)
        (none_less sh (capped low) (capped high) (both_more (table_reach sh f) _ _ (ceiling_more low high l)) f image before r after z)
        ((taken r after high top).0 c));
    said_12 = λ ceiling r after c.
        let last = first_append early (ceiling_check ceiling ∷ reach_check sh f ∷ []) (Refused r before after) (Traces sh (capped ceiling) f image before r after) c in
        let given : First (ceiling_check ceiling ∷ reach_check sh f ∷ []) (Refused r before after) (Traces sh (capped ceiling) f image before r after) → (r.answer ≡ 12) ↔ (2 < ceiling)
        = first_given (ceiling_check ceiling) (reach_check sh f ∷ []) (Traces sh (capped ceiling) f image before) before r after (λ e. omega arith, tt) (not_12 ceiling r after) in (
          λ e. let t = unrefused early r before after _ (omega arith) last in (t.passed, (given t.done).0 e),
          λ p. (given (first_rest early (Refused r before after) _ p.0 last)).1 p.1,
        );
  }
    where
      not_12 : (ceiling : ℕ) (r : Result) (after : List ℕ) → Traces sh (capped ceiling) f image before r after → r.answer ≡ 12 → ⊥
      not_12 ceiling r after (inl a) e = omega (arith, ap answer_of a.result)
      not_12 ceiling r after (inr a) e = omega (arith, ap answer_of a.result)
