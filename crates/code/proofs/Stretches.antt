-- Repair with flags by stretch: two right answers are equal, point 3 by cells, the values returned, and repair as the case of whole tracks.
use mathlib.Core.Path.{◌≡◌, refl, sym, ◌∙◌}
use mathlib.Core.Logic.{inl, inr, ◌↔◌}
use mathlib.Core.List.{List, [], ◌∷◌, ◌++◌}
use Prim.Native.Nat.{ℕ, ◌^◌, ◌<◌, ◌≤◌}
use native.Mathlib.Omega.{arith}
use lib.ListN.{length}
use lib.Pow.{pow_pos}
use Rattle.code.specs.Record.{TrackSet, A, B, Shape, base, Cells}
use Rattle.code.specs.Image.{all_tracks, image_size, cells}
use Rattle.code.specs.Flags.{TrackFlags, CellFlags, whole}
use Rattle.code.specs.Lost.{read_values}
use Rattle.code.specs.Reach.{flags_code, Extra, none, AtMostOne, Ambiguous}
use Rattle.code.specs.Spans.{Table, span_flags, Broken, too_long, WindowsCoded, WindowTooMany, OnTracks}
use Rattle.code.specs.Numbers.{Check, First, flag_check, reach_check, table_check, window_check, image_checks}
use Rattle.code.specs.Calls.{Result, plain, Refused, mended, RepairNear, Repairs, table_checks}
use Rattle.code.specs.Promises.{call_flags, SpansRepaired}
use Rattle.code.specs.Supply.{SpanPoint3, extra_in, SpanValues, AsRepair}
use Rattle.code.proofs.Demands.{demanded}
use Rattle.code.proofs.Determined.{Equal, mend_determined}
use Rattle.code.proofs.Masks.{mask_small}
use Rattle.code.proofs.Numbers.{Avoids, Each, answered, passed_last, first_append, first_join, first_map}
use Rattle.code.proofs.Outputs.{mended_as}
use Rattle.code.proofs.TooMany.{too_many}
use Rattle.code.proofs.Windows.{one_by_windows, too_many_on_tracks}

-- Where no window has code 0, all have a code.
coded_all : (sh : Shape) (flag : CellFlags) → ¬ WindowTooMany sh flag → WindowsCoded sh flag
coded_all sh flag n m b e = n (record { position = m; inside = b; code = e })

module _ (n : ℕ) (table : Table) (image before : List ℕ) where
  abbrev sh : Shape
  sh = base n

  abbrev flag : CellFlags
  flag = span_flags (base n) table image

  abbrev near : Cells → Type 0
  near = RepairNear (base n) flag image

  abbrev no_names : List ℕ → TrackSet → Extra
  no_names after s = none

  abbrev early : List {1} Check
  early = table_checks read_values (base n) n table image (length before)

  one : WindowsCoded sh flag → AtMostOne sh near
  one coded = one_by_windows sh flag refl (omega arith) coded (cells sh image)

  -- Two right answers are equal.
  pub spans_fixed : (r other : Result) (after bytes : List ℕ) → SpansRepaired n table image before r after → SpansRepaired n table image before other bytes → Equal other r bytes after
  spans_fixed r other after bytes c d = mend_determined sh (early ++ (window_check sh flag ∷ [])) before other r bytes after near no_names image
      (λ p. one (coded_all sh flag (passed_last early (window_check sh flag) p))) d c

  -- Point 3, by cells.
  pub span_point_3 : (r : Result) (after : List ℕ) → SpansRepaired n table image before r after → Avoids r.answer early →
      (f : TrackFlags) → SpanPoint3 n table image f r after
  span_point_3 r after c v f = demanded sh near no_names early (window_check sh flag) refl image before r after v c
      (WindowsCoded sh flag) ((4 ≤ n) × OnTracks sh flag f) (Ambiguous sh f)
      (λ w e. w e.position e.inside e.code)
      one
      (λ l. let few = too_many_on_tracks sh flag f l.1 (omega arith) in
      let many = too_many sh f refl (omega (arith, l.0)) in
      (λ e. many.0 (few.0 e), λ a. few.1 (many.1 a)))
      (λ y e. record { cell = λ s t m l b u. e.cell s t m l b })

  -- ## Values

  number_values : (k d : ℕ) → SpanValues sh (plain k d)
  number_values k d = record { otherwise = λ e. refl; unnamed = unnamed; mask_small = pow_pos (all_tracks sh) }
    where
      unnamed : (s : TrackSet) → extra_in (plain k d) s ≡ none
      unnamed A = refl
      unnamed B = refl

  each_values : (cs : List {1} Check) → Each (λ c. SpanValues sh (plain c.number c.detail)) cs
  each_values [] = tt
  each_values (c ∷ cs) = (number_values c.number c.detail, each_values cs)

  pub span_values : (r : Result) (after : List ℕ) → SpansRepaired n table image before r after → SpanValues sh r
  span_values r after = answered (λ q _. SpanValues sh q) (early ++ (window_check sh flag ∷ [])) (Repairs sh flag image before) before r after
      (each_values (early ++ (window_check sh flag ∷ []))) past
    where
      unnamed : (y : Cells) (s : TrackSet) → extra_in (mended sh (cells sh image) y (λ s. none)) s ≡ none
      unnamed y A = refl
      unnamed y B = refl

      past : Repairs sh flag image before r after → SpanValues sh r
      past (inl a) = rw a.result (record { otherwise = λ d. absurd (d refl); unnamed = unnamed (cells sh after); mask_small = mask_small sh _ _ })
      past (inr a) = rw a.result (number_values 7 0)

  -- ## Whole tracks

  -- The same records count as near.
  module _ (f : TrackFlags) (on : OnTracks sh flag f) (r : Result) (after : List ℕ) where
    to_tracks : (y : Cells) → near y → RepairNear sh (whole f) image y
    to_tracks y a = record { cell = λ s t m l b e. a.cell s t m l b (on s t m l b ∙ e) }

    to_cells : (y : Cells) → RepairNear sh (whole f) image y → near y
    to_cells y a = record { cell = λ s t m l b e. a.cell s t m l b (sym (on s t m l b) ∙ e) }

    by_tracks : Repairs sh flag image before r after → Repairs sh (whole f) image before r after
    by_tracks = mended_as sh image before r after near (RepairNear sh (whole f) image) no_names no_names to_tracks to_cells (λ _ s. refl)

    by_cells : Repairs sh (whole f) image before r after → Repairs sh flag image before r after
    by_cells = mended_as sh image before r after (RepairNear sh (whole f) image) near no_names no_names to_cells to_tracks (λ _ s. refl)

  module _ (word : ℕ) where
    -- The checks that both calls begin with, and the two that follow.
    abbrev shared : List {1} Check
    shared = image_checks read_values n (image_size (base n)) image (image_size (base n)) (length before)

    abbrev by_table : List {1} Check
    by_table = table_check (image_size (base n)) table ∷ window_check (base n) flag ∷ []

    abbrev by_word : List {1} Check
    by_word = flag_check (base n) word ∷ reach_check (base n) (call_flags n word image) ∷ []

    abbrev TableDone : Result → List ℕ → Type 0
    TableDone r after = First by_table (Refused r before after) (Repairs (base n) flag image before r after)

    abbrev WordDone : Result → List ℕ → Type 0
    WordDone r after = First by_word (Refused r before after) (Repairs (base n) (whole (call_flags n word image)) image before r after)

    module _ (sound : ¬ Broken (image_size (base n)) table) (small : word < 2 ^ all_tracks (base n)) (on : OnTracks (base n) flag (call_flags n word image)) where
      -- 6 for the same flags.
      few : WindowTooMany sh flag ↔ (flags_code sh (call_flags n word image) ≡ 0)
      few = too_many_on_tracks sh flag (call_flags n word image) on (omega arith)

      to_word : (r : Result) (after : List ℕ) → TableDone r after → WordDone r after
      to_word r after (inl a) = absurd (sound a.0)
      to_word r after (inr (a, inl b)) = inr (λ h. omega arith, inl (few.0 b.0, record { result = b.1.result; output = b.1.output }))
      to_word r after (inr (a, inr b)) = inr (λ h. omega arith, inr (λ e. b.0 (few.1 e), by_tracks (call_flags n word image) on r after b.1))

      to_table : (r : Result) (after : List ℕ) → WordDone r after → TableDone r after
      to_table r after (inl a) = absurd (omega (arith, a.0))
      to_table r after (inr (a, inl b)) = inr (sound, inl (few.1 b.0, record { result = b.1.result; output = b.1.output }))
      to_table r after (inr (a, inr b)) = inr (sound, inr (λ e. b.0 (few.0 e), by_cells (call_flags n word image) on r after b.1))

    pub as_repair : AsRepair n table word image before
    as_repair sound small on r after = (
      λ c. first_join shared by_word (Refused r before after) (Repairs (base n) (whole (call_flags n word image)) image before r after)
          (first_map shared (Refused r before after) (TableDone r after) (WordDone r after) (to_word sound small on r after)
          (first_append shared by_table (Refused r before after) (Repairs (base n) flag image before r after) c)),
      λ c. first_join shared by_table (Refused r before after) (Repairs (base n) flag image before r after)
          (first_map shared (Refused r before after) (WordDone r after) (TableDone r after) (to_table sound small on r after)
          (first_append shared by_word (Refused r before after) (Repairs (base n) (whole (call_flags n word image)) image before r after) c)),
    )

-- ## Tables that are too long

-- Of a table of more than 64 pairs nothing else is looked at.
pub spans_long : (n : ℕ) (one two : Table) (image before : List ℕ) → 64 < one.count → 64 < two.count → (r : Result) (after : List ℕ) →
    SpansRepaired n one image before r after → SpansRepaired n two image before r after
spans_long n one two image before h k r after c =
    let checks = shared n two image before 0 in
    first_join checks (by_table n two image before 0) (Refused r before after) (Repairs (base n) (flag n two image before) image before r after)
    (first_map checks (Refused r before after) (TableDone n one image before 0 r after) (TableDone n two image before 0 r after) go
    (first_append checks (by_table n one image before 0) (Refused r before after) (Repairs (base n) (flag n one image before) image before r after) c))
  where
    go : TableDone n one image before 0 r after → TableDone n two image before 0 r after
    go (inl a) = inl (too_long k, record { result = a.1.result; output = a.1.output })
    go (inr a) = absurd (a.0 (too_long h))
