-- The table of whole tracks: it is in order, its cells are those of the tracks, and with it the call by stretches is repair.
use mathlib.Core.Path.{◌≡◌, refl, sym, ap, ap₂, ◌∙◌}
use mathlib.Core.Logic.{by_cases}
use mathlib.Core.Bool.{Bool, true, false, ◌&&◌, ◌||◌, not}
use mathlib.Core.List.{List, [], ◌∷◌}
use Prim.Native.Nat.{ℕ, zero, suc, ◌+◌, ◌*◌, ◌/◌, ◌%◌, ◌^◌, ◌<◌, ◌≤◌}
use native.Mathlib.Decide.{ℕ_discrete}
use native.Mathlib.Nat.{suc-mul, add-mul, mul-le-mul_right}
use native.Mathlib.Omega.{arith}
use borrow.Author.Tests.{lt-ltb, le-ltb}
use lib.Arith.{digits_lt}
use lib.Dec.{eqb, ltb}
use lib.ListN.{length, get_or}
use Rattle.code.specs.Record.{TrackSet, Shape, base, tracks, track_length}
use Rattle.code.specs.Image.{track_number, all_tracks, image_size, cells}
use Rattle.code.specs.Flags.{any, word_flags}
use Rattle.code.specs.Lost.{lost_cells}
use Rattle.code.specs.Spans.{no_span, in_table, span_flags, Broken, too_long, empty, beyond, too_early, OnTracks, track_spans, word_table}
use Rattle.code.specs.Promises.{call_flags}
use Rattle.code.specs.Supply.{RepairIsACase}
use Rattle.code.specs.declared.Span.{Span}
use Rattle.code.proofs.Any.{any_none, any_first}
use Rattle.code.proofs.Lost.{none_lost}
use Rattle.code.proofs.Places.{number_lt}
use Rattle.code.proofs.Stretches.{as_repair}

-- ## One pair after the other

-- A cell is in a span.
abbrev covers : ℕ → Span → Bool
covers i s = not (ltb i s.offset) && ltb i (s.offset + s.length)

module _ (l : ℕ) (f : ℕ → Bool) where
  abbrev Spans : ℕ → ℕ → List Span
  Spans = track_spans l f

  -- Of a track that is flagged, and of one that is not.
  here : (n g : ℕ) → f g ≡ true → Spans (suc n) g ≡ record { offset = g * l; length = l } ∷ Spans n (suc g)
  unfolding track_spans
  here n g e = rw e refl

  by : (n g : ℕ) → f g ≡ false → Spans (suc n) g ≡ Spans n (suc g)
  unfolding track_spans
  by n g e = rw e refl

  none : (g : ℕ) → Spans 0 g ≡ []
  unfolding track_spans
  none g = refl

  -- There are no more pairs than tracks.
  count_le : (n g : ℕ) → length (Spans n g) ≤ n
  count_le zero g = rw (none g) (omega arith)
  count_le (suc n) g = go (f g) refl (count_le n (suc g))
    where
      go : (b : Bool) → f g ≡ b → length (Spans n (suc g)) ≤ n → length (Spans (suc n) g) ≤ suc n
      go true e h = rw (here n g e) (omega arith)
      go false e h = rw (by n g e) (omega arith)

  -- Each has a track's cells, is after what was, and ends with the last track at the latest.
  record Placed (n g : ℕ) (s : Span) : Type 0 where
    pub cells : s.length ≡ l
    pub from : g * l ≤ s.offset
    pub to : s.offset + l ≤ (n + g) * l

  placed : (n g k : ℕ) → k < length (Spans n g) → Placed n g (get_or (Spans n g) k no_span)
  placed zero g k h = absurd (omega (arith, ap length (none g)))
  placed (suc n) g k h = go (f g) refl k h (placed n (suc g))
    where
      further : (s : Span) → Placed n (suc g) s → Placed (suc n) g s
      further s p = record { cells = p.cells; from = omega (arith, p.from, suc-mul g l); to = omega (arith, p.to, ap (λ (v : ℕ). v * l) (moved n g)) }
        where
          moved : (n g : ℕ) → n + suc g ≡ suc n + g
          moved n g = omega arith

      go : (b : Bool) → f g ≡ b → (k : ℕ) → k < length (Spans (suc n) g) → ((k : ℕ) → k < length (Spans n (suc g)) → Placed n (suc g) (get_or (Spans n (suc g)) k no_span)) →
          Placed (suc n) g (get_or (Spans (suc n) g) k no_span)
      go true e zero h rest = rw (here n g e) (record {
        cells = refl;
        from = omega arith;
        to = omega (arith, suc-mul (n + g) l, add-mul n g l);
      })
      go true e (suc k) h rest = rw (here n g e) (further _ (rest k (omega (arith, ap length (here n g e)))))
      go false e k h rest = rw (by n g e) (further _ (rest k (omega (arith, ap length (by n g e)))))

  -- Each begins where the one before it ended, or later.
  ordered : (n g k : ℕ) → suc k < length (Spans n g) →
      (get_or (Spans n g) k no_span).offset + (get_or (Spans n g) k no_span).length ≤ (get_or (Spans n g) (suc k) no_span).offset
  ordered zero g k h = absurd (omega (arith, ap length (none g)))
  ordered (suc n) g k h = go (f g) refl k h (ordered n (suc g))
    where
      go : (b : Bool) → f g ≡ b → (k : ℕ) → suc k < length (Spans (suc n) g) →
          ((k : ℕ) → suc k < length (Spans n (suc g)) → (get_or (Spans n (suc g)) k no_span).offset + (get_or (Spans n (suc g)) k no_span).length ≤ (get_or (Spans n (suc g)) (suc k) no_span).offset) →
          (get_or (Spans (suc n) g) k no_span).offset + (get_or (Spans (suc n) g) k no_span).length ≤ (get_or (Spans (suc n) g) (suc k) no_span).offset
      go true e zero h rest = rw (here n g e) (omega (arith, (placed n (suc g) 0 (omega (arith, ap length (here n g e)))).from, suc-mul g l))
      go true e (suc k) h rest = rw (here n g e) (rest k (omega (arith, ap length (here n g e))))
      go false e k h rest = rw (by n g e) (rest k (omega (arith, ap length (by n g e))))

  -- ## The cells

  abbrev covered : ℕ → ℕ → ℕ → Bool
  covered n g i = any (length (Spans n g)) (λ k. covers i (get_or (Spans n g) k no_span))

  -- A cell of an earlier track is in none.
  covered_before : (n g h m : ℕ) → h < g → m < l → covered n g (h * l + m) ≡ false
  covered_before n g h m b c = any_none (length (Spans n g)) _ (λ k d.
      let p = placed n g k d in
      ap (λ (v : Bool). not v && ltb (h * l + m) ((get_or (Spans n g) k no_span).offset + (get_or (Spans n g) k no_span).length))
      (lt-ltb (h * l + m) (get_or (Spans n g) k no_span).offset (omega (arith, digits_lt {q = h} {m = g} {r = m} {c = l} b c, p.from))))

  -- A cell of one of the tracks is in one exactly if its track is flagged.
  covered_is : (n g h m : ℕ) → g ≤ h → h < n + g → m < l → covered n g (h * l + m) ≡ f h
  covered_is zero g h m a b c = absurd (omega arith)
  covered_is (suc n) g h m a b c = by_cases (ℕ_discrete h g)
      (λ e. rw e (own (f g) refl))
      (λ d. later (f g) refl (omega arith) (covered_is n (suc g) h m (omega arith) (omega arith) c))
    where
      own : (b : Bool) → f g ≡ b → covered (suc n) g (g * l + m) ≡ f g
      own true e = rw (here n g e) (any_first (length (Spans n (suc g))) _
          ∙ ap (λ (v : Bool). v || any (length (Spans n (suc g))) (λ k. covers (g * l + m) (get_or (Spans n (suc g)) k no_span)))
          (ap₂ (λ (u v : Bool). not u && v) (le-ltb (g * l + m) (g * l) (omega arith)) (lt-ltb (g * l + m) (g * l + l) (omega arith))) ∙ sym e)
      own false e = rw (by n g e) (covered_before n (suc g) g m (omega arith) c ∙ sym e)

      later : (b : Bool) → f g ≡ b → g < h → covered n (suc g) (h * l + m) ≡ f h → covered (suc n) g (h * l + m) ≡ f h
      later true e d rest = rw (here n g e) (any_first (length (Spans n (suc g))) _
          ∙ ap (λ (v : Bool). v || any (length (Spans n (suc g))) (λ k. covers (h * l + m) (get_or (Spans n (suc g)) k no_span)))
          (ap₂ (λ (u v : Bool). not u && v) (le-ltb (h * l + m) (g * l) (omega (arith, past))) (le-ltb (h * l + m) (g * l + l) (omega (arith, past)))) ∙ rest)
        where
          past : g * l + l ≤ h * l
          past = omega (arith, suc-mul g l, mul-le-mul_right l d)
      later false e d rest = rw (by n g e) rest

-- ## The table of a flag word

module _ (sh : Shape) (word : ℕ) where
  abbrev bits : ℕ → Bool
  bits g = eqb (word / 2 ^ g % 2) 1

  table_sound : all_tracks sh ≤ 64 → 0 < track_length sh → Broken (image_size sh) (word_table sh word) → ⊥
  table_sound small some (too_long h) = omega (arith, count_le (track_length sh) bits (all_tracks sh) 0)
  table_sound small some (empty k h e) = omega (arith, (placed (track_length sh) bits (all_tracks sh) 0 k h).cells)
  table_sound small some (beyond k h e) =
      let p = placed (track_length sh) bits (all_tracks sh) 0 k h in
      let all : (all_tracks sh + 0) * track_length sh ≡ image_size sh = ap (λ (v : ℕ). v * track_length sh) (omega arith) in
      omega (arith, p.to, p.cells, all)
  table_sound small some (too_early k h e) = omega (arith, ordered (track_length sh) bits (all_tracks sh) 0 k h)

  table_flags : (s : TrackSet) (t m : ℕ) → t < tracks sh s → m < track_length sh → in_table sh (word_table sh word) s t m ≡ word_flags sh word s t
  table_flags s t m h b = covered_is (track_length sh) bits (all_tracks sh) 0 (track_number sh s t) m (omega arith) (omega (arith, number_lt sh s t h)) b

pub repair_is_a_case : (n word : ℕ) (image before : List ℕ) → RepairIsACase n word image before
repair_is_a_case n word image before small same = as_repair n (word_table (base n) word) image before word
    (table_sound (base n) word (omega arith) (omega arith)) small on
  where
    or_lost : (s : TrackSet) (t m : ℕ) → t < tracks (base n) s → m < track_length (base n) → (b : Bool) → word_flags (base n) word s t ≡ b →
        b || lost_cells (cells (base n) image) s t m ≡ b
    or_lost s t m h c true e = refl
    or_lost s t m h c false e = none_lost (base n) (word_flags (base n) word) image s t m (same s t h ∙ e) c

    on : OnTracks (base n) (span_flags (base n) (word_table (base n) word) image) (call_flags n word image)
    on s t m h b = ap (λ (v : Bool). v || lost_cells (cells (base n) image) s t m) (table_flags (base n) word s t m h b)
        ∙ or_lost s t m h b (word_flags (base n) word s t) refl ∙ sym (same s t h)
