-- What document 01 says of the values that repair and tracing return, for any shape, checks and records that count as near.
use mathlib.Core.Path.{◌≡◌, refl, sym, ap, ◌∙◌}
use mathlib.Core.Logic.{inl, inr, ◌≢◌}
use mathlib.Core.Bool.{Bool, true, false, true≢false}
use mathlib.Core.List.{List}
use Prim.Native.Nat.{ℕ, ◌+◌, ◌*◌, ◌<◌, ◌≤◌}
use native.Mathlib.Nat.{mul-le-mul_left}
use native.Mathlib.Omega.{arith}
use lib.Pow.{pow_pos}
use borrow.Author.Tests.{eqb-true}
use Rattle.code.specs.Record.{TrackSet, A, B, Shape, tracks, track_length, Cells}
use Rattle.code.specs.Image.{all_tracks, cells}
use Rattle.code.specs.Flags.{TrackFlags, whole, flag_count, AgreeOff}
use Rattle.code.specs.Reach.{Extra, none, extra, size, is, Choice, with_extras}
use Rattle.code.specs.Numbers.{Check}
use Rattle.code.specs.Calls.{Result, plain, Answered, changed_in, changed_cells, changed_extra, mended, Mended, trace_named}
use Rattle.code.specs.Supply.{extra_in, OnlyChanged, Values}
use Rattle.code.proofs.Masks.{unchanged_in, changed_cells_le, mask_small}
use Rattle.code.proofs.Named.{ChangedTrack, named_changed, named_none}
use Rattle.code.proofs.Numbers.{each_map, Avoids, answered}
use Rattle.code.proofs.Reached.{count_extras}

-- y differs from x in the flagged tracks and the extras of a choice, in `allowed` tracks at the most.
pub record Chosen (sh : Shape) (f : TrackFlags) (allowed : ℕ) (x y : Cells) : Type 0 where
  pub choice : Choice
  pub agree : AgreeOff sh (whole (with_extras f choice)) x y
  pub few : flag_count sh f A + flag_count sh f B + (size (choice A) + size (choice B)) ≤ allowed

module _ (sh : Shape) (f : TrackFlags) (allowed : ℕ) (x y : Cells) (c : Chosen sh f allowed x y) where
  -- An unflagged track that is no extra is unchanged.
  unchosen : (s : TrackSet) (t : ℕ) → t < tracks sh s → f s t ≡ false → is (c.choice s) t ≡ false → changed_in sh x y s t ≡ 0
  unchosen s t l u v = unchanged_in sh x y s t (λ m b. c.agree.cell s t m l b (rw u v))

  at_most : changed_cells sh x y ≤ track_length sh * allowed
  at_most =
      let wide = with_extras f c.choice in
      let within : flag_count sh wide A + flag_count sh wide B ≤ allowed = omega (arith, count_extras sh f c.choice A, count_extras sh f c.choice B, c.few) in
      omega (arith, changed_cells_le sh wide x y c.agree, mul-le-mul_left (track_length sh) within)

  -- So the changed unflagged track that is named is the only one.
  only : (s : TrackSet) (g : ℕ) → changed_extra sh f x y s (tracks sh s) ≡ extra g → OnlyChanged sh f x y s g
  only s g e = record {
    track = k.track;
    inside = k.before;
    number = k.number;
    unflagged = k.unflagged;
    changed = k.changed;
    others = λ t l u d. go t l u d (is (c.choice s) t) refl (is (c.choice s) k.track) refl (c.choice s) refl;
  }
    where
      k : ChangedTrack sh f x y s (tracks sh s) g
      k = named_changed sh f x y s (tracks sh s) g e

      go : (t : ℕ) → t < tracks sh s → f s t ≡ false → t ≢ k.track → (p : Bool) → is (c.choice s) t ≡ p → (q : Bool) → is (c.choice s) k.track ≡ q →
          (o : Extra) → c.choice s ≡ o → changed_in sh x y s t ≡ 0
      go t l u d false i q j o w = unchosen s t l u i
      go t l u d true i false j o w = absurd (k.changed (unchosen s k.track k.before k.unflagged j))
      go t l u d true i true j none w = absurd (true≢false (sym i ∙ ap (λ (v : Extra). is v t) w))
      go t l u d true i true j (extra v) w = absurd (d (eqb-true t v (sym (ap (λ (o : Extra). is o t) w) ∙ i) ∙ sym (eqb-true k.track v (sym (ap (λ (o : Extra). is o k.track) w) ∙ j))))

module _ (sh : Shape) (f : TrackFlags) (allowed : ℕ) (image : List ℕ) where
  -- A number returns nothing else.
  number_values : (after : List ℕ) (k d : ℕ) → k ≢ 0 → Values sh f allowed image (plain k d) after
  number_values after k d some = record {
    otherwise = λ e. refl;
    at_most = omega arith;
    named = λ s g e. absurd (unnamed s g e);
    unnamed = λ e. absurd (some e);
    mask_small = pow_pos (all_tracks sh);
  }
    where
      unnamed : (s : TrackSet) (g : ℕ) → extra_in (plain k d) s ≡ extra g → ⊥
      unnamed A g e = let z : ◌≡◌ {A = ℕ} 0 1 = cc in omega arith
      unnamed B g e = let z : ◌≡◌ {A = ℕ} 0 1 = cc in omega arith

  module _ (near : Cells → Type 0) (named : List ℕ → TrackSet → Extra) (before : List ℕ) (r : Result) (after : List ℕ)
      (chosen : near (cells sh after) → Chosen sh f allowed (cells sh image) (cells sh after))
      (names : near (cells sh after) → (s : TrackSet) → named after s ≡ trace_named sh f image after s) where
    mended_values : Mended sh near named image before r after → Values sh f allowed image r after
    mended_values (inr a) = rw a.result (number_values after 7 0 (λ e. omega arith))
    mended_values (inl a) = rw a.result (record {
      otherwise = λ d. absurd (d refl);
      at_most = at_most sh f allowed _ _ (chosen a.reached);
      named = λ s g e. only sh f allowed _ _ (chosen a.reached) s g (own s e);
      unnamed = λ z s e. named_none sh f _ _ s (tracks sh s) (own s e);
      mask_small = mask_small sh _ _;
    })
      where
        own : {e : Extra} (s : TrackSet) → extra_in (mended sh (cells sh image) (cells sh after) (named after)) s ≡ e → trace_named sh f image after s ≡ e
        own A w = sym (names a.reached A) ∙ w
        own B w = sym (names a.reached B) ∙ w

    pub call_values : (cs : List {1} Check) → Avoids 0 cs → Answered cs (Mended sh near named image before) before r after → Values sh f allowed image r after
    call_values cs some = answered (Values sh f allowed image) cs (Mended sh near named image before) before r after
        (each_map cs (λ c d. number_values before c.number c.detail d) some) mended_values
