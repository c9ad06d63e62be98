-- Few flagged tracks: which patterns that leaves.
use mathlib.Core.Path.{◌≡◌, refl, sym, ap, ◌∙◌}
use mathlib.Core.Logic.{◌⊎◌, inl, inr, ◌≢◌}
use mathlib.Core.Bool.{Bool, true, false, ◌||◌, true≢false}
use Prim.Native.Nat.{ℕ, zero, suc, ◌<◌, ◌≤◌}
use native.Mathlib.Decide.{ℕ_discrete, dec_lt}
use native.Mathlib.Omega.{arith}
use Rattle.code.specs.Record.{TrackSet, A, B, other, open_tail, Shape, data_tracks, sum}
use Rattle.code.specs.Flags.{TrackFlags, bit, flag_count, Within, any}

-- A number other than a is below it or above it.
pub apart : {P : Type 0} (t a : ℕ) → t ≢ a → (t < a → P) → (a < t → P) → P
apart {P} t a d low high = go (dec_lt t a)
  where
    go : Dec (t < a) → P
    go (yes l) = low l
    go (no l) = high (omega arith)

-- What holds of i holds of t, if it does wherever t is not i.
pub but_for : (P : ℕ → Type 0) (i : ℕ) → P i → (t : ℕ) → (t ≢ i → P t) → P t
but_for P i h t k = go (ℕ_discrete t i)
  where
    go : Dec (t ≡ i) → P t
    go (yes e) = rw e h
    go (no d) = k d

-- What holds of both sets holds of each.
pub in_each : (P : TrackSet → Type 0) → P A → P B → (s : TrackSet) → P s
in_each P a b A = a
in_each P a b B = b

-- ## Flagged tracks at one position

-- At most one track of a set with n data tracks is not clear: y.
pub record One (n : ℕ) (Clear : ℕ → Type 0) : Type 0 where
  pub y : ℕ
  pub rest : (t : ℕ) → t < suc (suc n) → t ≢ y → Clear t

-- At most two are not clear: i, which is the lowest of them, and j.
pub record Two (n : ℕ) (Clear : ℕ → Type 0) : Type 0 where
  pub i : ℕ
  pub j : ℕ
  pub fits : i ≤ n
  pub below : (t : ℕ) → t < i → Clear t
  pub rest : (t : ℕ) → t < suc (suc n) → t ≢ i → t ≢ j → Clear t

-- At most three are not clear: i, the lowest of them; k, the highest but for the vertical track; and j.
pub record Three (n : ℕ) (Clear : ℕ → Type 0) : Type 0 where
  pub i : ℕ
  pub j : ℕ
  pub k : ℕ
  pub order : i < k
  pub fits : k ≤ n
  pub below : (t : ℕ) → t < i → Clear t
  pub above : (t : ℕ) → k < t → t ≤ n → Clear t
  pub rest : (t : ℕ) → t < suc (suc n) → t ≢ i → t ≢ j → t ≢ k → Clear t

-- What the sets' flags may be at one position: each set has at most two, or one has three and the other at most one,
-- which is not track 0 where the tail is open.
pub data Pattern (sh : Shape) (Clear : TrackSet → ℕ → Type 0) : Type 0 where
  few : ((s : TrackSet) → One (data_tracks sh s) (Clear s) ⊎ Two (data_tracks sh s) (Clear s)) → Pattern sh Clear
  three : (s : TrackSet) (o : One (data_tracks sh s) (Clear s)) → (sh.closing ≡ open_tail → o.y ≢ 0) →
      Three (data_tracks sh (other s)) (Clear (other s)) → Pattern sh Clear

-- ## From flags to patterns

-- Two flags that are off together are both off.
pub neither : (a b : Bool) → a || b ≡ false → (a ≡ false) × (b ≡ false)
neither false b e = (refl, e)
neither true b e = absurd (true≢false e)

-- Where none is flagged, each one is clear.
pub none_flagged : (w : ℕ) (f : ℕ → Bool) → any w f ≡ false → (k : ℕ) → k < w → f k ≡ false
unfolding any
none_flagged zero f e k l = absurd (omega arith)
none_flagged (suc w) f e k l = but_for (λ t. f t ≡ false) w (neither (any w f) (f w) e).1 k (λ d.
    none_flagged w f (neither (any w f) (f w) e).0 k (omega arith))

-- The flagged ones below n.
abbrev count : ℕ → (ℕ → Bool) → ℕ
count n f = sum n (λ t. bit (f t))

-- The highest flagged track below n, if there is one.
data Last (n : ℕ) (f : ℕ → Bool) : Type 0 where
  none : ((t : ℕ) → t < n → f t ≡ false) → Last n f
  last : (k : ℕ) → k < n → f k ≡ true → ((t : ℕ) → k < t → t < n → f t ≡ false) → count n f ≡ suc (count k f) → Last n f

-- By the flag at the top, and the rest.
last_of : (n : ℕ) (f : ℕ → Bool) → Last n f
unfolding sum
last_of zero f = none (λ t l. absurd (omega arith))
last_of (suc n) f = go (f n) refl (last_of n f)
  where
    go : (b : Bool) → f n ≡ b → Last n f → Last (suc n) f
    go true e r = last n (omega arith) e (λ t k l. absurd (omega arith)) (omega (arith, ap bit e))
    go false e (none h) = none (λ t l. but_for (λ u. f u ≡ false) n e t (λ d. h t (omega arith)))
    go false e (last k l g h c) = last k (omega arith) g (λ t u v. but_for (λ w. f w ≡ false) n e t (λ d. h t u (omega arith)))
        (omega (arith, ap bit e))

-- What at most three flags in a set come to. The one track that may not be clear is flagged or the vertical one.
data Found (n : ℕ) (f : ℕ → Bool) : Type 0 where
  one : (o : One n (λ t. f t ≡ false)) → (f 0 ≡ false → o.y ≢ 0) → Found n f
  two : 2 ≤ count (suc (suc n)) f → Two n (λ t. f t ≡ false) → Found n f
  three : 3 ≤ count (suc (suc n)) f → Three n (λ t. f t ≡ false) → Found n f

-- The flags from the highest one down: none, one, two or three.
found : (n : ℕ) (f : ℕ → Bool) → count (suc (suc n)) f ≤ 3 → Found n f
found n f most = first (last_of (suc (suc n)) f)
  where
    first : Last (suc (suc n)) f → Found n f
    first (none h) = one (record { y = suc n; rest = λ t l d. h t l }) (λ z. omega arith)
    first (last a la fa ha ea) = second (last_of a f)
      where
        second : Last a f → Found n f
        second (none h) = one (record { y = a; rest = λ t l d. apart t a d (h t) (λ u. ha t u l) })
            (λ z e. true≢false (sym fa ∙ ap f e ∙ z))
        second (last b lb fb hb eb) = third (last_of b f)
          where
            third : Last b f → Found n f
            third (none h) = two (omega arith) (record {
              i = b;
              j = a;
              fits = omega arith;
              below = h;
              rest = λ t l d e. apart t a e (λ u. apart t b d (h t) (λ v. hb t v u)) (λ u. ha t u l);
            })
            third (last c lc fc hc ec) = fourth (last_of c f)
              where
                fourth : Last c f → Found n f
                fourth (last d ld fd hd ed) = absurd (omega arith)
                fourth (none h) = three (omega arith) (go (ℕ_discrete a (suc n)))
                  where
                    others : (t : ℕ) → t < suc (suc n) → t ≢ a → t ≢ b → t ≢ c → f t ≡ false
                    others t l p q r = apart t a p (λ u. apart t b q (λ v. apart t c r (h t) (λ w. hc t w v)) (λ v. hb t v u)) (λ u. ha t u l)

                    go : Dec (a ≡ suc n) → Three n (λ t. f t ≡ false)
                    go (yes e) = record {
                      i = c;
                      j = a;
                      k = b;
                      order = lc;
                      fits = omega arith;
                      below = h;
                      above = λ t u v. hb t u (omega arith);
                      rest = λ t l p q r. others t l q r p;
                    }
                    go (no e) = record {
                      i = c;
                      j = b;
                      k = a;
                      order = omega arith;
                      fits = omega arith;
                      below = h;
                      above = λ t u v. ha t u (omega arith);
                      rest = λ t l p q r. others t l r q p;
                    }

-- What the code can repair comes to a pattern.
pub pattern_of : (sh : Shape) (f : TrackFlags) → Within sh f → Pattern sh (λ s t. f s t ≡ false)
unfolding flag_count
pattern_of sh f w = go (found sh.t1 (f A) (w.in_set A)) (found sh.t2 (f B) (w.in_set B))
  where
    Small : TrackSet → Type 0
    Small s = One (data_tracks sh s) (λ t. f s t ≡ false) ⊎ Two (data_tracks sh s) (λ t. f s t ≡ false)

    small : Small A → Small B → Pattern sh (λ s t. f s t ≡ false)
    small a b = few (in_each Small a b)

    go : Found sh.t1 (f A) → Found sh.t2 (f B) → Pattern sh (λ s t. f s t ≡ false)
    go (one a z) (one b z') = small (inl a) (inl b)
    go (one a z) (two m b) = small (inl a) (inr b)
    go (two l a) (one b z) = small (inr a) (inl b)
    go (two l a) (two m b) = small (inr a) (inr b)
    go (one a z) (three m b) = three A a (λ o. z (w.if_open o B (omega (arith, w.in_set B)))) b
    go (three l a) (one b z) = three B b (λ o. z (w.if_open o A (omega (arith, w.in_set A)))) a
    go (two l a) (three m b) = absurd (omega arith)
    go (three l a) (two m b) = absurd (omega arith)
    go (three l a) (three m b) = absurd (omega arith)
