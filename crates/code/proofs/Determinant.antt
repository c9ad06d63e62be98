-- Determinants of pairs of tracks over both diagonals: with one on each of three pairs, all diagonals are even.
use mathlib.Core.Path.{◌≡◌, ◌∙◌, ap, fun_ext}
use Prim.Native.Nat.{ℕ, ◌+◌, ◌<◌, ◌≤◌, ◌%◌}
use native.Mathlib.Nat.{zero-add}
use native.Mathlib.Omega.{arith}
use Rattle.code.specs.Record.{TrackSet, A, B, other, back}
use Rattle.code.proofs.Sums.{back_zero, back_add, back_back}
use Rattle.code.proofs.Mono.{mono, mono_miss, back_mono}

-- How many positions back a diagonal meets each track of a pair.
pub record Span : Type 0 where
  pub one : ℕ
  pub two : ℕ

-- What a diagonal meets of a pair of tracks that both hold f.
unfoldable pub both : Span → (ℕ → ℕ) → ℕ → ℕ
both u f m = back f m u.one + back f m u.two

-- Sums may be split.
both_add : (u : Span) (f g : ℕ → ℕ) (m : ℕ) → both u (λ p. f p + g p) m ≡ both u f m + both u g m
unfolding both
both_add u f g m = omega (arith, back_add f g m u.one, back_add f g m u.two)

-- A pair of pairs has four offsets.
both_both : (u v : Span) (f : ℕ → ℕ) (m : ℕ) → both u (both v f) m
    ≡ back f m (v.one + u.one) + back f m (v.two + u.one) + (back f m (v.one + u.two) + back f m (v.two + u.two))
unfolding both
both_both u v f m = simp (back_add, back_back)

-- Which pair comes first makes no difference.
both_swap : (u v : Span) (f : ℕ → ℕ) → both u (both v f) ≡ both v (both u f)
both_swap u v f = fun_ext λ m.
    let comm : (j k : ℕ) → back f m (j + k) ≡ back f m (k + j) = λ j k. ap (back f m) (omega arith) in
    omega (
      arith,
      both_both u v f m,
      both_both v u f m,
      comm v.one u.one,
      comm v.two u.one,
      comm v.one u.two,
      comm v.two u.two,
    )

-- A pair's span on each set's diagonal.
abbrev pub Spans : Type 0
Spans = TrackSet → Span

-- The determinant of two pairs, as a track.
unfoldable pub det : Spans → Spans → ℕ → ℕ
det c e m = both (c A) (both (e B) (mono 0)) m + both (c B) (both (e A) (mono 0)) m

-- A cell met through three pairs. Their order makes no difference, so the six cells of the three determinants pair off.
module _ (f : ℕ → ℕ) (m : ℕ) where
  three : Span → Span → Span → ℕ
  three u v w = both u (both v (both w f)) m

  swap : (u v w : Span) → three u v w ≡ three v u w
  unfolding three
  swap u v w = ap (λ g. g m) (both_swap u v (both w f))

  turn : (u v w : Span) → three u v w ≡ three w u v
  unfolding three
  turn u v w = ap (λ g. both u g m) (both_swap v w f) ∙ swap u w v

  cancel : (u u' v v' w w' : Span) → (three u v w' + three u v' w + (three v u w' + three v u' w) + (three w u v' + three w u' v)) % 2 ≡ 0
  cancel u u' v v' w w' = omega (arith, swap u v w', turn u v' w, turn v u' w, turn w u' v, swap w v u')

-- If each of three pairs holds the determinant of the two others, both diagonals are even.
pub three_pairs : (c e g : Spans) (d : TrackSet) (m : ℕ) → (both (c d) (det e g) m + both (e d) (det c g) m + both (g d) (det c e) m) % 2 ≡ 0
unfolding det three
three_pairs c e g A m = simp both_add (cancel (mono 0) m (c A) (c B) (e A) (e B) (g A) (g B))
three_pairs c e g B m = simp both_add (omega (arith, cancel (mono 0) m (c B) (c A) (e B) (e A) (g B) (g A)))

-- A pair of which a diagonal before n meets each track at most l positions back, or not at all.
pub record Near (l n : ℕ) (u : Span) : Type 0 where
  pub near_one : u.one < n → u.one ≤ l
  pub near_two : u.two < n → u.two ≤ l

-- f is 0 from a on, before n.
abbrev Clear : ℕ → ℕ → (ℕ → ℕ) → Type 0
Clear a n f = (m : ℕ) → a ≤ m → m < n → f m ≡ 0

-- Shifted, a track ends at most l later.
back_clear : (l n a k : ℕ) (f : ℕ → ℕ) → (k < n → k ≤ l) → Clear a n f → Clear (a + l) n (λ m. back f m k)
back_clear l n a k f near z m p q = back_zero f m k (λ r e. z r (omega (arith, near (omega arith))) (omega arith))

-- So does a pair.
both_clear : (l n a : ℕ) (u : Span) (f : ℕ → ℕ) → Near l n u → Clear a n f → Clear (a + l) n (both u f)
unfolding both
both_clear l n a u f h z m p q = rw (back_clear l n a u.one f h.near_one z m p q, back_clear l n a u.two f h.near_two z m p q)

-- So a determinant ends by 2l.
pub det_clear : (l n : ℕ) (c e : Spans) → ((d : TrackSet) → Near l n (c d)) → ((d : TrackSet) → Near l n (e d)) → Clear (1 + l + l) n (det c e)
unfolding det
det_clear l n c e hc he m p q = rw (twice A B, twice B A)
  where
    twice : (d d' : TrackSet) → both (c d) (both (e d') (mono 0)) m ≡ 0
    twice d d' = both_clear l n (1 + l) (c d) _ (hc d) (both_clear l n 1 (e d') (mono 0) (he d') (λ r a b. mono_miss 0 r (omega arith))) m p q

-- The four cells that a diagonal meets of a pair, each of whose tracks holds the cells of another pair.
abbrev pub four : Span → Span → ℕ → ℕ
four u v m = mono (v.one + u.one) m + mono (v.two + u.one) m + (mono (v.one + u.two) m + mono (v.two + u.two) m)

-- They are single cells.
both_mono : (u v : Span) (m : ℕ) → both u (both v (mono 0)) m ≡ four u v m
both_mono u v m = both_both u v (mono 0) m ∙ simp (back_mono, zero-add)

-- The determinant's eight cells, seen from set s.
pub det_cells : (s : TrackSet) (c e : Spans) (m : ℕ) → det c e m ≡ four (c s) (e (other s)) m + four (c (other s)) (e s) m
unfolding det
det_cells A c e m = rw (both_mono (c A) (e B) m, both_mono (c B) (e A) m)
det_cells B c e m = omega (arith, both_mono (c A) (e B) m, both_mono (c B) (e A) m)
