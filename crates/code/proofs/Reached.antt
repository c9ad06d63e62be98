-- At most one good record is in reach.
use mathlib.Core.Path.{◌≡◌, refl, sym, ◌∙◌, ap}
use mathlib.Core.Bool.{Bool, true, false, ◌||◌}
use Prim.Native.Nat.{ℕ, ◌+◌, ◌<◌, ◌≤◌}
use native.Mathlib.Decide.{dec_lt}
use native.Mathlib.Omega.{arith}
use lib.Dec.{eqb}
use borrow.Author.Tests.{eq-eqb, ne_eqb}
use Rattle.code.specs.Record.{TrackSet, A, B, closed_tail, Shape, tracks, Cells, sum, Good, Same}
use Rattle.code.specs.Flags.{TrackFlags, whole, bit, flag_count, AgreeOff, Within}
use Rattle.code.specs.Reach.{Extra, none, extra, size, is, Choice, with_extras, InReach, AtMostOne}
use Rattle.code.specs.declared.Reach.{Reach}
use Rattle.code.proofs.Sums.{sum_le, sum_add, sum_zero, sum_one}
use Rattle.code.proofs.Patterns.{neither}
use Rattle.code.proofs.Unique.{unique_tracks}
use Rattle.code.proofs.Codes.{Room, closed_within}

-- ## Agreement

-- Two records that agree with z, each off its own flags, agree with each other where both flags are off.
agree_through : (sh : Shape) (f g h : TrackFlags) (z x y : Cells) → AgreeOff sh (whole g) z x → AgreeOff sh (whole h) z y →
    ((s : TrackSet) (t : ℕ) → f s t ≡ false → (g s t ≡ false) × (h s t ≡ false)) → AgreeOff sh (whole f) x y
agree_through sh f g h z x y p q off = record {
  cell = λ s t m l b e. sym (p.cell s t m l b (off s t e).0) ∙ q.cell s t m l b (off s t e).1;
}

-- At most one good record differs from z only in flagged tracks.
pub repaired_unique : (sh : Shape) (f : TrackFlags) (z : Cells) → Within sh f → AtMostOne sh (AgreeOff sh (whole f) z)
repaired_unique sh f z w x y gx gy p q = unique_tracks sh x y gx gy f w (agree_through sh f f f z x y p q (λ s t e. (e, e)))

-- Two records that are in reach by choices which together with the flags stay within the limit are the same.
pub reached_within : (sh : Shape) (w : Reach) (f : TrackFlags) (z x y : Cells) → Good sh x → Good sh y →
    (rx : InReach sh w f z x) (ry : InReach sh w f z y) →
    Within sh (with_extras (with_extras f rx.choice) ry.choice) → Same sh x y
reached_within sh w f z x y gx gy rx ry few =
    unique_tracks sh x y gx gy _ few (agree_through sh _ _ _ z x y rx.agree ry.agree (λ s t. split (f s t) (is (rx.choice s) t) (is (ry.choice s) t)))
  where
    split : (a b c : Bool) → (a || b) || c ≡ false → (a || b ≡ false) × (a || c ≡ false)
    split false b c e = neither b c e
    split true b c e = (e, e)

-- ## Counts

-- An extra track is at most one track.
one_extra : (n : ℕ) (e : Extra) → sum n (λ t. bit (is e t)) ≤ size e
one_extra n none = omega (arith, sum_zero n (λ t. 0) (λ t l. refl))
one_extra n (extra u) = go (dec_lt u n)
  where
    off : (t : ℕ) → (t ≡ u → ⊥) → bit (eqb t u) ≡ 0
    off t d = ap bit (ne_eqb t u d)

    go : Dec (u < n) → sum n (λ t. bit (eqb t u)) ≤ 1
    go (yes l) = omega (arith, sum_one n u (λ t. bit (eqb t u)) l (λ t k. off t), ap bit (eq-eqb u u refl))
    go (no l) = omega (arith, sum_zero n (λ t. bit (eqb t u)) (λ t k. off t (omega arith)))

-- What is flagged twice counts once.
bit_or : (a b : Bool) → bit (a || b) ≤ bit a + bit b
bit_or true b = omega arith
bit_or false b = omega arith

-- Each extra adds at most one to the count.
pub count_extras : (sh : Shape) (f : TrackFlags) (e : Choice) (s : TrackSet) →
    flag_count sh (with_extras f e) s ≤ flag_count sh f s + size (e s)
unfolding flag_count
count_extras sh f e s = omega (
  arith,
  sum_le (tracks sh s) _ _ (λ t l. bit_or (f s t) (is (e s) t)),
  sum_add (tracks sh s) (λ t. bit (f s t)) (λ t. bit (is (e s) t)),
  one_extra (tracks sh s) (e s),
)

-- Where a reach leaves room for two choices, at most one good record is in it.
pub reached_unique : (sh : Shape) (w : Reach) (f : TrackFlags) (z : Cells) → sh.closing ≡ closed_tail → Room w (flag_count sh f A) (flag_count sh f B) →
    AtMostOne sh (InReach sh w f z)
reached_unique sh w f z c room x y gx gy rx ry =
    reached_within sh w f z x y gx gy rx ry
    (closed_within sh both c
    (omega (arith, counts A, rx.allowed.in_set A, ry.allowed.in_set A))
    (omega (arith, counts B, rx.allowed.in_set B, ry.allowed.in_set B))
    (omega (arith, counts A, counts B)))
  where
    both : TrackFlags
    both = with_extras (with_extras f rx.choice) ry.choice

    counts : (s : TrackSet) → flag_count sh both s ≤ flag_count sh f s + size (rx.choice s) + size (ry.choice s)
    counts s = omega (arith, count_extras sh f rx.choice s, count_extras sh (with_extras f rx.choice) ry.choice s)
