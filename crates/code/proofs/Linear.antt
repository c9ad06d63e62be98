-- The cellwise sum modulo 2 of two good records is good, and so is the all-zero record.
use mathlib.Core.Path.{◌≡◌, refl, sym, ◌∙◌}
use Prim.Native.Nat.{ℕ, suc, ◌+◌, ◌-◌, ◌<◌, ◌≤◌, ◌%◌}
use native.Mathlib.Omega.{arith}
use Rattle.code.specs.Record.{
  TrackSet,
  other,
  Shape,
  data_tracks,
  tracks,
  lag,
  track_length,
  vertical_end,
  tail_tracks,
  Cells,
  back,
  diagonal,
  vertical,
  Good,
  Same,
  blank,
}
use Rattle.code.proofs.Cell.{vertical_within, tail_within}
use Rattle.code.proofs.Sums.{back_zero, sum_same, sum_zero, sum_add, sum_mod, shifted_same, shifted_add, shifted_mod}

-- Two records added cell by cell, and cells taken modulo 2.
abbrev pub ◌⊞◌ : Cells → Cells → Cells
◌⊞◌ x y s t m = x s t m + y s t m

infixl 60 ◌⊞◌
abbrev pub bits_of : Cells → Cells
bits_of x s t m = x s t m % 2

abbrev pub plus : Cells → Cells → Cells
plus x y = bits_of (x ⊞ y)

pub diagonal_add : (sh : Shape) (x y : Cells) (s : TrackSet) (m : ℕ) → diagonal sh (x ⊞ y) s m ≡ diagonal sh x s m + diagonal sh y s m
unfolding diagonal
diagonal_add sh x y s m = omega (
  arith,
  shifted_add (suc (data_tracks sh s)) (x s) (y s) (λ t. t) m,
  shifted_add (suc (data_tracks sh (other s))) (x (other s)) (y (other s)) (λ t. lag sh - t) m,
)

pub vertical_add : (sh : Shape) (x y : Cells) (s : TrackSet) (m : ℕ) → vertical sh (x ⊞ y) s m ≡ vertical sh x s m + vertical sh y s m
unfolding vertical
vertical_add sh x y s m = sum_add _ _ _

pub diagonal_mod : (sh : Shape) (x : Cells) (s : TrackSet) (m : ℕ) → diagonal sh (bits_of x) s m % 2 ≡ diagonal sh x s m % 2
unfolding diagonal
diagonal_mod sh x s m = omega (
  arith,
  shifted_mod (suc (data_tracks sh s)) (x s) (λ t. t) m,
  shifted_mod (suc (data_tracks sh (other s))) (x (other s)) (λ t. lag sh - t) m,
)

pub vertical_mod : (sh : Shape) (x : Cells) (s : TrackSet) (m : ℕ) → vertical sh (bits_of x) s m % 2 ≡ vertical sh x s m % 2
unfolding vertical
vertical_mod sh x s m = sum_mod _ _

pub same_sym : {sh : Shape} {x y : Cells} → Same sh x y → Same sh y x
same_sym e = record { cell = λ s t m l b. sym (e.cell s t m l b) }

-- Sums depend on the record's own cells alone.
pub diagonal_same : (sh : Shape) (x y : Cells) → Same sh x y → (s : TrackSet) (m : ℕ) → m < track_length sh → diagonal sh x s m ≡ diagonal sh y s m
unfolding diagonal
diagonal_same sh x y e s m b = omega (
  arith,
  shifted_same (suc (data_tracks sh s)) (x s) (y s) (λ t. t) m (λ t q l i. e.cell s t q (omega arith) (omega arith)),
  shifted_same (suc (data_tracks sh (other s))) (x (other s)) (y (other s)) (λ t. lag sh - t) m (λ t q l i. e.cell (other s) t q (omega arith) (omega arith)),
)

pub vertical_same : (sh : Shape) (x y : Cells) → Same sh x y → (s : TrackSet) (m : ℕ) → m < track_length sh → vertical sh x s m ≡ vertical sh y s m
unfolding vertical
vertical_same sh x y e s m b = sum_same (tracks sh s) (λ t. x s t m) (λ t. y s t m) (λ t l. e.cell s t m l b)

-- A record is good if its sums are even and its tail is 0, whatever its cells count to.
pub good_bits : (sh : Shape) (x : Cells) →
    ((s : TrackSet) (m : ℕ) → m < track_length sh → diagonal sh x s m % 2 ≡ 0) →
    ((s : TrackSet) (m : ℕ) → m < vertical_end sh → vertical sh x s m % 2 ≡ 0) →
    ((s : TrackSet) (t m : ℕ) → 1 ≤ t → t < tail_tracks sh s → sh.positions ≤ m → m < track_length sh → x s t m ≡ 0) →
    Good sh (bits_of x)
good_bits sh x d v z = record {
  bits = λ s t m l b. omega arith;
  diagonals = λ s m b. diagonal_mod sh x s m ∙ d s m b;
  verticals = λ s m b. vertical_mod sh x s m ∙ v s m b;
  tail = λ s t m l h p q. rw (z s t m l h p q);
}

even_add : (a b : ℕ) → a % 2 ≡ 0 → b % 2 ≡ 0 → (a + b) % 2 ≡ 0
even_add a b p q = omega arith

-- The sum of two good records is good.
pub good_plus : (sh : Shape) (x y : Cells) → Good sh x → Good sh y → Good sh (plus x y)
good_plus sh x y gx gy = good_bits sh (x ⊞ y)
    (λ s m b. rw diagonal_add (even_add _ _ (gx.diagonals s m b) (gy.diagonals s m b)))
    (λ s m b. rw vertical_add (even_add _ _ (gx.verticals s m b) (gy.verticals s m b)))
    (λ s t m l h p q. omega (arith, gx.tail s t m l h p q, gy.tail s t m l h p q))

-- The all-zero record is good.
pub good_blank : (sh : Shape) → Good sh blank
unfolding diagonal vertical
good_blank sh = record {
  bits = λ s t m l b. omega arith;
  diagonals = λ s m b. omega (
    arith,
    sum_zero (suc (data_tracks sh s)) (λ t. back (λ p. 0) m t) (λ t l. back_zero (λ p. 0) m t (λ p e. refl)),
    sum_zero (suc (data_tracks sh (other s))) (λ t. back (λ p. 0) m (lag sh - t)) (λ t l. back_zero (λ p. 0) m (lag sh - t) (λ p e. refl)),
  );
  verticals = λ s m b. omega (arith, sum_zero (tracks sh s) (λ t. 0) (λ t l. refl));
  tail = λ s t m l h p q. refl;
}

-- A record that is the same as a good one is good.
pub good_same : (sh : Shape) (x y : Cells) → Same sh x y → Good sh x → Good sh y
good_same sh x y e g = record {
  bits = λ s t m l b. rw (sym (e.cell s t m l b)) (g.bits s t m l b);
  diagonals = λ s m b. rw (sym (diagonal_same sh x y e s m b)) (g.diagonals s m b);
  verticals = λ s m b. rw (sym (vertical_same sh x y e s m (omega (arith, vertical_within sh)))) (g.verticals s m b);
  tail = λ s t m l h p q. sym (e.cell s t m (omega (arith, tail_within sh s)) q) ∙ g.tail s t m l h p q;
}
