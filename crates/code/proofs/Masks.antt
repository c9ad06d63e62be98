-- The changed mask, cells and extras are those of the cells that differ.
use mathlib.Core.Path.{◌≡◌, refl, sym, ap, ◌∙◌}
use mathlib.Core.Logic.{◌≢◌, ◌↔◌, by_cases}
use mathlib.Core.Bool.{Bool, true, false, true≢false}
use Prim.Native.Nat.{ℕ, zero, suc, ◌+◌, ◌*◌, ◌-◌, ◌/◌, ◌%◌, ◌^◌, ◌<◌, ◌≤◌}
use native.Mathlib.Decide.{ℕ_discrete}
use native.Mathlib.Nat.{mul-zero, mul-one, mul-add, pow-suc, add-zero, add-suc, add-mul-div_right, div-eq_of_lt}
use native.Mathlib.Omega.{arith}
use borrow.Author.Tests.{eq-eqb, ne_eqb, lt-ltb, le-ltb}
use lib.Dec.{eqb, ltb}
use lib.Pow.{pow_pos, pow-add}
use Rattle.code.specs.Record.{TrackSet, A, B, Shape, tracks, track_length, Cells, sum}
use Rattle.code.specs.Image.{track_number, all_tracks}
use Rattle.code.specs.Flags.{TrackFlags, whole, word_flags, bit, flag_count, AgreeOff}
use Rattle.code.specs.Reach.{pick}
use Rattle.code.specs.Calls.{differ, changed_in, changed_cells, mask_bit, changed_mask}
use Rattle.code.specs.Supply.{Differ}
use Rattle.code.proofs.Places.{number_lt}
use Rattle.code.proofs.Sums.{sum_same, sum_zero, sum_le}

-- ## Cells that differ

differ_le : (x y : ℕ) → differ x y ≤ 1
differ_le x y = go (eqb x y)
  where
    go : (b : Bool) → pick b 0 1 ≤ 1
    go true = omega arith
    go false = omega arith

differ_zero : (x y : ℕ) → differ x y ≡ 0 → x ≡ y
differ_zero x y e = by_cases (ℕ_discrete x y) (λ p. p) (λ d. absurd (omega (arith, rw (ne_eqb x y d) at e)))

sum_ones : (n : ℕ) → sum n (λ t. 1) ≡ n
unfolding sum
sum_ones zero = refl
sum_ones (suc n) = omega (arith, sum_ones n)

-- A sum is 0 only if each term is.
sum_zero_at : (n : ℕ) (f : ℕ → ℕ) → sum n f ≡ 0 → (t : ℕ) → t < n → f t ≡ 0
unfolding sum
sum_zero_at zero f e t l = absurd (omega arith)
sum_zero_at (suc n) f e t l = by_cases (ℕ_discrete t n)
    (λ p. ap f p ∙ omega arith)
    (λ d. sum_zero_at n f (omega arith) t (omega arith))

-- A sum is not 0 only if some term is not.
record Some (n : ℕ) (f : ℕ → ℕ) : Type 0 where
  at : ℕ
  inside : at < n
  nonzero : f at ≢ 0

sum_some : (n : ℕ) (f : ℕ → ℕ) → sum n f ≢ 0 → Some n f
unfolding sum
sum_some zero f d = absurd (d refl)
sum_some (suc n) f d = go (ℕ_discrete (f n) 0) (sum_some n f)
  where
    go : Dec (f n ≡ 0) → (sum n f ≢ 0 → Some n f) → Some (suc n) f
    go (no e) rest = record { at = n; inside = omega arith; nonzero = e }
    go (yes e) rest =
        let k = rest (λ z. d (omega arith)) in
        record { at = k.at; inside = omega arith; nonzero = k.nonzero }

module _ (sh : Shape) (x y : Cells) (s : TrackSet) (t : ℕ) where
  -- A track has at most L changed cells.
  pub changed_in_le : changed_in sh x y s t ≤ track_length sh
  unfolding changed_in
  changed_in_le = omega (arith, sum_le (track_length sh) _ (λ m. 1) (λ m l. differ_le (x s t m) (y s t m)), sum_ones (track_length sh))

  -- It has none exactly if all its cells agree.
  pub unchanged_in : ((m : ℕ) → m < track_length sh → x s t m ≡ y s t m) → changed_in sh x y s t ≡ 0
  unfolding changed_in
  unchanged_in h = sum_zero (track_length sh) _ (λ m l. ap (λ (b : Bool). pick b 0 1) (eq-eqb (x s t m) (y s t m) (h m l)))

  pub unchanged_cells : changed_in sh x y s t ≡ 0 → (m : ℕ) → m < track_length sh → x s t m ≡ y s t m
  unfolding changed_in
  unchanged_cells e m l = differ_zero (x s t m) (y s t m) (sum_zero_at (track_length sh) _ e m l)

  -- It has some exactly if some cell differs.
  pub changed_differ : (changed_in sh x y s t ≢ 0) ↔ Differ sh x y s t
  unfolding changed_in
  changed_differ = (
    λ d.
        let k = sum_some (track_length sh) _ d in
        record { position = k.at; inside = k.inside; unequal = λ e. k.nonzero (ap (λ (b : Bool). pick b 0 1) (eq-eqb _ _ e)) },
    λ c e. c.unequal (unchanged_cells e c.position c.inside),
  )

-- Changed cells never exceed L times the tracks allowed.
sum_times : (n k : ℕ) (f : ℕ → ℕ) → sum n (λ t. k * f t) ≡ k * sum n f
unfolding sum
sum_times zero k f = sym (mul-zero k)
sum_times (suc n) k f = omega (arith, sum_times n k f, mul-add k (sum n f) (f n))

pub changed_cells_le : (sh : Shape) (f : TrackFlags) (x y : Cells) → AgreeOff sh (whole f) x y →
    changed_cells sh x y ≤ track_length sh * (flag_count sh f A + flag_count sh f B)
unfolding changed_cells flag_count
changed_cells_le sh f x y a = omega (arith, of A, of B, mul-add (track_length sh) (flag_count sh f A) (flag_count sh f B))
  where
    track_of : (s : TrackSet) (t : ℕ) → t < tracks sh s → (b : Bool) → f s t ≡ b → changed_in sh x y s t ≤ track_length sh * bit b
    track_of s t l true e = omega (arith, changed_in_le sh x y s t, mul-one (track_length sh))
    track_of s t l false e = omega (arith, unchanged_in sh x y s t (λ m b. a.cell s t m l b e))

    of : (s : TrackSet) → sum (tracks sh s) (changed_in sh x y s) ≤ track_length sh * sum (tracks sh s) (λ t. bit (f s t))
    of s = omega (
      arith,
      sum_le (tracks sh s) (changed_in sh x y s) (λ t. track_length sh * bit (f s t)) (λ t l. track_of s t l (f s t) refl),
      sum_times (tracks sh s) (track_length sh) (λ t. bit (f s t)),
    )

-- ## Bits of the mask

mask_bit_le : (g c : ℕ) → mask_bit g c ≤ 2 ^ g
mask_bit_le g c = go (eqb c 0)
  where
    go : (b : Bool) → pick b 0 (2 ^ g) ≤ 2 ^ g
    go true = omega arith
    go false = omega arith

-- A mask of n tracks has n bits.
mask_lt : (n : ℕ) (c : ℕ → ℕ) → sum n (λ g. mask_bit g (c g)) < 2 ^ n
unfolding sum
mask_lt zero c = omega arith
mask_lt (suc n) c = omega (arith, mask_lt n c, mask_bit_le n (c n), pow-suc 2 n)

-- Bit k of a mask says whether track k has a changed cell.
mask_at : (n : ℕ) (c : ℕ → ℕ) (k : ℕ) → k < n → sum n (λ g. mask_bit g (c g)) / 2 ^ k % 2 ≡ pick (eqb (c k) 0) 0 1
unfolding sum
mask_at zero c k l = absurd (omega arith)
mask_at (suc n) c k l = by_cases (ℕ_discrete k n)
    (λ e. rw e (top (eqb (c n) 0)))
    (λ d. below (eqb (c n) 0) (omega arith) ∙ mask_at n c k (omega arith))
  where
    low : ℕ
    low = sum n (λ g. mask_bit g (c g))

    small : low / 2 ^ n ≡ 0
    small = div-eq_of_lt (mask_lt n c)

    top : (b : Bool) → (low + pick b 0 (2 ^ n)) / 2 ^ n % 2 ≡ pick b 0 1
    top true = rw (add-zero low) (omega (arith, small))
    top false =
        let one : 2 ^ n ≡ 1 * 2 ^ n = omega arith in
        let whole_bit : (low + 2 ^ n) / 2 ^ n ≡ low / 2 ^ n + 1 = ap (λ (v : ℕ). (low + v) / 2 ^ n) one ∙ add-mul-div_right low 1 (pow_pos n) in
        omega (arith, small)

    below : (b : Bool) → k < n → (low + pick b 0 (2 ^ n)) / 2 ^ k % 2 ≡ low / 2 ^ k % 2
    below true h = rw (add-zero low)
    below false h =
        let w = n - suc k in
        let split : 2 ^ n ≡ 2 ^ w * 2 * 2 ^ k = ap (λ (v : ℕ). 2 ^ v) (omega arith) ∙ pow-add 2 (suc w) k ∙ ap (λ (v : ℕ). v * 2 ^ k) (pow-suc 2 w) in
        let shifted : (low + 2 ^ n) / 2 ^ k ≡ low / 2 ^ k + 2 ^ w * 2 = ap (λ (v : ℕ). (low + v) / 2 ^ k) split ∙ add-mul-div_right low (2 ^ w * 2) (pow_pos k) in
        omega arith

-- The mask of both sets as one sum over track numbers.
pub sum_append : (n k : ℕ) (f : ℕ → ℕ) → sum (n + k) f ≡ sum n f + sum k (λ t. f (n + t))
unfolding sum
sum_append n zero f = rw (add-zero n) (sym (add-zero (sum n f)))
sum_append n (suc k) f = rw (add-suc n k) (omega (arith, sum_append n k f))

module _ (sh : Shape) (x y : Cells) where
  -- The changed cells of track number g.
  by_number : ℕ → ℕ
  by_number g = pick (ltb g (tracks sh A)) (changed_in sh x y A g) (changed_in sh x y B (g - tracks sh A))

  number_is : (s : TrackSet) (t : ℕ) → t < tracks sh s → by_number (track_number sh s t) ≡ changed_in sh x y s t
  unfolding by_number
  number_is A t l = rw (lt-ltb t (tracks sh A) l)
  number_is B t l =
      let e : tracks sh A + t - tracks sh A ≡ t = omega arith in
      rw (le-ltb (tracks sh A + t) (tracks sh A) (omega arith), e)

  mask_sum : changed_mask sh x y ≡ sum (all_tracks sh) (λ g. mask_bit g (by_number g))
  unfolding changed_mask
  mask_sum = omega (arith, sum_append (tracks sh A) (tracks sh B) (λ g. mask_bit g (by_number g)), of A, of B)
    where
      of : (s : TrackSet) → sum (tracks sh s) (λ t. mask_bit (track_number sh s t) (changed_in sh x y s t))
          ≡ sum (tracks sh s) (λ t. mask_bit (track_number sh s t) (by_number (track_number sh s t)))
      of s = sum_same (tracks sh s) _ _ (λ t l. ap (mask_bit (track_number sh s t)) (sym (number_is s t l)))

  -- Bit g of the changed mask is set exactly if some cell of track g differs.
  pub mask_exact : (s : TrackSet) (t : ℕ) → t < tracks sh s →
      changed_mask sh x y / 2 ^ track_number sh s t % 2 ≡ pick (eqb (changed_in sh x y s t) 0) 0 1
  mask_exact s t l = rw mask_sum (mask_at (all_tracks sh) by_number (track_number sh s t) (number_lt sh s t l)
      ∙ ap (λ (k : ℕ). pick (eqb k 0) 0 1) (number_is s t l))

  -- It is the flag word of the tracks in which a cell differs.
  pub mask_differ : (s : TrackSet) (t : ℕ) → t < tracks sh s → (word_flags sh (changed_mask sh x y) s t ≡ true) ↔ Differ sh x y s t
  mask_differ s t l = (λ e. (changed_differ sh x y s t).0 (set (ap (λ (v : ℕ). eqb v 1) (sym at) ∙ e)), λ d. ap (λ (v : ℕ). eqb v 1) at ∙ unset ((changed_differ sh x y s t).1 d))
    where
      at : changed_mask sh x y / 2 ^ track_number sh s t % 2 ≡ pick (eqb (changed_in sh x y s t) 0) 0 1
      at = mask_exact s t l

      set : eqb (pick (eqb (changed_in sh x y s t) 0) 0 1) 1 ≡ true → changed_in sh x y s t ≢ 0
      set e z = true≢false (sym e ∙ ap (λ (b : Bool). eqb (pick b 0 1) 1) (eq-eqb _ _ z))

      unset : changed_in sh x y s t ≢ 0 → eqb (pick (eqb (changed_in sh x y s t) 0) 0 1) 1 ≡ true
      unset d = ap (λ (b : Bool). eqb (pick b 0 1) 1) (ne_eqb _ _ d)

  -- The mask has no bit from 18 up.
  pub mask_small : changed_mask sh x y < 2 ^ all_tracks sh
  mask_small = rw mask_sum (mask_lt (all_tracks sh) by_number)
