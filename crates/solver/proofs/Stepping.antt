-- One set is solved at one position: the plan's tracks one after the other.
use mathlib.Core.Path.{◌≡◌, ◌∙◌}
use mathlib.Core.Logic.{◌≢◌, by_cases}
use mathlib.Core.Bool.{true, false}
use mathlib.Core.List.{List}
use Prim.Native.Nat.{ℕ, zero, suc, ◌+◌, ◌-◌, ◌<◌, ◌≤◌, ◌%◌}
use native.Mathlib.Decide.{dec_lt}
use native.Mathlib.Omega.{arith}
use borrow.Author.Tests.{lt-ltb, le-ltb}
use Rattle.std.specs.Prelude.{Some}
use Rattle.code.specs.declared.sizes.TrackSet.{TrackSet}
use Rattle.code.specs.declared.sizes.TrackSet.TheVariants.{A, B}
use Rattle.code.specs.Record.{other, Shape, data_tracks, tracks, lag, track_length, Cells, diagonal, Good}
use Rattle.code.specs.Image.{cells}
use Rattle.code.specs.Flags.{TrackFlags}
use Rattle.code.specs.Sizes.{shape}
use Rattle.code.specs.declared.sizes.Sizes.{Sizes}
use Rattle.code.proofs.Closings.{is_closed, closed_end}
use Rattle.code.proofs.Cell.{vertical_data, tail_data, by_vertical}
use Rattle.code.proofs.Solving.{check_track, lowest_cell, highest_cell}
use Rattle.solver.specs.declared.Plan.{Plan}
use Rattle.solver.specs.declared.Rule.TheVariants.{Own, Other, Vertical}
use Rattle.solver.specs.Solver.{Named, is_low, is_high, is_last}
use Rattle.solver.specs.Steps.{Settled, tail_sum, By, ByTail, Still, Made, Fits, Known, Stepped}
use Rattle.solver.proofs.Sets.{same_track, track_is}
use Rattle.solver.proofs.Settling.{RightCell, right_cell}

-- What is right stays right: through two steps, and what a step goes by.
pub still_both : {sh : Shape} {y x x' x'' : Cells} → Still sh y x x' → Still sh y x' x'' → Still sh y x x''
still_both v w = record { cell = λ s t q l h e. w.cell s t q l h (v.cell s t q l h e) }

pub still_known : {sh : Shape} {f : TrackFlags} {s : TrackSet} {p : Plan} {y x x' : Cells} {m : ℕ} → m < track_length sh → Still sh y x x' →
    Known sh f s p y x m → Known sh f s p y x' m
still_known {s = s} {m = m} b w k = record {
  before = λ c t q l h. w.cell c t q l (omega arith) (k.before c t q l h);
  rest = λ t l n. w.cell s t m l b (k.rest t l n);
  clear = λ d c t q l e u v. w.cell c t q l (omega arith) (k.clear d c t q l e u v);
  across = λ d i h j t q l u v. w.cell (other s) t q l (omega arith) (k.across d i h j t q l u v);
}

-- ## One cell by one rule

module _ (sh : Shape) (f : TrackFlags) (y : Cells) (gy : Good sh y) (s : TrackSet) (p : Plan) (fits : Fits sh f s p) (m : ℕ) where
  -- The lowest flagged track, by its own diagonal.
  low_cell : (x : Cells) → m < sh.positions → Known sh f s p y x m → (i : ℕ) → p.low ≡ Some i → i < tracks sh s → y s i m ≡ (x s i m + diagonal sh x s (m + i)) % 2
  low_cell x b r i e l = lowest_cell sh x y gy m r.before b (λ c t. f c t ≡ false) (r.clear b) s i (fits.low_data i e l) (fits.below i e l)

  -- The highest flagged data track, by the other set's.
  high_cell : (x : Cells) → m < sh.positions → Known sh f s p y x m → (k : ℕ) → p.high ≡ Some k → k < tracks sh s →
      y s k m ≡ (x s k m + diagonal sh x (other s) (m + (lag sh - k))) % 2
  high_cell x b r k e l = let d = fits.high_data k e l in go s k d.0 d.1 (fits.above k e l) (r.across b k e l)
    where
      go : (c : TrackSet) (k : ℕ) → 0 < k → k ≤ data_tracks sh c → ((t : ℕ) → k < t → t ≤ data_tracks sh c → f c t ≡ false) →
          ((t q : ℕ) → t < tracks sh (other c) → m ≤ q → q < m + lag sh → x (other c) t q ≡ y (other c) t q) →
          y c k m ≡ (x c k m + diagonal sh x (other c) (m + (lag sh - k))) % 2
      go A k j h u a = highest_cell sh x y gy m r.before b (λ c t. f c t ≡ false) (r.clear b) B k j h u (λ q i v t l. a t q l i v)
      go B k j h u a = highest_cell sh x y gy m r.before b (λ c t. f c t ≡ false) (r.clear b) A k j h u (λ q i v t l. a t q l i v)

-- After the lowest and the highest all tracks but the last are right at m.
module _ (sh : Shape) (f : TrackFlags) (y : Cells) (s : TrackSet) (p : Plan) (m : ℕ) (x x' x'' : Cells) (b : m < track_length sh)
    (r : Known sh f s p y x m) (v : RightCell sh y x x' s p.low m) (w : RightCell sh y x' x'' s p.high m) where
  rest_cells : (t : ℕ) → t < tracks sh s → (p.last ≡ Some t → ⊥) → x'' s t m ≡ y s t m
  rest_cells t l n = by_cases (track_is p.high t)
      (λ e. w.cell t e l)
      (λ d. w.still.cell s t m l b (by_cases (track_is p.low t)
      (λ e. v.cell t e l)
      (λ k. v.still.cell s t m l b (r.rest t l (λ i. none k d i)))))
    where
      none : (p.low ≡ Some t → ⊥) → (p.high ≡ Some t → ⊥) → Named p t → ⊥
      none k d (is_low e) = k e
      none k d (is_high e) = d e
      none k d (is_last e) = n e

  -- And with the last one all are.
  all_cells : (x''' : Cells) → RightCell sh y x'' x''' s p.last m → Made sh y x x''' s m
  all_cells x''' u = record {
    still = still_both v.still (still_both w.still u.still);
    cell = λ t l. by_cases (track_is p.last t) (λ e. u.cell t e l) (λ n. u.still.cell s t m l b (rest_cells t l n));
  }

-- ## In the code

-- Only the plan's tracks are changed, at m alone.
stepped : {z : Sizes} {s : TrackSet} {p : Plan} {m : ℕ} {d₁ d₂ d₃ : ℕ → ℕ} {o₀ o₁ o₂ o₃ n₁ n₂ n₃ : List ℕ} →
    Settled z s p.low m d₁ o₀ o₁ n₁ → Settled z s p.high m d₂ o₁ o₂ n₂ → Settled z s p.last m d₃ o₂ o₃ n₃ →
    ((f : TrackFlags) (y : Cells) → Fits (shape z) f s p → Good (shape z) y → Known (shape z) f s p y (cells (shape z) o₀) m →
    Made (shape z) y (cells (shape z) o₀) (cells (shape z) o₃) s m) → Stepped z s p m o₀ o₃ n₃
stepped v w u h = record {
  kept = u.kept;
  only = λ r t q l b n. u.there r t q l b (λ i j k. n i (is_last j) k) ∙ w.there r t q l b (λ i j k. n i (is_high j) k) ∙ v.there r t q l b (λ i j k. n i (is_low j) k);
  made = h;
}

-- A position of the data.
pub stepped_data : {z : Sizes} {s : TrackSet} {p : Plan} {m : ℕ} {o₀ o₁ o₂ o₃ n₁ n₂ n₃ : List ℕ} → m < z.positions →
    By Own z s p.low m o₀ o₁ n₁ → By Other z s p.high m o₁ o₂ n₂ → By Vertical z s p.last m o₂ o₃ n₃ → Stepped z s p m o₀ o₃ n₃
stepped_data {z} {s} {p} {m} {o₀} {o₁} {o₂} {o₃} b v w u = stepped v w u (λ f y fits good known.
    let sh : Shape = shape z in
    let v' = right_cell y v (low_cell sh f y good s p fits m (cells sh o₀) b known) in
    let w' = right_cell y w (high_cell sh f y good s p fits m (cells sh o₁) b (still_known (omega arith) v'.still known)) in
    let e = rest_cells sh f y s p m (cells sh o₀) (cells sh o₁) (cells sh o₂) (omega arith) known v' w' in
    all_cells sh f y s p m (cells sh o₀) (cells sh o₁) (cells sh o₂) (omega arith) known v' w' (cells sh o₃)
    (right_cell y u (λ t d l. by_vertical sh (cells sh o₂) y good s t m l (omega (arith, vertical_data sh)) (λ i k n. e i k (λ j. n (same_track j d))))))

-- A cell of the tail.
tail_cell : (z : Sizes) (x y : Cells) → z.closed ≡ true → Good (shape z) y → (s : TrackSet) (t m : ℕ) → z.positions ≤ m → m < track_length (shape z) →
    ((c : TrackSet) (u q : ℕ) → u < tracks (shape z) c → q < m → x c u q ≡ y c u q) → t < tracks (shape z) s →
    (t ≡ suc (data_tracks (shape z) s) → (u : ℕ) → u < tracks (shape z) s → u ≢ t → x s u m ≡ y s u m) →
    y s t m ≡ (x s t m + tail_sum (shape z) x s t m) % 2
unfolding tail_sum
tail_cell z x y closed good s zero m k b before l rest = check_track (shape z) x y good m before b s
tail_cell z x y closed good s (suc t) m k b before l rest = by_cases (dec_lt t (data_tracks (shape z) s))
    (λ h. rw (lt-ltb _ _ h) (omega (arith, good.tail s (suc t) m (omega arith) (omega (arith, tail_data (shape z) s)) k b)))
    (λ h. rw (le-ltb t (data_tracks (shape z) s) (omega arith)) (by_vertical (shape z) x y good s (suc t) m l (omega (arith, closed_end (shape z) (is_closed z closed))) (rest (omega arith))))

-- A position of the tail.
pub stepped_tail : {z : Sizes} {s : TrackSet} {p : Plan} {m : ℕ} {o₀ o₁ o₂ o₃ n₁ n₂ n₃ : List ℕ} → z.closed ≡ true → z.positions ≤ m → m < track_length (shape z) →
    ByTail z s p.low m o₀ o₁ n₁ → ByTail z s p.high m o₁ o₂ n₂ → ByTail z s p.last m o₂ o₃ n₃ → Stepped z s p m o₀ o₃ n₃
stepped_tail {z} {s} {p} {m} {o₀} {o₁} {o₂} {o₃} closed k b v w u = stepped v w u (λ f y fits good known.
    let sh : Shape = shape z in
    let v' = right_cell y v (λ t d l. tail_cell z (cells sh o₀) y closed good s t m k b known.before l (λ e. absurd (omega (arith, fits.low_data t d l)))) in
    let known₁ = still_known b v'.still known in
    let w' = right_cell y w (λ t d l. tail_cell z (cells sh o₁) y closed good s t m k b known₁.before l (λ e. absurd (omega (arith, (fits.high_data t d l).1)))) in
    let known₂ = still_known b w'.still known₁ in
    let e = rest_cells sh f y s p m (cells sh o₀) (cells sh o₁) (cells sh o₂) b known v' w' in
    all_cells sh f y s p m (cells sh o₀) (cells sh o₁) (cells sh o₂) b known v' w' (cells sh o₃)
    (right_cell y u (λ t d l. tail_cell z (cells sh o₂) y closed good s t m k b known₂.before l (λ _ i h n. e i h (λ j. n (same_track j d))))))
