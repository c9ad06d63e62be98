-- A record of one track: what the rules see of it.
use mathlib.Core.Path.{◌≡◌, refl, sym, ◌∙◌, fun_ext}
use mathlib.Core.Logic.{◌≢◌, by_cases, ite, if_pos, if_neg}
use Prim.Native.Nat.{ℕ, suc, ◌+◌, ◌*◌, ◌-◌, ◌<◌, ◌≤◌}
use native.Mathlib.Decide.{dec_le, ℕ_discrete}
use native.Mathlib.Omega.{arith}
use Rattle.code.specs.Record.{
  TrackSet,
  A,
  B,
  other,
  Shape,
  data_tracks,
  tracks,
  lag,
  track_length,
  Cells,
  back,
  sum,
  diagonal,
  vertical,
}
use Rattle.code.specs.Image.{track_number}
use Rattle.code.specs.Heads.{slope}
use Rattle.code.proofs.Sums.{back_early, back_zero, sum_zero, sum_one}
use Rattle.code.proofs.Mono.{mono, mono_hit, mono_miss}

-- Tracks of which track t holds f and the others are 0.
only : ℕ → (ℕ → ℕ) → ℕ → ℕ → ℕ
only t f v m = mono t v * f m

-- Track t is f.
only_on : (t : ℕ) (f : ℕ → ℕ) → only t f t ≡ f
unfolding only
only_on t f = fun_ext (λ m. rw (mono_hit t t refl) (omega arith))

-- Every other track is 0.
only_off : (t : ℕ) (f : ℕ → ℕ) (v m : ℕ) → t ≢ v → only t f v m ≡ 0
unfolding only
only_off t f v m d = rw (mono_miss t v d) (omega arith)

-- The record that is f on track t of set s and 0 elsewhere.
pub put : TrackSet → ℕ → (ℕ → ℕ) → Cells
put A t f A = only t f
put A t f B = λ v m. 0
put B t f A = λ v m. 0
put B t f B = only t f

-- Track t of set s is f.
pub put_on : (s : TrackSet) (t : ℕ) (f : ℕ → ℕ) → put s t f s t ≡ f
unfolding put
put_on A t f = only_on t f
put_on B t f = only_on t f

-- Every other track is 0.
pub put_off : (s : TrackSet) (t : ℕ) (f : ℕ → ℕ) (u : TrackSet) (v m : ℕ) → (s ≡ u → t ≢ v) → put s t f u v m ≡ 0
unfolding put
put_off A t f A v m d = only_off t f v m (d refl)
put_off A t f B v m d = refl
put_off B t f A v m d = refl
put_off B t f B v m d = only_off t f v m (d refl)

-- Where f is 0, all is 0.
pub put_zero : (s : TrackSet) (t : ℕ) (f : ℕ → ℕ) (u : TrackSet) (v m : ℕ) → f m ≡ 0 → put s t f u v m ≡ 0
unfolding put only
put_zero A t f A v m z = rw z (omega arith)
put_zero A t f B v m z = refl
put_zero B t f A v m z = refl
put_zero B t f B v m z = rw z (omega arith)

-- The lag is the greatest slope.
pub slope_small : (sh : Shape) (d s : TrackSet) (t : ℕ) → t ≤ data_tracks sh s → slope sh d s t ≤ lag sh
slope_small sh A A t h = omega arith
slope_small sh A B t h = omega arith
slope_small sh B A t h = omega arith
slope_small sh B B t h = omega arith

-- How far before m the diagonal of set d at m meets track t of set s. The vertical track lies on no diagonal: no cell is so far back.
pub offset : Shape → TrackSet → TrackSet → ℕ → ℕ
offset sh d s t = ite (dec_le t (data_tracks sh s)) (slope sh d s t) (track_length sh)

-- A track that is no vertical one is met at its slope.
offset_in : (sh : Shape) (d s : TrackSet) (t : ℕ) → t ≤ data_tracks sh s → offset sh d s t ≡ slope sh d s t
unfolding offset
offset_in sh d s t h = if_pos (dec_le _ _) h _ _

-- A vertical track is not met.
pub offset_vertical : (sh : Shape) (d s : TrackSet) (t : ℕ) → data_tracks sh s < t → offset sh d s t ≡ track_length sh
unfolding offset
offset_vertical sh d s t h = let n : ¬ (t ≤ data_tracks sh s) = omega arith in if_neg (dec_le _ _) n _ _

-- The offsets of a track that is no vertical one: on its own set's diagonal and on the other's.
pub offset_both : (sh : Shape) (s : TrackSet) (t : ℕ) → t ≤ data_tracks sh s → (offset sh s s t ≡ t) × (offset sh (other s) s t ≡ lag sh - t)
offset_both sh A t h = (offset_in sh A A t h, offset_in sh B A t h)
offset_both sh B t h = (offset_in sh B B t h, offset_in sh A B t h)

-- Where a diagonal meets a track at all, it is at most the lag back.
pub offset_small : (sh : Shape) (d s : TrackSet) (t : ℕ) → offset sh d s t < track_length sh → offset sh d s t ≤ lag sh
offset_small sh d s t h = by_cases (dec_le t (data_tracks sh s))
    (λ l. rw (offset_in sh d s t l) (slope_small sh d s t l))
    (λ l. absurd (omega (arith, offset_vertical sh d s t (omega arith))))

-- What a diagonal sums over the track's set: the cell that it meets, or nothing.
module _ (t : ℕ) (f k : ℕ → ℕ) (m : ℕ) where
  back_off : (v : ℕ) → t ≢ v → back (only t f v) m (k v) ≡ 0
  back_off v d = back_zero (only t f v) m (k v) (λ p e. only_off t f v p d)

  met : (n far : ℕ) → m < far → (l : Dec (t ≤ n)) → sum (suc n) (λ v. back (only t f v) m (k v)) ≡ back f m (ite l (k t) far)
  met n far b (yes l) = sum_one _ t _ (omega arith) (λ v h d. back_off v (omega arith)) ∙ rw (only_on t f)
  met n far b (no l) = sum_zero _ _ (λ v h. back_off v (omega arith)) ∙ sym (back_early f m far b)

-- And over the other set.
unmet : (n : ℕ) (k : ℕ → ℕ) (m : ℕ) → sum n (λ v. back (λ p. 0) m (k v)) ≡ 0
unmet n k m = sum_zero n _ (λ v h. back_zero (λ p. 0) m (k v) (λ p e. refl))

-- A diagonal of the record is the one cell that it meets.
pub diagonal_put : (sh : Shape) (s : TrackSet) (t : ℕ) (f : ℕ → ℕ) (d : TrackSet) (m : ℕ) → m < track_length sh → diagonal sh (put s t f) d m ≡ back f m (offset sh d s t)
unfolding diagonal put offset
diagonal_put sh A t f A m b = omega (arith, met t f (λ v. v) m sh.t1 (track_length sh) b (dec_le t sh.t1), unmet (suc sh.t2) (λ v. lag sh - v) m)
diagonal_put sh A t f B m b = omega (arith, met t f (λ v. lag sh - v) m sh.t1 (track_length sh) b (dec_le t sh.t1), unmet (suc sh.t2) (λ v. v) m)
diagonal_put sh B t f A m b = omega (arith, met t f (λ v. lag sh - v) m sh.t2 (track_length sh) b (dec_le t sh.t2), unmet (suc sh.t1) (λ v. v) m)
diagonal_put sh B t f B m b = omega (arith, met t f (λ v. v) m sh.t2 (track_length sh) b (dec_le t sh.t2), unmet (suc sh.t1) (λ v. lag sh - v) m)

-- A vertical sees no difference between the tracks of a set: it is f on either.
vertical_only : (n t : ℕ) (f : ℕ → ℕ) (m : ℕ) → t < n → sum n (λ v. only t f v m) ≡ f m
vertical_only n t f m h = sum_one n t _ h (λ v l d. only_off t f v m (omega arith)) ∙ rw (only_on t f)

pub vertical_put : (sh : Shape) (s : TrackSet) (i j : ℕ) (f : ℕ → ℕ) (u : TrackSet) (m : ℕ) → i < tracks sh s → j < tracks sh s →
    vertical sh (put s i f) u m ≡ vertical sh (put s j f) u m
unfolding vertical put
vertical_put sh A i j f A m hi hj = vertical_only _ i f m hi ∙ sym (vertical_only _ j f m hj)
vertical_put sh A i j f B m hi hj = refl
vertical_put sh B i j f A m hi hj = refl
vertical_put sh B i j f B m hi hj = vertical_only _ i f m hi ∙ sym (vertical_only _ j f m hj)

-- The vertical of the track's set is f, and that of the other set is 0.
pub vertical_on : (sh : Shape) (s : TrackSet) (t : ℕ) (f : ℕ → ℕ) (m : ℕ) → t < tracks sh s → vertical sh (put s t f) s m ≡ f m
unfolding vertical put
vertical_on sh A t f m h = vertical_only _ t f m h
vertical_on sh B t f m h = vertical_only _ t f m h

pub vertical_off : (sh : Shape) (s : TrackSet) (t : ℕ) (f : ℕ → ℕ) (m : ℕ) → vertical sh (put s t f) (other s) m ≡ 0
unfolding vertical put
vertical_off sh A t f m = sum_zero _ _ (λ v h. refl)
vertical_off sh B t f m = sum_zero _ _ (λ v h. refl)

-- Two single cells are the same where they are met alike.
pub mono_same : (e m e' m' : ℕ) → (e ≡ m → e' ≡ m') → (e' ≡ m' → e ≡ m) → mono e m ≡ mono e' m'
mono_same e m e' m' f g = by_cases (ℕ_discrete e m)
    (λ h. mono_hit e m h ∙ sym (mono_hit e' m' (f h)))
    (λ d. mono_miss e m d ∙ sym (mono_miss e' m' (λ h. d (g h))))

-- The record by track numbers.
pub put_number : (sh : Shape) (s : TrackSet) (t : ℕ) (f : ℕ → ℕ) (u : TrackSet) (v m : ℕ) → t < tracks sh s → v < tracks sh u →
    put s t f u v m ≡ mono (track_number sh s t) (track_number sh u v) * f m
unfolding put only
put_number sh A t f A v m h k = refl
put_number sh A t f B v m h k = rw (mono_miss t (tracks sh A + v) (omega arith)) (omega arith)
put_number sh B t f A v m h k = rw (mono_miss (tracks sh A + t) v (omega arith)) (omega arith)
put_number sh B t f B v m h k = rw (mono_same t v (tracks sh A + t) (tracks sh A + v) (λ e. omega arith) (λ e. omega arith))
