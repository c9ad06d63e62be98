-- The record that the encoder makes is the good record of the payload.
use mathlib.Core.Path.{◌≡◌, refl, sym, ap, ◌∙◌}
use mathlib.Core.Logic.{◌≢◌, by_cases}
use mathlib.Core.List.{List}
use Prim.Native.Nat.{ℕ, zero, suc, ◌+◌, ◌*◌, ◌%◌, ◌<◌, ◌≤◌}
use native.Mathlib.Decide.{ℕ_discrete}
use native.Mathlib.Omega.{arith}
use lib.ListN.{get_or}
use Rattle.code.specs.Record.{base, Shape, data_tracks, tracks, track_length, Cells, vertical}
use Rattle.code.specs.declared.sizes.TrackSet.{TrackSet}
use Rattle.code.specs.declared.sizes.TrackSet.TheVariants.{A, B}
use Rattle.code.specs.Image.{track_number, cells}
use Rattle.code.specs.Sizes.{shape}
use Rattle.code.specs.declared.sizes.Sizes.{Sizes}
use Rattle.code.proofs.Sums.{sum_same}
use Rattle.code.proofs.Cell.{vertical_within}
use Rattle.code.proofs.Closings.{closed_tracks}
use Rattle.syndrome.specs.Syndrome.{Image}
use Rattle.syndrome.specs.Steps.{TailZero}
use Rattle.registers.specs.Register.{of_set}
use Rattle.registers.specs.Steps.{Sevens, DataOf, ChecksOf, Carried}
use Rattle.codec.specs.Steps.{Filled, Filling, ChecksPut, GoodRecord}
use Rattle.codec.proofs.Columns.{column, column_lt, column_index, column_number, first_unnumbered, last_unnumbered}
use Rattle.codec.proofs.Filled.{filled_same}
use Rattle.codec.proofs.Checks.{bits_image}

-- What holds of track 0, of the data tracks and of the vertical track holds of all tracks.
by_track : (T : ℕ) (P : ℕ → Type 0) → P 0 → ((c : ℕ) → c < T → P (suc c)) → P (suc T) → (t : ℕ) → t < suc (suc T) → P t
by_track T P first data_track last zero h = first
by_track T P first data_track last (suc c) h = by_cases (ℕ_discrete c T) (λ e. rw e last) (λ d. data_track c (omega arith))

-- No data track is a check track, of its set or of the other.
module _ (sh : Shape) (s d : TrackSet) (c : ℕ) (h : c < data_tracks sh s) where
  not_first : track_number sh s (suc c) ≢ track_number sh d 0
  not_first e = first_unnumbered sh d (column sh s c) (sym e ∙ sym (column_number sh s c h))

  not_last : track_number sh s (suc c) ≢ track_number sh d (suc (data_tracks sh d))
  not_last e = last_unnumbered sh d (column sh s c) (column_lt sh s c h) (sym e ∙ sym (column_number sh s c h))

-- The data tracks stay while the check tracks of a set are written.
data_stay : (sh : Shape) (d : TrackSet) (first before after : List ℕ) → ChecksPut sh d first before after →
    (s : TrackSet) (c m : ℕ) → c < data_tracks sh s → m < track_length sh → cells sh after s (suc c) m ≡ cells sh before s (suc c) m
data_stay sh d first before after p s c m h = p.others _ m (not_first sh s d c h) (not_last sh s d c h)

-- The check tracks of A and then those of B are written.
module _ (sh : Shape) (a b out mid after : List ℕ) (p : ChecksPut sh A a out mid) (q : ChecksPut sh B b mid after) where
  abbrev y : Cells
  y = cells sh after

  -- The data tracks stay.
  data_stays : (s : TrackSet) (c m : ℕ) → c < data_tracks sh s → m < track_length sh → y s (suc c) m ≡ cells sh out s (suc c) m
  data_stays s c m h k = data_stay sh B b mid after q s c m h k ∙ data_stay sh A a out mid p s c m h k

  -- The tracks of A stay while those of B are written.
  a_stays : (t m : ℕ) → t < tracks sh A → m < track_length sh → y A t m ≡ cells sh mid A t m
  a_stays t m h = q.others t m (omega arith) (omega arith)

  -- So tracks 0 are the two stretches, and the verticals are even.
  checks_of : ChecksOf (track_length sh) a b y
  checks_of = record { cell = first }
    where
      first : (s : TrackSet) (m : ℕ) → m < track_length sh → y s 0 m ≡ get_or (of_set s a b) m 0
      first A m h = a_stays 0 m (omega arith) h ∙ p.first m h
      first B m h = q.first m h

  even_vertical : (s : TrackSet) (m : ℕ) → m < track_length sh → vertical sh y s m % 2 ≡ 0
  unfolding vertical
  even_vertical A m h = rw (sum_same (tracks sh A) (λ t. y A t m) (λ t. cells sh mid A t m) (λ t k. a_stays t m k h)) (p.even m h)
  even_vertical B m h = q.even m h

-- The data tracks are written.
module _ (z : Sizes) (n : ℕ) (payload out : List ℕ) (f : Filling (shape z) n (z.t1 + z.t2) payload out) where
  abbrev sh : Shape
  sh = shape z

  abbrev l : ℕ
  l = track_length sh

  abbrev x : Cells
  x = cells sh out

  -- Each data track has its column, and the check tracks are 0.
  track_filled : (s : TrackSet) (c : ℕ) → c < data_tracks sh s → Filled l n (z.t1 + z.t2) (column sh s c) payload (x s (suc c))
  track_filled s c h = rw (column_number sh s c h) at (f.done (column sh s c) (column_lt sh s c h))

  first_blank : (s : TrackSet) (q : ℕ) → q < l → x s 0 q ≡ 0
  first_blank s q = f.rest _ q (λ p h. first_unnumbered sh s p)

  last_blank : (s : TrackSet) (q : ℕ) → q < l → x s (suc (data_tracks sh s)) q ≡ 0
  last_blank s q = f.rest _ q (λ p h. last_unnumbered sh s p h)

  -- The image is one of bits.
  pub filled_image : Image sh out
  filled_image = bits_image sh out f.size bit
    where
      bit : (s : TrackSet) (t m : ℕ) → t < tracks sh s → m < l → x s t m < 2
      bit s t m h b = by_track (data_tracks sh s) (λ t. x s t m < 2) (omega (arith, first_blank s m b)) (λ c k. (track_filled s c k).bit m b) (omega (arith, last_blank s m b)) t h

  -- A record with the same data tracks has those of the payload.
  data_of : z.positions ≡ 8 * n → (y : Cells) → ((s : TrackSet) (c m : ℕ) → c < data_tracks sh s → m < l → y s (suc c) m ≡ x s (suc c) m) → DataOf sh n payload y
  data_of positions y same = record {
    carries = record { byte = λ b s c i h. rw (column_index sh b s c) ((filled s c h).byte b i) };
    bits = bit;
    tail = tail_zero;
  }
    where
      filled : (s : TrackSet) (c : ℕ) → c < data_tracks sh s → Filled l n (z.t1 + z.t2) (column sh s c) payload (y s (suc c))
      filled s c h = filled_same l n _ _ payload _ _ (omega arith) (λ m k. sym (same s c m h k)) (track_filled s c h)

      bit : (s : TrackSet) (t m : ℕ) → 1 ≤ t → t ≤ data_tracks sh s → m < l → y s t m < 2
      bit s zero m i h = absurd (omega arith)
      bit s (suc c) m i h = (filled s c h).bit m

      tail_zero : (s : TrackSet) (t m : ℕ) → 1 ≤ t → t ≤ data_tracks sh s → z.positions ≤ m → m < l → y s t m ≡ 0
      tail_zero s zero m i h o = absurd (omega arith)
      tail_zero s (suc c) m i h o = (filled s c h).rest m (omega arith)

  -- The data tracks are 0 in the tail, and stay so while the check tracks of a set are written.
  pub filled_tails : z.positions ≡ 8 * n → (s : TrackSet) → TailZero sh x s
  filled_tails positions s t i h = record { zero = λ m. (data_of positions x (λ s c m h k. refl)).tail s t m i h }

  pub tails_stay : z.positions ≡ 8 * n → (d : TrackSet) (first after : List ℕ) → ChecksPut sh d first out after → (s : TrackSet) → TailZero sh (cells sh after) s
  tails_stay positions d first after p s t i h = record { zero = λ m. (data_of positions (cells sh after) (data_stay sh d first out after p)).tail s t m i h }

  -- With check tracks the record is the payload's good record.
  module _ (is_base : sh ≡ base n) (a b mid after : List ℕ) (c : Carried n payload a b) (p : ChecksPut sh A a out mid) (q : ChecksPut sh B b mid after) where
    pub good_record : GoodRecord sh n payload after
    good_record =
        let sevens : Sevens sh n = record { t1_seven = ap (λ s. s.t1) is_base; t2_seven = ap (λ s. s.t2) is_base; blocks = ap (λ s. s.positions) is_base } in
        let closed = ap (λ s. s.closing) is_base in
        let d = data_of sevens.blocks (cells sh after) (data_stays sh a b out mid after p q) in
        record {
          good = record {
            bits = λ s t m i h. q.image.bits _;
            diagonals = c.even sh (cells sh after) sevens d (checks_of sh a b out mid after p q);
            verticals = λ s m h. even_vertical sh a b out mid after p q s m (omega (arith, vertical_within sh));
            tail = λ s t m i h. d.tail s t m i (omega (arith, closed_tracks sh closed s));
          };
          carries = d.carries;
        }
