-- The check tracks of a set.
use mathlib.Core.Path.{◌≡◌, refl, ◌∙◌}
use mathlib.Core.Logic.{◌≢◌, by_cases}
use mathlib.Core.List.{List, ◌++◌}
use Prim.Native.Nat.{ℕ, suc, ◌+◌, ◌*◌, ◌-◌, ◌%◌, ◌<◌, ◌≤◌}
use native.Mathlib.Decide.{dec_lt, ℕ_discrete}
use native.Mathlib.Numerals.{add-one}
use native.Mathlib.Omega.{arith}
use lib.ListN.{length, get_or, take, drop}
use lib.Seq.{length-take-le, get_or-take}
use Rattle.code.specs.Record.{Shape, data_tracks, tracks, track_length, back, sum, vertical}
use Rattle.code.specs.declared.sizes.TrackSet.{TrackSet}
use Rattle.code.specs.declared.sizes.TrackSet.TheVariants.{A, B}
use Rattle.code.specs.Image.{track_number, image_size, cells}
use Rattle.code.specs.Calls.{Stays}
use Rattle.code.proofs.Places.{each_cell}
use Rattle.code.proofs.Front.{front_at, front_stays}
use Rattle.code.proofs.Sums.{sum_same, sum_first}
use Rattle.track.specs.Track.{Bits, Added}
use Rattle.track.proofs.Cells.{every}
use Rattle.track.proofs.Parts.{part_at}
use Rattle.syndrome.specs.Syndrome.{Image}
use Rattle.syndrome.specs.Steps.{TailZero}
use Rattle.codec.specs.Steps.{TrackPut, DataAdded, ChecksPut}

-- A list is an image of bits if it has an image's length and its cells are bits.
pub bits_image : (sh : Shape) (xs : List ℕ) → length xs ≡ image_size sh → ((s : TrackSet) (t m : ℕ) → t < tracks sh s → m < track_length sh → cells sh xs s t m < 2) → Image sh xs
bits_image sh xs size bit = record { size = size; bits = every (λ v. v < 2) xs (omega arith) (λ i h. each_cell sh (λ j. get_or xs j 0 < 2) bit i (omega arith)) }

-- An image of bits stays one where a stretch of bits becomes one of its tracks.
pub put_image : (sh : Shape) (g : ℕ) (stretch before after : List ℕ) → Image sh before → Bits stretch → TrackPut (track_length sh) g stretch before after → Image sh after
put_image sh g stretch before after i b p = bits_image sh after (p.size ∙ i.size) (λ s t m h k. by_cases (ℕ_discrete (track_number sh s t) g)
    (λ e. rw (e, p.here m k) (b.bit m))
    (λ d. rw (p.there _ m d k) (i.bits _)))

-- ## Adding the data tracks

-- At first none is added.
pub added_none : (sh : Shape) (s : TrackSet) (image before : List ℕ) → Bits before → DataAdded sh s 0 image before before
unfolding sum
added_none sh s image before b = record { size = refl; bits = b; summed = λ m h. omega (arith, b.bit m) }

-- The next one is added. Its tail is 0, so the cells before it are enough.
module _ (sh : Shape) (s : TrackSet) (n g : ℕ) (image before now sums : List ℕ) (size : length before ≡ track_length sh)
    (e : g ≡ track_number sh s (n + 1)) (h : n < data_tracks sh s) (z : TailZero sh (cells sh image) s) (d : DataAdded sh s n image before now)
    (a : Added (take sh.positions now) (take (g * track_length sh + sh.positions - g * track_length sh) (drop (g * track_length sh) image)) 0 sums) where
  abbrev N : ℕ
  N = sh.positions

  abbrev from : ℕ
  from = g * track_length sh

  abbrev after : List ℕ
  after = sums ++ drop N now

  fits : N ≤ length now
  fits = omega (arith, d.size)

  whole : length sums ≡ N
  whole = a.size ∙ length-take-le N now fits

  rest : Stays N now after
  rest = front_stays N now sums whole fits

  cell : (m : ℕ) → m < N → get_or (take (from + N - from) (drop from image)) m 0 ≡ cells sh image s (suc n) m
  cell m l = part_at image from (from + N - from) m (omega arith) ∙ rw (e, add-one n)

  after_bit : (i : ℕ) → get_or after i 0 < 2
  after_bit i = by_cases (dec_lt i N) (λ l. rw (front_at N now sums whole fits i l) (a.bits i)) (λ l. rw (rest.later i (omega arith)) (d.bits.bit i))

  pub added_more : DataAdded sh s (n + 1) image before after
  unfolding sum back
  added_more = rw (add-one n) (record {
    size = rest.lengths ∙ d.size;
    bits = record { bit = after_bit };
    summed = λ m k. by_cases (dec_lt m N)
        (λ l. omega (arith, front_at N now sums whole fits m l, a.cells m (omega (arith, length-take-le N now fits)), get_or-take N now m 0 l, d.summed m k, cell m l))
        (λ l. omega (arith, rest.later m (omega arith), d.summed m k, (z (suc n) (omega arith) h).zero m (omega arith) k));
  })

-- ## Writing the check tracks

-- The tracks of a set have numbers of their own.
other_number : (sh : Shape) (s : TrackSet) (t u : ℕ) → t ≢ u → track_number sh s t ≢ track_number sh s u
other_number sh A t u d e = d e
other_number sh B t u d e = d (omega arith)

-- The tails of the data tracks stay while track 0 is put.
pub put_tails : (sh : Shape) (s : TrackSet) (first before after : List ℕ) → TrackPut (track_length sh) (track_number sh s 0) first before after →
    TailZero sh (cells sh before) s → TailZero sh (cells sh after) s
put_tails sh s first before after p z t i h = record { zero = λ m o b. p.there _ m (other_number sh s t 0 (omega arith)) b ∙ (z t i h).zero m o b }

-- Track 0 is put, the data tracks are added to it, and the sum is put.
module _ (sh : Shape) (s : TrackSet) (first sums before mid after : List ℕ) (i : Image sh before) (b : Bits first)
    (p : TrackPut (track_length sh) (track_number sh s 0) first before mid) (d : DataAdded sh s (data_tracks sh s) mid first sums)
    (q : TrackPut (track_length sh) (track_number sh s (suc (data_tracks sh s))) sums mid after) where
  abbrev last : ℕ
  last = suc (data_tracks sh s)

  -- All tracks but the last stay while the sum is put.
  stays : (t m : ℕ) → t < last → m < track_length sh → cells sh after s t m ≡ cells sh mid s t m
  stays t m h = q.there _ m (other_number sh s t last (omega arith))

  put_first : (m : ℕ) → m < track_length sh → cells sh after s 0 m ≡ get_or first m 0
  put_first m h = stays 0 m (omega arith) h ∙ p.here m h

  put_even : (m : ℕ) → m < track_length sh → vertical sh (cells sh after) s m % 2 ≡ 0
  unfolding vertical sum
  put_even m h = omega (
    arith,
    sum_first (data_tracks sh s) (λ t. cells sh after s t m),
    put_first m h,
    sum_same (data_tracks sh s) (λ c. cells sh after s (suc c) m) (λ c. cells sh mid s (suc c) m) (λ c k. stays (suc c) m (omega arith) h),
    d.summed m h,
    q.here m h,
  )

  pub checks_put : ChecksPut sh s first before after
  checks_put = record {
    image = put_image sh _ sums mid after (put_image sh _ first before mid i b p) d.bits q;
    first = put_first;
    even = put_even;
    others = λ g m u v h. q.there g m v h ∙ p.there g m u h;
  }
