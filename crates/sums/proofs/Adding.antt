-- The sums of a run: of nothing, and with a track more.
use mathlib.Core.Path.{◌≡◌, refl, sym, ap, ◌∙◌}
use mathlib.Core.List.{List}
use Prim.Native.Nat.{ℕ, suc, ◌+◌, ◌-◌, ◌%◌, ◌<◌, ◌≤◌}
use native.Mathlib.Numerals.{add-one}
use native.Mathlib.Omega.{arith}
use lib.Bits.{bit_xor, xor_add_and, xor_lt}
use lib.ListN.{get_or, replicate, length-replicate, get_or-replicate}
use Rattle.code.specs.Record.{Shape, data_tracks, tracks, lag, Cells, sum, diagonal, vertical}
use Rattle.code.specs.declared.sizes.TrackSet.{TrackSet}
use Rattle.code.specs.declared.sizes.TrackSet.TheVariants.{A, B}
use Rattle.code.specs.Heads.{slope, share, running, before, after}
use Rattle.code.specs.Image.{cells}
use Rattle.code.proofs.Sums.{back_at}
use Rattle.code.proofs.OneTrack.{slope_small}
use Rattle.code.proofs.Heads.{share_on, share_off, head_order}
use Rattle.sums.specs.Run.{SumsOf, TrackRun}

-- Only what f is at the run's positions counts.
sums_as : (f g : ℕ → ℕ) (m : ℕ) (run : List ℕ) → ((p : ℕ) → f p ≡ g p) → SumsOf f m run → SumsOf g m run
sums_as f g m run e s = record { size = s.size; at = λ k h. s.at k h ∙ ap (λ v. v % 2) (e (m + k)) }

-- Bits are added modulo 2.
xor_sum : (a f b : ℕ) → a ≡ f % 2 → b < 2 → bit_xor a b ≡ (f + b) % 2
xor_sum a f b e h = let l : a < 2 = omega arith in omega (arith, xor_add_and a b, xor_lt 1 a b l h)

-- To the sums of f the cells of a track are added, which are g there.
sums_more : (f g x : ℕ → ℕ) (m : ℕ) (run next : List ℕ) (from : ℕ) → SumsOf f m run → ((i : ℕ) → x i < 2) →
    ((k : ℕ) → k < 64 → x (from + k) ≡ g (m + k)) → TrackRun x from run next → SumsOf (λ p. f p + g p) m next
sums_more f g x m run next from s bits e a = record {
  size = a.size;
  at = λ k h. a.at k h ∙ xor_sum _ (f (m + k)) _ (s.at k h) (bits (from + k)) ∙ ap (λ v. (f (m + k) + v) % 2) (e k h);
}

-- A run of zeros.
zero_run : (f : ℕ → ℕ) (m : ℕ) → ((p : ℕ) → f p ≡ 0) → SumsOf f m (replicate 64 0)
zero_run f m e = record { size = length-replicate {A = ℕ} 64 0; at = λ k h. get_or-replicate 64 k 0 0 h ∙ sym (ap (λ v. v % 2) (e (m + k))) }

module _ (sh : Shape) (image : List ℕ) where
  abbrev x : Cells
  x = cells sh image

  -- Where the diagonal of set d has a track, it has the track's share.
  head_cell : (d s : TrackSet) (t m k : ℕ) → t ≤ data_tracks sh s → lag sh ≤ m → x s t (m - slope sh d s t + k) ≡ share sh x d s t (m + k)
  head_cell d s t m k h b =
      let small = slope_small sh d s t h in
      sym (share_on sh x d s t (m + k) h ∙ back_at (x s t) (m - slope sh d s t + k) (slope sh d s t) (m + k) (omega arith))

  -- What `add_head` gives: a track past T adds nothing, another its share.
  pub head_past : (d s : TrackSet) (t m : ℕ) (run : List ℕ) → data_tracks sh s < t → SumsOf (before sh x d s t) m run → SumsOf (after sh x d s t) m run
  head_past d s t m run h = sums_as (before sh x d s t) (after sh x d s t) m run (λ p. omega (arith, share_off sh x d s t p h))

  pub head_added : (d s : TrackSet) (t m : ℕ) (run next : List ℕ) → t ≤ data_tracks sh s → lag sh ≤ m → ((i : ℕ) → get_or image i 0 < 2) →
      SumsOf (before sh x d s t) m run → TrackRun (x s t) (m - slope sh d s t) run next → SumsOf (after sh x d s t) m next
  head_added d s t m run next h b bits s₀ a =
      sums_more (before sh x d s t) (share sh x d s t) (x s t) m run next (m - slope sh d s t) s₀ (λ i. bits _) (λ k c. head_cell d s t m k h b) a

  -- Track t of B after track t of A: the running sum has a track of each set more.
  pub both_added : (d : TrackSet) (t m : ℕ) (run : List ℕ) → SumsOf (after sh x d B t) m run → SumsOf (running sh x d (suc t)) m run
  unfolding running
  both_added d t m run s = s

  -- Before the first track the running sum is 0, and when the last has arrived it is the diagonal.
  pub none_arrived : (d : TrackSet) (m : ℕ) → SumsOf (running sh x d 0) m (replicate 64 0)
  unfolding running
  none_arrived d m = zero_run _ m (λ p. refl)

  pub all_arrived : (d : TrackSet) (n m : ℕ) (run : List ℕ) → data_tracks sh A < n → data_tracks sh B < n → SumsOf (running sh x d n) m run → SumsOf (diagonal sh x d) m run
  all_arrived d n m run a b = sums_as (running sh x d n) (diagonal sh x d) m run (λ p. (head_order sh x d p).whole n a b)

  -- The vertical over the first t tracks of a set.
  abbrev pub some_tracks : TrackSet → ℕ → ℕ → ℕ
  some_tracks s t p = sum t (λ u. x s u p)

  pub no_tracks : (s : TrackSet) (m : ℕ) → SumsOf (some_tracks s 0) m (replicate 64 0)
  unfolding sum
  no_tracks s m = zero_run _ m (λ p. refl)

  pub track_more : (s : TrackSet) (t m : ℕ) (run next : List ℕ) → ((i : ℕ) → get_or image i 0 < 2) →
      SumsOf (some_tracks s t) m run → TrackRun (x s t) m run next → SumsOf (some_tracks s (t + 1)) m next
  unfolding sum
  track_more s t m run next bits s₀ a = rw add-one (sums_more (some_tracks s t) (x s t) (x s t) m run next m s₀ (λ i. bits _) (λ k c. refl) a)

  pub all_tracks_in : (s : TrackSet) (m : ℕ) (run : List ℕ) → SumsOf (some_tracks s (tracks sh s)) m run → SumsOf (vertical sh x s) m run
  unfolding vertical
  all_tracks_in s m run h = h
