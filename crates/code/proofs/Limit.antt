-- Too many flagged tracks are too many: they hide a good record that is not all 0.
use mathlib.Core.Path.{◌≡◌, refl}
use mathlib.Core.Bool.{Bool, true, false}
use mathlib.Core.Logic.{◌≢◌, by_cases}
use Prim.Native.Nat.{ℕ, zero, suc, ◌+◌, ◌<◌, ◌≤◌}
use native.Mathlib.Decide.{dec_le}
use native.Mathlib.Omega.{arith}
use Rattle.code.specs.Record.{TrackSet, A, B, other, Shape, tracks, lag, Cells, sum, Good, Same, blank}
use Rattle.code.specs.Flags.{TrackFlags, whole, bit, flag_count, AgreeOff}
use Rattle.code.specs.Reach.{Ambiguous}
use Rattle.code.proofs.Linear.{bits_of, plus, good_plus, good_blank}
use Rattle.code.proofs.Pairs.{Flagged, Pair, web, web_good, web_unflagged, web_last}
use Rattle.code.proofs.Peak.{peak}

-- A good record that is not all 0, and is 0 on each track that is not flagged.
pub record Hidden (sh : Shape) (f : TrackFlags) : Type 0 where
  pub cells : Cells
  pub good : Good sh cells
  pub outside : (s : TrackSet) (t m : ℕ) → f s t ≡ false → cells s t m ≡ 0
  pub set : TrackSet
  pub track : ℕ
  pub position : ℕ
  pub has_track : track < tracks sh set
  pub has_position : position < sh.positions
  pub nonzero : cells set track position ≡ 1

module _ (sh : Shape) (f : TrackFlags) (s : TrackSet) where
  -- The last flagged track before n, with at least c flagged tracks before it.
  record Last (n c : ℕ) : Type 0 where
    track : Flagged sh f s
    before : track.at < n
    more : c ≤ sum track.at (λ t. bit (f s t))

  -- There is one, if more than c tracks before n are flagged.
  last : (n c : ℕ) → n ≤ tracks sh s → c < sum n (λ t. bit (f s t)) → Last n c
  unfolding sum
  last zero c b h = absurd (omega arith)
  last (suc n) c b h = go (f s n) refl (last n c (omega arith))
    where
      go : (x : Bool) → f s n ≡ x → (c < sum n (λ t. bit (f s t)) → Last n c) → Last (suc n) c
      go true e rest = record { track = record { at = n; inside = b; flag = e }; before = omega arith; more = omega (arith, rw e at h) }
      go false e rest =
          let l = rest (omega (arith, rw e at h)) in
          record { track = l.track; before = omega arith; more = l.more }

  -- The last flagged track of the set.
  last_of_all : (c : ℕ) → c < flag_count sh f s → Last (tracks sh s) c
  unfolding flag_count
  last_of_all c h = last (tracks sh s) c (omega arith) h

  -- The flagged track before a last one.
  earlier : {n c : ℕ} (l : Last n (suc c)) → Last l.track.at c
  earlier {n} {c} l = last l.track.at c (omega arith) l.more

-- The sets are two.
other_not : (s : TrackSet) → s ≢ other s
other_not A e = let z : ◌≡◌ {A = ℕ} 0 1 = cc in omega arith
other_not B e = let z : ◌≡◌ {A = ℕ} 0 1 = cc in omega arith

module _ (sh : Shape) (f : TrackFlags) (n : lag sh + lag sh < sh.positions) where
  -- Three flagged tracks of one set, and a pair of which one is none of the three.
  hidden : (s : TrackSet) (i j k : Flagged sh f s) → i.at < j.at → j.at < k.at →
      (r : Pair sh f) → r.one.at < r.two.at → (s ≡ r.set → k.at < r.two.at) → Hidden sh f
  hidden s i j k ij jk r d far =
      let p : Pair sh f = record { set = s; one = i; two = j } in
      let q : Pair sh f = record { set = s; one = j; two = k } in
      let top = peak sh s i.at j.at k.at ij jk k.inside n in
      record {
        cells = bits_of (web p q r);
        good = web_good p q r n;
        outside = λ u t m e. rw (web_unflagged p q r u t m e);
        set = r.set;
        track = r.two.at;
        position = top.position;
        has_track = r.two.inside;
        has_position = top.early;
        nonzero = rw (web_last p q r top.position (omega arith) (λ e. omega (arith, far e)) (λ e. omega (arith, far e)), top.one);
      }

  -- Four flagged tracks of one set: the pair is the first and the last of them.
  in_one_set : (s : TrackSet) → 4 ≤ flag_count sh f s → Hidden sh f
  in_one_set s h =
      let l = last_of_all sh f s 3 h in
      let k = earlier sh f s l in
      let j = earlier sh f s k in
      let i = earlier sh f s j in
      let r : Pair sh f = record { set = s; one = i.track; two = l.track } in
      hidden s i.track j.track k.track i.before j.before r (omega arith) (λ e. k.before)

  -- Three flagged tracks of one set, and a pair of the other.
  in_both_sets : (s : TrackSet) → 3 ≤ flag_count sh f s → 2 ≤ flag_count sh f (other s) → Hidden sh f
  in_both_sets s h h' =
      let k = last_of_all sh f s 2 h in
      let j = earlier sh f s k in
      let i = earlier sh f s j in
      let y = last_of_all sh f (other s) 1 h' in
      let x = earlier sh f (other s) y in
      let r : Pair sh f = record { set = other s; one = x.track; two = y.track } in
      hidden s i.track j.track k.track i.before j.before r x.before (λ e. absurd (other_not s e))

-- Another good record that agrees with x on all unflagged tracks.
pub record Twin (sh : Shape) (f : TrackFlags) (x : Cells) : Type 0 where
  pub cells : Cells
  pub good : Good sh cells
  pub agree : AgreeOff sh (whole f) x cells
  pub differ : Same sh x cells → ⊥

-- Where a record is hidden, every good record has a twin: their sum.
pub twin : (sh : Shape) (f : TrackFlags) (x : Cells) → Hidden sh f → Good sh x → Twin sh f x
twin sh f x h g = record {
  cells = plus x h.cells;
  good = good_plus sh x h.cells g h.good;
  agree = record { cell = λ s t m l b e. omega (arith, h.outside s t m e, g.bits s t m l b) };
  differ = λ e. omega (arith, e.cell h.set h.track h.position h.has_track (omega arith), h.nonzero);
}

-- More than three flagged tracks in a set or more than four in all, for either closing of the tail.
module _ (sh : Shape) (f : TrackFlags) (n : lag sh + lag sh < sh.positions)
    (past : (flag_count sh f A ≤ 3) × (flag_count sh f B ≤ 3) × (flag_count sh f A + flag_count sh f B ≤ 4) → ⊥) where
  -- Such flags hide a record.
  pub past_limit : Hidden sh f
  past_limit = by_cases (dec_le 4 (flag_count sh f A)) (in_one_set sh f n A) (λ a.
      by_cases (dec_le 4 (flag_count sh f B)) (in_one_set sh f n B) (λ b.
      by_cases (dec_le (flag_count sh f A + flag_count sh f B) 4) (λ c. absurd (past (omega arith))) (λ c.
      by_cases (dec_le 3 (flag_count sh f A))
      (λ d. in_both_sets sh f n A d (omega arith))
      (λ d. in_both_sets sh f n B (omega arith) (omega arith)))))

  -- So nothing tells that record from the all-zero one.
  pub past_limit_ambiguous : Ambiguous sh f
  past_limit_ambiguous =
      let t = twin sh f blank past_limit (good_blank sh) in
      record { one = blank; two = t.cells; good_one = good_blank sh; good_two = t.good; agree = t.agree; differ = t.differ }
