-- Flagged tracks, sorted.
use Rattle.std.specs.Prelude.{◌≡◌, ◌≢◌, true, false, List, [], ◌∷◌, ℕ, zero, suc, ◌<◌, ◌≤◌, ltb, Option, None, Some}
use Rattle.code.specs.declared.sizes.TrackSet.{TrackSet}
use Rattle.code.specs.declared.sizes.TrackSet.TheVariants.{A, B}
use Rattle.code.specs.Record.{Closing, closed_tail, open_tail, Shape, data_tracks, tracks, track_length, vertical_end}
use Rattle.code.specs.Flags.{TrackFlags, flag_count, Within}
use Rattle.code.specs.Reach.{pick}
use Rattle.code.specs.Sizes.{shape}
use Rattle.code.specs.declared.sizes.Sizes.{Sizes}
use Rattle.plans.specs.declared.Three.{Three}
use Rattle.plans.specs.declared.Pivot.{Pivot}
use Rattle.plans.specs.declared.Track.{Track}
use Rattle.plans.specs.declared.Below.{Below}
use Rattle.plans.specs.declared.Below.TheVariants.{None as Clear, One, Two}
use Rattle.plans.specs.declared.Form.{Form}
use Rattle.plans.specs.Lists.{Falls, Off}

-- ## Of one set

-- The place of a flagged track among numbers of which 0 stands for none.
abbrev pub place : Option ℕ → ℕ
place None = 0
place (Some t) = suc t

-- Three tracks that fall, the last ones none.
pub record Sorted (x : Three) : Type 0 where
  pub middle_lower : 0 < place x.middle → place x.middle < place x.high
  pub low_lower : 0 < place x.low → place x.low < place x.middle

-- The flagged tracks of set s, three at the most, the highest first.
pub record ThreeOf (sh : Shape) (f : TrackFlags) (s : TrackSet) (x : Three) : Type 0 where
  pub within : place x.high ≤ tracks sh s
  pub sorted : Sorted x
  pub high_is : (t : ℕ) → suc t ≡ place x.high → f s t ≡ true
  pub middle_is : (t : ℕ) → suc t ≡ place x.middle → f s t ≡ true
  pub low_is : (t : ℕ) → suc t ≡ place x.low → f s t ≡ true
  pub others : (t : ℕ) → t < tracks sh s → suc t ≢ place x.high → suc t ≢ place x.middle → suc t ≢ place x.low → f s t ≡ false
  pub one : 0 < place x.high → 1 ≤ flag_count sh f s
  pub two : 0 < place x.middle → 2 ≤ flag_count sh f s
  pub three : 0 < place x.low → 3 ≤ flag_count sh f s

-- g flags what f does and, if e is a track, that of set s besides.
pub record OneMore (sh : Shape) (s : TrackSet) (e : Option ℕ) (f g : TrackFlags) : Type 0 where
  pub within : place e ≤ tracks sh s
  pub was : (t : ℕ) → suc t ≡ place e → f s t ≡ false
  pub here : (t : ℕ) → suc t ≡ place e → g s t ≡ true
  pub there : (t : ℕ) → t < tracks sh s → suc t ≢ place e → g s t ≡ f s t

-- r has the tracks of x and e besides, whatever the flags, three of them at the most.
pub record Inserted (x : Three) (e : Option ℕ) (r : Three) : Type 0 where
  pub is : (sh : Shape) (s : TrackSet) (f g : TrackFlags) → OneMore sh s e f g → flag_count sh g s ≤ 3 → ThreeOf sh f s x → ThreeOf sh g s r

-- ## Of both sets

-- The pivot of a set whose highest flagged track is e - 1, and the cells up to which it may be wrong; the vertical track, where e is 0.
-- Where the tail is open track 0 is no pivot, since its tail is on no vertical: then the vertical track is, and track 0 below it.
abbrev pub lone_zero : Closing → Shape → TrackSet → Pivot
lone_zero closed_tail sh s = record { track = 0; room = track_length sh }
lone_zero open_tail sh s = record { track = suc (data_tracks sh s); room = 0 }

abbrev pub pivot_at : Shape → TrackSet → ℕ → Pivot
pivot_at sh s zero = record { track = suc (data_tracks sh s); room = 0 }
pivot_at sh s (suc zero) = lone_zero sh.closing sh s
pivot_at sh s (suc (suc t)) = record { track = suc t; room = pick (ltb t (data_tracks sh s)) sh.positions (vertical_end sh) }

-- The highest track below the pivot, 0 for none and t + 1 for track t, where h - 1 is the highest flagged track and m - 1 the second.
abbrev pub second_at : Closing → ℕ → ℕ → ℕ
second_at closed_tail h m = m
second_at open_tail zero m = m
second_at open_tail (suc zero) m = 1
second_at open_tail (suc (suc h)) m = m

-- The pivot of a set, and the cells up to which it may be wrong.
abbrev pub pivot : Form → TrackSet → ℕ
pivot p A = p.a.track
pivot p B = p.b.track

abbrev pub room : Form → TrackSet → ℕ
room p A = p.a.room
room p B = p.b.room

-- How many tracks are below the pivots, and of them v and u; track 0 of A, where there is none.
abbrev pub below_count : Below → ℕ
below_count Clear = 0
below_count (One v) = 1
below_count (Two v u) = 2

abbrev pub below_v : Below → Track
below_v Clear = record { s = A; t = 0 }
below_v (One v) = v
below_v (Two v u) = v

abbrev pub below_u : Below → Track
below_u Clear = record { s = A; t = 0 }
below_u (One v) = record { s = A; t = 0 }
below_u (Two v u) = u

abbrev pub count : Form → ℕ
count p = below_count p.below

abbrev pub v_of : Form → Track
v_of p = below_v p.below

abbrev pub u_of : Form → Track
u_of p = below_u p.below

-- What belongs to set s, of set c.
abbrev pub of_set : TrackSet → TrackSet → List ℕ → List ℕ
of_set A A ts = ts
of_set A B ts = []
of_set B A ts = []
of_set B B ts = ts

abbrev pub join : List ℕ → List ℕ → List ℕ
join [] us = us
join (t ∷ ts) us = t ∷ join ts us

-- The tracks of set c below its pivot, of the number that there are in all: v in s, and u in q.
abbrev pub lows_in : ℕ → TrackSet → ℕ → TrackSet → ℕ → TrackSet → List ℕ
lows_in zero s v q u c = []
lows_in (suc zero) s v q u c = of_set s c (v ∷ [])
lows_in (suc (suc k)) s v q u c = join (of_set q c (u ∷ [])) (of_set s c (v ∷ []))

abbrev pub lows : Form → TrackSet → List ℕ
lows p c = lows_in (count p) (v_of p).s (v_of p).t (u_of p).s (u_of p).t c

-- How far the pivot j of set c may be wrong: nowhere if it is not flagged, as a data track before the tail, as track 0 of a closed
-- tail everywhere, as the vertical track as far as rule 3 goes.
pub data Room (sh : Shape) (f : TrackFlags) (c : TrackSet) (j r : ℕ) : Type 0 where
  no_pivot : j ≡ suc (data_tracks sh c) → f c j ≡ false → r ≡ 0 → Room sh f c j r
  data_pivot : 1 ≤ j → j ≤ data_tracks sh c → f c j ≡ true → r ≡ sh.positions → Room sh f c j r
  zero_pivot : j ≡ 0 → f c j ≡ true → r ≡ track_length sh → vertical_end sh ≡ track_length sh → Room sh f c j r
  vertical_pivot : j ≡ suc (data_tracks sh c) → f c j ≡ true → r ≡ vertical_end sh → Room sh f c j r

-- The tracks of a form: each set's in order. Two and two: v is in the set with fewer data tracks.
pub record Sized (sh : Shape) (p : Form) : Type 0 where
  pub order : (c : TrackSet) → Falls (tracks sh c) (pivot p c ∷ lows p c)
  pub fewer : 2 ≤ count p → (u_of p).s ≢ (v_of p).s → data_tracks sh (v_of p).s ≤ data_tracks sh (u_of p).s

-- A form has the flagged tracks of both sets, and no others but the pivot of a set without any.
pub record Fits (sh : Shape) (f : TrackFlags) (p : Form) : Type 0 where
  pub sized : Sized sh p
  pub clear : (c : TrackSet) (t : ℕ) → t < tracks sh c → Off t (pivot p c ∷ lows p c) → f c t ≡ false
  pub v_flagged : 1 ≤ count p → f (v_of p).s (v_of p).t ≡ true
  pub u_flagged : 2 ≤ count p → f (u_of p).s (u_of p).t ≡ true
  pub rooms : (c : TrackSet) → Room sh f c (pivot p c) (room p c)

-- A form for the flagged tracks x of A and y of B, where they are within the limit.
pub record Formed (z : Sizes) (x y : Three) (p : Form) : Type 0 where
  pub fits : (f : TrackFlags) → Within (shape z) f → ThreeOf (shape z) f A x → ThreeOf (shape z) f B y → Fits (shape z) f p
