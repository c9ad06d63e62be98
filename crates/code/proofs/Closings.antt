-- What the closing of the tail says of rules 3 and 4.
use mathlib.Core.Path.{◌≡◌, ap}
use mathlib.Core.Bool.{true, false}
use Prim.Native.Nat.{suc}
use Rattle.code.specs.Record.{TrackSet, closed_tail, open_tail, Shape, data_tracks, tracks, track_length, vertical_end, tail_tracks}
use Rattle.code.specs.Sizes.{closing_of, shape}
use Rattle.code.specs.declared.sizes.Sizes.{Sizes}

-- The closing, by the sizes.
pub is_closed : (z : Sizes) → z.closed ≡ true → (shape z).closing ≡ closed_tail
is_closed z e = ap closing_of e

pub is_open : (z : Sizes) → z.closed ≡ false → (shape z).closing ≡ open_tail
is_open z e = ap closing_of e

module _ (sh : Shape) where
  -- Closed: rule 3 goes through the tail, and rule 4 leaves the vertical track out.
  pub closed_end : sh.closing ≡ closed_tail → vertical_end sh ≡ track_length sh
  closed_end e = rw e

  pub closed_tracks : sh.closing ≡ closed_tail → (s : TrackSet) → tail_tracks sh s ≡ suc (data_tracks sh s)
  closed_tracks e s = rw e

  -- Open: rule 3 ends with the data, and rule 4 takes all tracks but track 0.
  pub open_end : sh.closing ≡ open_tail → vertical_end sh ≡ sh.positions
  open_end e = rw e

  pub open_tracks : sh.closing ≡ open_tail → (s : TrackSet) → tail_tracks sh s ≡ tracks sh s
  open_tracks e s = rw e
