-- A record shorter than a run: the first cells of each row of 64 sums are copied to its rows.
use mathlib.Core.Path.{◌≡◌, sym, ◌∙◌}
use mathlib.Core.Logic.{by_cases}
use mathlib.Core.List.{List}
use Prim.Native.Nat.{ℕ, ◌+◌, ◌*◌, ◌-◌, ◌<◌, ◌≤◌}
use native.Mathlib.Decide.{ℕ_discrete}
use native.Mathlib.Omega.{arith}
use borrow.Rule.Slice.PartMut.{put_mid, mid_len}
use lib.ListN.{length, take, drop}
use Rattle.code.specs.Record.{track_length}
use Rattle.code.specs.Image.{cells}
use Rattle.code.specs.Sizes.{shape}
use Rattle.code.specs.declared.sizes.Sizes.{Sizes}
use Rattle.track.specs.Track.{row}
use Rattle.track.proofs.Parts.{part_at}
use Rattle.code.proofs.Places.{row_end}
use Rattle.track.proofs.Rows.{new_length, new_here, new_there}
use Rattle.syndrome.specs.Syndrome.{Holds}
use Rattle.sums.specs.Edge.{RunSums}
use Rattle.sums.proofs.Rows.{done_holds}

-- The first n rows of l cells hold the first l cells of the first n rows of 64.
pub record RowsCopied (l n : ℕ) (rows syn : List ℕ) : Type 0 where
  pub size : length syn ≡ 4 * l
  pub copied : (r q : ℕ) → r < n → q < l → row l syn r q ≡ row 64 rows r q

-- One row more, which is lent and comes back.
module _ (l n : ℕ) (rows syn : List ℕ) (before : RowsCopied l n rows syn) (small : n < 4) (short : l < 64) (size : length rows ≡ 256) where
  abbrev a : ℕ
  a = n * 64

  room : n * l + l ≤ length syn
  room = omega (arith, row_end l n 4 small, before.size)

  source : length (take (a + l - a) (drop a rows)) ≡ a + l - a
  source = mid_len a (a + l) rows (omega arith)

  abbrev last : List ℕ
  last = take (a + l - a) (drop a rows)

  fits : length last ≡ length (take (n * l + l - n * l) (drop (n * l) syn))
  fits = source ∙ sym (mid_len (n * l) (n * l + l) syn room ∙ omega arith)

  pub copied_more : RowsCopied l (n + 1) rows (put_mid (n * l) (n * l + l - n * l) syn (take (a + l - a) (drop a rows)))
  copied_more = record {
    size = new_length l syn n room last fits ∙ before.size;
    copied = λ r q h b. by_cases (ℕ_discrete r n)
        (λ e. rw e (new_here l syn n room last fits q b ∙ part_at rows a (a + l - a) q (omega arith)))
        (λ d. new_there l syn n room last fits r q d b ∙ before.copied r q (omega arith) b);
  }

-- When all four rows are copied, they hold the syndromes.
pub short_holds : (z : Sizes) (image rows syn : List ℕ) → RowsCopied (track_length (shape z)) 4 rows syn → RunSums z image 0 rows → track_length (shape z) < 64 →
    Holds (shape z) (cells (shape z) image) syn
short_holds z image rows syn all sums short = done_holds (shape z) _ (track_length (shape z)) syn
    (record { size = all.size; sums = λ r q h _ b. let e : 0 + q ≡ q = omega arith in all.copied r q h b ∙ rw e at (sums.sums r q h (omega arith) (omega arith)) }) (omega arith)
