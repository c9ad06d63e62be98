-- What encoder and reader return: a number of their checks, or what they are called for.
use mathlib.Core.Path.{◌≡◌, refl}
use mathlib.Core.Logic.{inl}
use mathlib.Core.List.{List, ◌++◌}
use Prim.Native.Nat.{ℕ, ◌+◌, ◌*◌, ◌≤◌}
use lib.ListN.{length, drop}
use Rattle.code.specs.Record.{Shape, Good}
use Rattle.code.specs.Image.{image_size, cells}
use Rattle.code.specs.Lost.{read_values}
use Rattle.code.specs.Numbers.{Passed}
use Rattle.code.specs.Calls.{
  Result,
  plain,
  Refused,
  Answered,
  encode_checks,
  Encodes,
  read_checks,
  ReadOrNot,
}
use Rattle.code.proofs.Front.{front_same, front_stays}
use Rattle.code.proofs.Linear.{good_same}
use Rattle.code.proofs.Numbers.{first_passed}
use Rattle.code.proofs.Payloads.{carries_same}
use Rattle.codec.specs.Steps.{Reading, GoodRecord}
use Rattle.codec.proofs.Columns.{column, column_lt, column_index, column_number}

-- ## Encoder

module _ (sh : Shape) (n : ℕ) (payload before : List ℕ) where
  -- The record.
  pub encoded : sh.positions ≡ 8 * n → Passed (encode_checks sh n payload before) → (image : List ℕ) → length image ≡ image_size sh →
      image_size sh ≤ length before → GoodRecord sh n payload image →
      Answered (encode_checks sh n payload before) (Encodes sh n payload before) before (plain 0 0) (image ++ drop (image_size sh) before)
  encoded blocks passed image whole room g =
      let after = image ++ drop (image_size sh) before in
      let same = front_same sh before image whole room in
      first_passed (encode_checks sh n payload before) (Refused (plain 0 0) before after) (Encodes sh n payload before (plain 0 0) after) passed (record {
        result = refl;
        good = good_same sh _ _ same g.good;
        carries = carries_same sh n blocks _ _ same payload g.carries;
        stays = front_stays (image_size sh) before image whole room;
      })

-- ## Reader

module _ (sh : Shape) (n : ℕ) (image before : List ℕ) (passed : Passed (read_checks read_values sh n image before)) where
  done : (r : Result) (after : List ℕ) → ReadOrNot sh n image before r after →
      Answered (read_checks read_values sh n image before) (ReadOrNot sh n image before) before r after
  done r after = first_passed (read_checks read_values sh n image before) (Refused r before after) (ReadOrNot sh n image before r after) passed

  -- The payload.
  pub was_read : (after : List ℕ) → Good sh (cells sh image) → Reading sh n (sh.t1 + sh.t2) image before after →
      Answered (read_checks read_values sh n image before) (ReadOrNot sh n image before) before (plain 0 0) after
  was_read after good f = done (plain 0 0) after (inl (
    good,
    record {
      result = refl;
      carries = record {
        byte = λ b s c h k. rw (column_index sh b s c) (rw (column_number sh s c k) at (f.done b (column sh s c) h (column_lt sh s c k)));
      };
      stays = record { lengths = f.size; later = f.later };
    },
  ))
