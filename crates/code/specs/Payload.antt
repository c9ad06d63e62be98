-- Document 01, "The record": the payload of a record, 14 bytes a block.
use Rattle.std.specs.Prelude.{◌≡◌, ℕ, zero, suc, ◌+◌, ◌*◌, ◌<◌, List, get_or}
use Rattle.code.specs.Record.{TrackSet, A, B, Shape, data_tracks, Cells}

-- The number whose k binary digits are f 0 to f (k - 1), the most significant first.
unfoldable pub digits : ℕ → (ℕ → ℕ) → ℕ
digits zero f = 0
digits (suc k) f = 2 * digits k f + f k

-- The payload's bytes in n blocks.
abbrev pub payload_size : Shape → ℕ → ℕ
payload_size sh n = n * (sh.t1 + sh.t2)

-- The place in block b of the byte that goes along track c + 1 of a set: c in A, 7 + c in B.
abbrev pub payload_index : Shape → ℕ → TrackSet → ℕ → ℕ
payload_index sh b A c = b * (sh.t1 + sh.t2) + c
payload_index sh b B c = b * (sh.t1 + sh.t2) + (sh.t1 + c)

-- That byte: its most significant bit is at the block's first position.
abbrev pub payload_byte : Cells → ℕ → TrackSet → ℕ → ℕ
payload_byte x b s c = digits 8 (λ k. x s (suc c) (8 * b + k))

-- A record of n blocks carries a payload.
pub record Carries (sh : Shape) (n : ℕ) (x : Cells) (payload : List ℕ) : Type 0 where
  pub byte : (b : ℕ) (s : TrackSet) (c : ℕ) → b < n → c < data_tracks sh s →
      get_or payload (payload_index sh b s c) 0 ≡ payload_byte x b s c
