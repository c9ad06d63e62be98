-- Each payload has one good record, and a record has one payload.
use mathlib.Core.Path.{◌≡◌, sym, ◌∙◌}
use Prim.Native.Nat.{ℕ, zero, suc, ◌+◌, ◌*◌, ◌-◌, ◌/◌, ◌%◌, ◌<◌, ◌≤◌}
use native.Mathlib.Decide.{dec_lt}
use native.Mathlib.Nat.{mod-lt, div-add-mod', div-lt_iff_lt-mul}
use native.Mathlib.Omega.{arith}
use mathlib.Core.List.{List}
use lib.ListN.{get_or}
use lib.Arith
use lib.Bits.{bit_xor}
use Rattle.code.specs.Record.{TrackSet, A, B, Shape, data_tracks, Cells, Good, Same}
use Rattle.code.specs.Payload.{payload_size, payload_index, Carries}
use Rattle.code.proofs.Digits.{digit, digits_inj, digits_same, digits_digit, digits_xor}
use Rattle.code.proofs.Linear.{plus}
use Rattle.code.proofs.Encoding.{Encoding, encode}
use Rattle.code.proofs.Unique.{unique_data}

-- ## Bytes of a payload

-- The block, set and track of the payload's byte i.
pub record ByteAt (sh : Shape) (n i : ℕ) : Type 0 where
  pub block : ℕ
  pub set : TrackSet
  pub track : ℕ
  pub block_lt : block < n
  pub track_lt : track < data_tracks sh set
  pub index : payload_index sh block set track ≡ i

-- A product above a number has no factor 0.
factor_pos : (n w i : ℕ) → i < n * w → 0 < w
factor_pos n zero i l = absurd (omega arith)
factor_pos n (suc w) i l = omega arith

-- Every byte of a payload is a byte of a block.
pub byte_at : (sh : Shape) (n i : ℕ) → i < payload_size sh n → ByteAt sh n i
byte_at sh n i l = go (dec_lt (i % width) sh.t1)
  where
    width : ℕ
    width = sh.t1 + sh.t2

    pos : 0 < width
    pos = factor_pos n width i l

    block_lt : i / width < n
    block_lt = (div-lt_iff_lt-mul pos).1 l

    go : Dec (i % width < sh.t1) → ByteAt sh n i
    go (yes h) = record { block = i / width; set = A; track = i % width; block_lt = block_lt; track_lt = h; index = div-add-mod' i width }
    go (no h) = record {
      block = i / width;
      set = B;
      track = i % width - sh.t1;
      block_lt = block_lt;
      track_lt = omega (arith, mod-lt i pos);
      index = omega (arith, div-add-mod' i width);
    }

-- Every byte of a block is a byte of the payload.
pub payload_index_lt : (sh : Shape) (n b : ℕ) (s : TrackSet) (c : ℕ) → b < n → c < data_tracks sh s → payload_index sh b s c < payload_size sh n
payload_index_lt sh n b A c l h = Arith.digits_lt l (omega arith)
payload_index_lt sh n b B c l h = Arith.digits_lt l (omega arith)

-- Records with the same cells carry the same payload.
pub carries_same : (sh : Shape) (n : ℕ) → sh.positions ≡ 8 * n → (x y : Cells) → Same sh x y → (payload : List ℕ) → Carries sh n x payload → Carries sh n y payload
carries_same sh n e x y same payload c = record {
  byte = λ b s d l h. c.byte b s d l h ∙ digits_same 8 _ _ (λ k i. same.cell s (suc d) (8 * b + k) (omega arith) (omega arith));
}

-- And lists with the same bytes are carried alike.
pub carried_as : (sh : Shape) (n : ℕ) (x : Cells) (p q : List ℕ) → ((i : ℕ) → i < payload_size sh n → get_or q i 0 ≡ get_or p i 0) → Carries sh n x p → Carries sh n x q
carried_as sh n x p q same c = record { byte = λ b s d l h. same _ (payload_index_lt sh n b s d l h) ∙ c.byte b s d l h }

-- A payload is fixed by its record.
pub payload_fixed : (sh : Shape) (n : ℕ) (x : Cells) (p q : List ℕ) → Carries sh n x p → Carries sh n x q → (i : ℕ) → i < payload_size sh n → get_or p i 0 ≡ get_or q i 0
payload_fixed sh n x p q cp cq i l = go (byte_at sh n i l)
  where
    go : ByteAt sh n i → get_or p i 0 ≡ get_or q i 0
    go r = rw (← r.index) (cp.byte r.block r.set r.track r.block_lt r.track_lt ∙ sym (cq.byte r.block r.set r.track r.block_lt r.track_lt))

-- ## Records of a payload

-- A good record that carries a payload.
pub record PayloadEncoding (sh : Shape) (n : ℕ) (payload : List ℕ) : Type 0 where
  pub cells : Cells
  pub good : Good sh cells
  pub carries : Carries sh n cells payload

-- The data cells of a payload.
abbrev data_of : Shape → List ℕ → Cells
data_of sh payload s zero m = 0
data_of sh payload s (suc c) m = digit 8 (get_or payload (payload_index sh (m / 8) s c) 0) (m % 8)

-- They are bits.
data_bit : (sh : Shape) (payload : List ℕ) (s : TrackSet) (t m : ℕ) → data_of sh payload s t m < 2
data_bit sh payload s zero m = omega arith
data_bit sh payload s (suc c) m = omega arith

-- Position k of block b has digit k of the block's bytes.
data_at : (sh : Shape) (payload : List ℕ) (s : TrackSet) (c b k : ℕ) → k < 8 →
    data_of sh payload s (suc c) (8 * b + k) ≡ digit 8 (get_or payload (payload_index sh b s c) 0) k
data_at sh payload s c b k l =
    let block : (8 * b + k) / 8 ≡ b = omega arith in
    let place : (8 * b + k) % 8 ≡ k = omega arith in
    rw (block, place)

module _ (sh : Shape) (n : ℕ) (e : sh.positions ≡ 8 * n) where
  -- Each payload has a good record.
  pub payload_encoded : (payload : List ℕ) → ((i : ℕ) → get_or payload i 0 < 256) → PayloadEncoding sh n payload
  payload_encoded payload bytes = go (encode sh (data_of sh payload) (data_bit sh payload))
    where
      go : Encoding sh (data_of sh payload) → PayloadEncoding sh n payload
      go r = record {
        cells = r.cells;
        good = r.good;
        carries = record {
          byte = λ b s c l h. sym (digits_same 8 _ _ (λ k o. r.data_cells s (suc c) (8 * b + k) (omega arith) h (omega arith) ∙ data_at sh payload s c b k o) ∙ digits_digit 8 _ (bytes _));
        };
      }

  -- The cells of a byte are bits.
  byte_bit : (x : Cells) → Good sh x → (b : ℕ) (s : TrackSet) (c : ℕ) → b < n → c < data_tracks sh s → (k : ℕ) → k < 8 → x s (suc c) (8 * b + k) < 2
  byte_bit x g b s c l h k o = g.bits s (suc c) (8 * b + k) (omega arith) (omega arith)

  module _ (x y : Cells) (gx : Good sh x) (gy : Good sh y) where
    -- Records of one payload have the same data cells.
    pub same_payload_data : (payload : List ℕ) → Carries sh n x payload → Carries sh n y payload →
        (s : TrackSet) (t p : ℕ) → 1 ≤ t → t ≤ data_tracks sh s → p < sh.positions → x s t p ≡ y s t p
    same_payload_data payload cx cy s zero p l h b = absurd (omega arith)
    same_payload_data payload cx cy s (suc c) p l h b =
        let place : 8 * (p / 8) + p % 8 ≡ p = omega arith in
        let block : p / 8 < n = omega arith in
        let bytes = sym (cx.byte (p / 8) s c block h) ∙ cy.byte (p / 8) s c block h in
        rw (← place) (digits_inj 8 _ _ (byte_bit x gx (p / 8) s c block h) (byte_bit y gy (p / 8) s c block h) bytes (p % 8) (omega arith))

    -- Two good records of one payload are the same.
    pub same_payload : (payload : List ℕ) → Carries sh n x payload → Carries sh n y payload → Same sh x y
    same_payload payload cx cy = unique_data sh x y gx gy (same_payload_data payload cx cy)

    -- Records add as their payloads do, by the exclusive or of bytes.
    pub carries_plus : (p q r : List ℕ) → Carries sh n x p → Carries sh n y q →
        ((i : ℕ) → i < payload_size sh n → get_or r i 0 ≡ bit_xor (get_or p i 0) (get_or q i 0)) → Carries sh n (plus x y) r
    carries_plus p q r cx cy added = record {
      byte = λ b s c l h. added _ (payload_index_lt sh n b s c l h)
          ∙ rw (cx.byte b s c l h, cy.byte b s c l h) (sym (digits_xor 8 _ _ (byte_bit x gx b s c l h) (byte_bit y gy b s c l h)));
    }
