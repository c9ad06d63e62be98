-- Packing and unpacking undo each other (document 02, note 1).
use mathlib.Core.Path.{◌≡◌, sym, ap, ◌∙◌}
use mathlib.Core.List.{List, [], ◌∷◌}
use Prim.Native.Nat.{ℕ, ◌<◌, ◌≤◌}
use native.Mathlib.Omega.{arith}
use lib.ListN.{length, get_or, take}
use lib.Seq.{ext_get_or, get_or-take, length-take-le}
use Rattle.code.specs.Record.{base, Same}
use Rattle.code.specs.Image.{image_size, cells}
use Rattle.code.specs.Lost.{bit_values}
use Rattle.code.specs.Packed.{packed_size, PackedForm}
use Rattle.code.specs.Numbers.{padding_check, size_checks}
use Rattle.code.specs.Calls.{Result, Refused, pack_checks, Packs, unpack_checks, Unpacks}
use Rattle.code.specs.Promises.{WasPacked, WasUnpacked}
use Rattle.code.specs.Supply.{PackingUndone, UnpackingUndone}
use Rattle.code.proofs.Accepted.{SizesRight, sizes_right, sizes_pass, ImageRight, image_right, image_pass}
use Rattle.code.proofs.Numbers.{passed_both, passed_append, first_rest, answer_of, Through, unrefused}
use Rattle.code.proofs.Packing.{no_padding, form_same, form_as, form_fixed, cell_bits, same_form}
use Rattle.code.proofs.Places.{cell_lt, same_image}

-- ## Lists

-- A list's first bytes are another's.
first_bytes : (size : ℕ) (xs ys : List ℕ) → size ≤ length xs → length ys ≡ size → ((i : ℕ) → i < size → get_or xs i 0 ≡ get_or ys i 0) → take size xs ≡ ys
first_bytes size xs ys fits whole same =
    ext_get_or 0 (take size xs) ys (length-take-le size xs fits ∙ sym whole)
    (λ i h. let l : i < size = omega (arith, length-take-le size xs fits) in get_or-take size xs i 0 l ∙ same i l)

-- The first bytes of an image are its cells.
same_cells : (n : ℕ) (xs : List ℕ) → Same (base n) (cells (base n) (take (image_size (base n)) xs)) (cells (base n) xs)
same_cells n xs = record { cell = λ s t m h l. get_or-take (image_size (base n)) xs _ 0 (cell_lt (base n) s t m h l) }

-- ## What the calls accepted

module _ (n : ℕ) where
  abbrev images : ℕ
  images = image_size (base n)

  abbrev packs : ℕ
  packs = packed_size n

  module _ (image before : List ℕ) (r : Result) (after : List ℕ) (c : WasPacked n image before r after) (z : r.answer ≡ 0) where
    packed : Through (pack_checks n image before) (Packs n image before r after)
    packed = unrefused (pack_checks n image before) r before after (Packs n image before r after) (rw z (omega arith)) c

    pack_right : ImageRight bit_values n images image packs (length before)
    pack_right = image_right bit_values n images image packs (length before) (omega arith) packed.passed

    pack_form : PackedForm n (cells (base n) image) (take packs after)
    pack_form = form_as n _ after (take packs after) (λ i h. get_or-take packs after i 0 h) packed.done.form

  module _ (form before : List ℕ) (r : Result) (after : List ℕ) (c : WasUnpacked n form before r after) (z : r.answer ≡ 0) where
    unpacked : Through (unpack_checks n form before) (Unpacks n form before r after)
    unpacked = unrefused (unpack_checks n form before) r before after (Unpacks n form before r after) (rw z (omega arith)) c

    unpack_right : SizesRight n packs (length form) images (length before)
    unpack_right = sizes_right n packs (length form) images (length before)
        (passed_both (size_checks n packs (length form) images (length before)) (padding_check n form ∷ []) unpacked.passed).0

  -- ## Both ways

  pub packing_undone : PackingUndone n
  packing_undone = record {
    accepted = λ image before r after c z output q last d room.
        let s = (pack_right image before r after c z).sizes in
        let form = take packs after in
        let whole : length form ≡ packs = length-take-le packs after (omega (arith, s.fits, (packed image before r after c z).done.stays.lengths)) in
        let p = passed_append (size_checks n packs (length form) images (length output)) (padding_check n form ∷ [])
        (sizes_pass n packs (length form) images (length output) s.few whole room) (no_padding n _ form (pack_form image before r after c z), tt) in
        ap answer_of (first_rest (unpack_checks n form output) (Refused q output last) (Unpacks n form output q last) p d).result;
    undone = λ image before r after c z output q last d y.
        let s = unpack_right (take packs after) output q last d y in
        let u = (unpacked (take packs after) output q last d y).done in
        let k = pack_right image before r after c z in
        let same = same_form n _ _ (take packs after) (cell_bits n last u.bits) (cell_bits n image (λ i h. k.cells i)) u.form (pack_form image before r after c z) in
        first_bytes images last image (omega (arith, s.fits, u.stays.lengths)) k.sizes.exact (same_image (base n) last image same);
  }

  pub unpacking_undone : UnpackingUndone n
  unpacking_undone = record {
    accepted = λ form before r after c z output q last d room.
        let s = unpack_right form before r after c z in
        let u = (unpacked form before r after c z).done in
        let image = take images after in
        let whole : length image ≡ images = length-take-le images after (omega (arith, s.fits, u.stays.lengths)) in
        let p = image_pass bit_values n images image packs (length output) (sizes_pass n images (length image) packs (length output) s.few whole room)
        (λ i l. let h : i < images = omega arith in rw (get_or-take images after i 0 h) (u.bits i h)) in
        ap answer_of (first_rest (pack_checks n image output) (Refused q output last) (Packs n image output q last) p d).result;
    undone = λ form before r after c z output q last d y.
        let s = (pack_right (take images after) output q last d y).sizes in
        let k = (packed (take images after) output q last d y).done in
        let u = (unpacked form before r after c z).done in
        first_bytes packs last form (omega (arith, s.fits, k.stays.lengths)) (unpack_right form before r after c z).exact
        (form_fixed n _ last form (form_same n _ _ last (same_cells n after) k.form) u.form);
  }
