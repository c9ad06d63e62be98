-- What packing and unpacking return past their checks: what they are called for.
use mathlib.Core.Path.{◌≡◌, refl}
use mathlib.Core.Logic.{inr}
use mathlib.Core.List.{List, [], ◌∷◌, ◌++◌}
use Prim.Native.Nat.{ℕ, ◌≤◌}
use lib.ListN.{length, drop}
use Rattle.code.specs.Record.{base}
use Rattle.code.specs.Image.{image_size}
use Rattle.code.specs.Packed.{packed_size, PaddingSet}
use Rattle.code.specs.Numbers.{padding_check, size_checks, Passed}
use Rattle.code.specs.Calls.{plain, Refused, pack_checks, Packs, Unpacks}
use Rattle.code.specs.Promises.{WasPacked, WasUnpacked}
use Rattle.code.proofs.Front.{front_at, front_same, front_stays}
use Rattle.code.proofs.Numbers.{first_passed, first_after}
use Rattle.code.proofs.Packing.{form_same, form_as}
use Rattle.packed.specs.Steps.{TracksPacked, TracksUnpacked}
use Rattle.packed.proofs.Tracks.{all_packed, all_bits, all_unpacked}

-- The packed form.
pub was_packed : (n : ℕ) (image before : List ℕ) → Passed (pack_checks n image before) → packed_size n ≤ length before → (packed : List ℕ) →
    TracksPacked n 18 image packed → WasPacked n image before (plain 0 0) (packed ++ drop (packed_size n) before)
was_packed n image before passed room packed t =
    let after = packed ++ drop (packed_size n) before in
    let whole = t.sized.form.size in
    first_passed (pack_checks n image before) (Refused (plain 0 0) before after) (Packs n image before (plain 0 0) after) passed (record {
      result = refl;
      form = form_as n _ packed after (front_at (packed_size n) before packed whole room) (all_packed n image packed t);
      stays = front_stays (packed_size n) before packed whole room;
    })

-- The image.
pub was_unpacked : (n : ℕ) (packed before : List ℕ) → Passed (size_checks n (packed_size n) (length packed) (image_size (base n)) (length before)) →
    ¬ PaddingSet n packed → image_size (base n) ≤ length before → (image : List ℕ) → TracksUnpacked n 18 packed image →
    WasUnpacked n packed before (plain 0 0) (image ++ drop (image_size (base n)) before)
was_unpacked n packed before passed clear fits image t =
    let after = image ++ drop (image_size (base n)) before in
    let whole = t.sized.whole in
    let sizes = size_checks n (packed_size n) (length packed) (image_size (base n)) (length before) in
    first_after sizes (padding_check n packed ∷ []) (Refused (plain 0 0) before after) (Unpacks n packed before (plain 0 0) after) passed (inr (
      clear,
      record {
        result = refl;
        bits = λ i h. rw (front_at (image_size (base n)) before image whole fits i h) (all_bits n packed image t i h);
        form = form_same n _ _ packed (front_same (base n) before image whole fits) (all_unpacked n packed image t clear);
        stays = front_stays (image_size (base n)) before image whole fits;
      },
    ))
