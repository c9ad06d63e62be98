-- The working copy of an image, in which lost cells are 0: it is made, it is an image of bits, and it has syndromes.
use mathlib.Core.Path.{◌≡◌, sym, subst, ◌∙◌}
use mathlib.Core.List.{List}
use Prim.Native.Nat.{ℕ}
use lib.ListN.{length}
use Rattle.code.specs.Record.{Shape}
use Rattle.code.specs.Image.{image_size, cells}
use Rattle.code.specs.Sizes.{shape}
use Rattle.code.specs.declared.sizes.Sizes.{Sizes}
use Rattle.track.specs.Track.{Readings, known, Copied}
use Rattle.track.proofs.Cells.{copied_all}
use Rattle.track.proofs.Lost.{length_known, known_bits}
use Rattle.syndrome.specs.Syndrome.{Image, Holds, Kept}

module _ (sh : Shape) (image : List ℕ) (size : length image ≡ image_size sh) where
  pub copy_made : (out after : List ℕ) → length out ≡ image_size sh → Copied (known image) out after → after ≡ known image
  copy_made out after room c = copied_all (known image) out after c (length_known image ∙ size ∙ sym room)

  pub copy_image : Readings image → (copy : List ℕ) → copy ≡ known image → Image sh copy
  copy_image readings copy e = rw e (record { size = length_known image ∙ size; bits = (known_bits image readings).bit })

pub copy_kept : (z : Sizes) (image copy syn : List ℕ) → length image ≡ image_size (shape z) → Readings image → copy ≡ known image →
    Holds (shape z) (cells (shape z) copy) syn → Kept z (known image) syn
copy_kept z image copy syn size readings e h = record {
  image = copy_image (shape z) image size readings (known image) (λ i. known image);
  holds = subst (λ (xs : List ℕ). Holds (shape z) (cells (shape z) xs) syn) e h;
}
