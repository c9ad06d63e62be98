-- Records of no blocks (document 02, note 3): all cells are in the tail, so the all-zero record is the only good one.
use mathlib.Core.Path.{◌≡◌, refl, ◌∙◌}
use mathlib.Core.Logic.{◌↔◌}
use mathlib.Core.List.{List, []}
use Prim.Native.Nat.{ℕ, ◌*◌}
use native.Mathlib.Omega.{arith}
use lib.ListN.{get_or, take, drop}
use lib.Seq.{ext_get_or}
use Rattle.code.specs.Record.{Shape, base, Cells, Good, Same, blank}
use Rattle.code.specs.Image.{cells}
use Rattle.code.specs.Flags.{TrackFlags}
use Rattle.code.specs.Calls.{view_checks}
use Rattle.code.specs.Supply.{Mending, repair, trace, read, near_by, Zeros, NoBlocks}
use Rattle.code.proofs.Linear.{same_sym, good_blank, good_same}
use Rattle.code.proofs.Numbers.{first_rest}
use Rattle.code.proofs.Places.{cell_lt, each_cell}
use Rattle.code.proofs.Supply.{point_1, number_1, point_2, met_none, point_3}
use Rattle.code.proofs.Unique.{unique_data}

-- Whatever the data tracks and the closing: there is no data cell in which two good records could differ.
pub only_zero : (sh : Shape) → sh.positions ≡ 0 → (x : Cells) → Good sh x ↔ Same sh x blank
only_zero sh e x = (
  λ g. unique_data sh x blank g (good_blank sh) (λ s t p l h b. absurd (omega arith)),
  λ same. good_same sh blank x (same_sym same) (good_blank sh),
)

-- The bytes of a good record of no blocks.
zeros : (bytes : List ℕ) → Good (base 0) (cells (base 0) bytes) → Zeros 270 bytes
zeros bytes g = each_cell (base 0) (λ i. get_or bytes i 0 ≡ 0) ((only_zero (base 0) refl _).0 g).cell

zeros_good : (bytes : List ℕ) → Zeros 270 bytes → Good (base 0) (cells (base 0) bytes)
zeros_good bytes z = (only_zero (base 0) refl _).1 (record { cell = λ s t m l b. z _ (cell_lt (base 0) s t m l b) })

-- A record that is the same as one that a call may hand out is one, too.
near_same : (way : Mending) (sh : Shape) (f : TrackFlags) (image : List ℕ) (x y : Cells) → Same sh x y → near_by way sh f image x → near_by way sh f image y
near_same repair sh f image x y same n = record { cell = λ s t m l b e. n.cell s t m l b e ∙ same.cell s t m l b }
near_same (trace way) sh f image x y same n = record {
  choice = n.choice;
  allowed = n.allowed;
  agree = record { cell = λ s t m l b e. n.agree.cell s t m l b e ∙ same.cell s t m l b };
}

pub no_blocks : NoBlocks
no_blocks = record {
  positions = refl;
  track_cells = refl;
  image_bytes = refl;
  payload_bytes = refl;
  packed_bytes = refl;
  good = only_zero (base 0) refl;
  number_1 = number_1;
  encoded = λ payload before r after c z. zeros after ((point_2 0).equations payload before r after c z);
  was_read = λ image before r after c.
      let stays = (point_1 (read 0 image before) r after c).later in (
        λ u. (λ z. zeros image ((point_2 0).no_other image before r after c z), λ z. (point_2 0).is_read image before r after c u (zeros_good image z)),
        ext_get_or 0 after before stays.lengths (λ i h. stays.later i (omega arith)),
      );
  mended = λ way flags image before r after c z. zeros after ((point_3 way 0 flags image before r after c (met_none r z)).held z).0;
  found = λ way flags image before r after c u few.
      let p = point_3 way 0 flags image before r after c u in (
        λ z. let h = p.held z in near_same way (base 0) _ image (cells (base 0) after) blank ((only_zero (base 0) refl _).0 h.0) h.1,
        λ n. (p.found few blank (good_blank (base 0)) n).0,
      );
  viewed = λ image g part v whole inside.
      first_rest (view_checks (base 0) 0 image g) (λ c. part ≡ []) (part ≡ take 15 (drop (g * 15) image)) (λ h. omega arith, (λ d. d whole, (λ h. omega arith, tt))) v;
}
