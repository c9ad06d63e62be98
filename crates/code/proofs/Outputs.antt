-- Outputs of repair and tracing: the part that is worked on and the whole output, and records that count as near by other names.
use mathlib.Core.Path.{◌≡◌, refl, ap, ◌∙◌}
use mathlib.Core.Logic.{inl, inr}
use mathlib.Core.List.{List, ◌++◌}
use Prim.Native.Nat.{ℕ, ◌≤◌}
use native.Mathlib.Omega.{arith}
use lib.ListN.{length, get_or, take, drop}
use Rattle.code.specs.Record.{TrackSet, Shape, tracks, Cells, Good, Same}
use Rattle.code.specs.Image.{image_size, cells}
use Rattle.code.specs.Flags.{TrackFlags, CellFlags, AgreeOff}
use Rattle.code.specs.Reach.{Extra, none}
use Rattle.code.specs.declared.Reach.{Reach}
use Rattle.code.specs.Calls.{Result, plain, mended, NotFound, Mended, RepairNear, Repairs, TraceNear, trace_named, Traces}
use Rattle.code.proofs.Changed.{changed_extra_same, mended_same}
use Rattle.code.proofs.Front.{front_at, front_same, front_stays, stays_all}
use Rattle.code.proofs.Linear.{good_same}

-- ## A part of the output

-- A record is the same as itself.
pub own_cells : (sh : Shape) (image : List ℕ) → Same sh (cells sh image) (cells sh image)
own_cells sh image = record { cell = λ s t m l b. refl }

module _ (sh : Shape) (image out part : List ℕ) (room : image_size sh ≤ length out) (size : length part ≡ image_size sh) where
  abbrev all : List ℕ
  all = part ++ drop (image_size sh) out

  part_cells : Same sh (cells sh part) (cells sh all)
  part_cells = front_same sh out part size room

  -- What is right of the part is right of the whole output.
  mended_all : (near : Cells → Type 0) (named : List ℕ → TrackSet → Extra) → (near (cells sh part) → near (cells sh all)) → ((s : TrackSet) → named part s ≡ named all s) →
      (r : Result) → Mended sh near named image (take (image_size sh) out) r part → Mended sh near named image out r all
  mended_all near named h e r (inl f) = inl (record {
    good = good_same sh _ _ part_cells f.good;
    reached = h f.reached;
    stays = front_stays (image_size sh) out part size room;
    result = f.result ∙ mended_same sh _ _ _ _ (own_cells sh image) part_cells (named part) (named all) e;
  })
  mended_all near named h e r (inr f) = inr (record {
    no_record = f.no_record;
    copy = λ i l. front_at (image_size sh) out part size room i l ∙ f.copy i l;
    stays = front_stays (image_size sh) out part size room;
    result = f.result;
  })

  -- Agreement with the part is agreement with the whole.
  agree_all : (flag : CellFlags) (x : Cells) → AgreeOff sh flag x (cells sh part) → AgreeOff sh flag x (cells sh all)
  agree_all flag x a = record { cell = λ s t m l b e. a.cell s t m l b e ∙ part_cells.cell s t m l b }

  pub repair_all : (flag : CellFlags) (r : Result) → Repairs sh flag image (take (image_size sh) out) r part → Repairs sh flag image out r all
  repair_all flag = mended_all (RepairNear sh flag image) (λ _ _. none) (agree_all _ _) (λ s. refl)

  pub trace_all : (w : Reach) (f : TrackFlags) (r : Result) → Traces sh w f image (take (image_size sh) out) r part → Traces sh w f image out r all
  trace_all w f = mended_all (TraceNear sh w f image) (trace_named sh f image)
      (λ i. record { choice = i.choice; allowed = i.allowed; agree = agree_all _ _ i.agree })
      (λ s. changed_extra_same sh _ _ _ _ (own_cells sh image) part_cells f f s (λ t l. refl) (tracks sh s) (omega arith))

-- ## The same records near

module _ (sh : Shape) (image before : List ℕ) (r : Result) (after : List ℕ) where
  -- The same records count as near, and the same extras are named where one is found.
  pub mended_as : (near near' : Cells → Type 0) (named named' : List ℕ → TrackSet → Extra) → ((y : Cells) → near y → near' y) → ((y : Cells) → near' y → near y) →
      (near (cells sh after) → (s : TrackSet) → named after s ≡ named' after s) → Mended sh near named image before r after → Mended sh near' named' image before r after
  mended_as near near' named named' to from e (inl a) = inl (record {
    good = a.good;
    reached = to _ a.reached;
    stays = a.stays;
    result = a.result ∙ (λ i. mended sh (cells sh image) (cells sh after) (λ s. e a.reached s i));
  })
  mended_as near near' named named' to from e (inr a) = inr (record {
    no_record = λ y g n. a.no_record y g (from y n);
    copy = a.copy;
    stays = a.stays;
    result = a.result;
  })

-- ## Agreement

-- Two agreements, one after the other.
pub agree_on : (sh : Shape) (flag : CellFlags) {x y u : Cells} → AgreeOff sh flag x y → AgreeOff sh flag y u → AgreeOff sh flag x u
agree_on sh flag p q = record { cell = λ s t m l b e. p.cell s t m l b e ∙ q.cell s t m l b e }

-- ## Answer 7

-- The output is the image.
pub not_found : (sh : Shape) (image out after : List ℕ) → after ≡ image → length image ≡ image_size sh → length out ≡ image_size sh →
    (near : Cells → Type 0) → ((y : Cells) → Good sh y → near y → ⊥) → (answer : Result) → answer ≡ plain 7 0 → NotFound sh near image out answer after
not_found sh image out after back size room near nothing answer e = record {
  no_record = nothing;
  copy = λ i l. ap (λ (xs : List ℕ). get_or xs i 0) back;
  stays = stays_all (image_size sh) out after room (ap length back ∙ size);
  result = e;
}
