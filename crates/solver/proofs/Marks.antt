-- Marks of a list.
use Rattle.std.proofs.Common.{◌≡◌, Bool, List, ℕ, ◌<◌, sym, ap, ◌∙◌, length, get_or}
use Rattle.std.proofs.lemmas.List.{get_or_default}

-- What is told of the mark that was read stands in the list.
pub mark_read : {M : Type 0} (counts : M → Bool) (none : M) (marks : List M) (i : ℕ) (m : M) (r : Bool) →
    m ≡ get_or marks i m → i < length marks → r ≡ counts m → counts (get_or marks i none) ≡ r
mark_read counts none marks i m r e l h = ap counts (get_or_default marks i none m l ∙ sym e) ∙ sym h
