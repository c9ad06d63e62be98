-- `allows`: with room and a free extra in A, the extra in B decides.
use mathlib.Core.Path.{sym, ap, ◌∙◌}
use mathlib.Core.Bool.{true≢false}
use Rattle.code.specs.declared.sizes.TrackSet.TheVariants.{A, B}
use Rattle.code.specs.Answers.{extra_of}
use Rattle.trace.proofs.Choices.{refuses, allowed_by}
use Rattle.trace.proofs.allows.Goals as goal

pub returns-then-not-has_room : goal.returns-then-not-has_room
returns-then-not-has_room c = refuses _ _ _ _ (λ n. true≢false (sym (c.has_room.ensures.1 (n.in_set A, n.in_set B, n.in_all)) ∙ c.if-not-has_room.true))

pub returns-then-is_free : goal.returns-then-is_free
returns-then-is_free c =
    let last = c.is_free-then-is_free.ensures in
    record {
      yes_allowed = λ h. allowed_by _ _ _ _ c.requires (c.has_room.ensures.0 c.if-not-has_room.false) (c.is_free.ensures.yes_free c.if-is_free.true) (last.yes_free h);
      not_allowed = λ h n. last.not_free h (λ t e. n.unflagged B t (ap extra_of e));
    }

pub returns-else-is_free : goal.returns-else-is_free
returns-else-is_free c = rw c.if-is_free.false (refuses _ _ _ _ (λ n. c.is_free.ensures.not_free c.if-is_free.false (λ t e. n.unflagged A t (ap extra_of e))))
