-- `check`: the numbers of `check_image`, then 9.
use Rattle.std.proofs.Common.{refl}
use Rattle.code.specs.Record.{base}
use Rattle.code.specs.Image.{image_size}
use Rattle.code.specs.Numbers.{image_checks, table_check}
use Rattle.code.specs.Spans.{table_of}
use Rattle.checks.proofs.Refusing.{next_refuses, next_passes, image_passes}
use Rattle.spans.proofs.check.Goals as goal

pub returns-then-not-is_right-clause-first : goal.returns-then-not-is_right-clause-first
returns-then-not-is_right-clause-first c =
    let a = c.args in
    next_refuses (image_checks _ _ _ _ _ _) (table_check (image_size (base a.blocks)) (table_of a.spans.now)) _ (image_passes _ _ _ _ _ _ c.in_ok-lost.ensures.first) (c.is_right.ensures.not_right c.if-not-is_right.true) refl

pub returns-clause-first : goal.returns-clause-first
returns-clause-first c =
    let a = c.args in
    next_passes (image_checks _ _ _ _ _ _) (table_check (image_size (base a.blocks)) (table_of a.spans.now)) _ (image_passes _ _ _ _ _ _ c.in_ok-lost.ensures.first) (c.is_right.ensures.yes_right c.if-not-is_right.false) refl
