-- `add_by`: the pivots' errors are added, then the lower ones.
use Rattle.code.specs.declared.sizes.TrackSet.TheVariants.{A, B}
use Rattle.mend.proofs.Additions.{all_added}
use Rattle.mend.proofs.add_by.Goals as goal

pub add_pivot-requires-clause-track : goal.add_pivot-requires-clause-track
add_pivot-requires-clause-track g c = (c.requires.sized.order A).0

pub add_pivot-requires-clause-no_room : goal.add_pivot-requires-clause-no_room
add_pivot-requires-clause-no_room g c = c.requires.m_value A

pub add_pivot-requires-2-clause-track : goal.add_pivot-requires-2-clause-track
add_pivot-requires-2-clause-track g c = (c.requires.sized.order B).0

pub add_pivot-requires-2-clause-no_room : goal.add_pivot-requires-2-clause-no_room
add_pivot-requires-2-clause-no_room g c = c.requires.m_value B

pub returns : goal.returns
returns g c = all_added _ _ _ _ _ _ _ c.add_pivot.ensures c.add_pivot-2.ensures c.add_lower.ensures
