-- The invariant: of the tracks below t this is the one that is flagged, or none is.
use Rattle.code.specs.Flags.{word_flags}
use Rattle.code.specs.Sizes.{shape}
use Rattle.stretches.proofs.Planning.{Only}
use Rattle.stretches.proofs.one_track.Given as goal

abbrev pub invariant-loop-t : goal.invariant-loop-t
invariant-loop-t l = Only (word_flags (shape l.z) l.word l.s) l.t l.track
