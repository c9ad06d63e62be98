use mathlib.Core.Path.{◌≡◌, sym, ◌∙◌}
use mathlib.Core.Bool.{true, true≢false}
use Prim.Native.Nat.{◌<◌}
use native.Mathlib.Omega.{arith}
use lib.ListN.{length}
use Rattle.code.specs.Record.{tracks, tail_tracks}
use Rattle.code.specs.Sizes.{shape}
use Rattle.code.proofs.Cell.{tail_data, tail_within}
use Rattle.code.proofs.Places.{number_lt}
use Rattle.solver.specs.Solver.{marked_by}
use Rattle.solver.proofs.Marks.{mark_read}
use Rattle.mend.proofs.Tails.{clearing_same, clearing_more}
use Rattle.mend.proofs.clear_tails.Goals as goal
use Rattle.mend.proofs.clear_tails.Goals.{
  then-clear_tail+then-not-marked,
  else-clear_tail,
  else-clear_tail-via-then-clear_tail+else-not-marked,
  else-clear_tail-via-else-clear_tail,
}

pub loop-t-preserved : goal.loop-t-preserved
loop-t-preserved g c =
    let a = c.args in
    let i = c.loop-t.invariant in
    let x = c.clear_tail.ensures in
    let has : c.loop-t.t < tracks (shape a.z) a.s = omega (arith, c.tail_tracks-t-end.ensures, tail_within (shape a.z) a.s, c.loop-t-test.true) in
    let room : c.track_number.result < length a.marks.now = omega (arith, c.requires.z_in_bounds, c.track_number.ensures.is, number_lt (shape a.z) a.s c.loop-t.t has) in
    let read = rw c.track_number.ensures.is at (mark_read g.M.Mark.counts g.M.Mark.none a.marks.now _ _ _ c.index-marks-track_number.is room c.is_set-marked.ensures) in
    elim c.if-clear_tail.branch [
      | then-clear_tail+then-not-marked w ↦
          rw (w.need-is, w.and-need.ensures) (clearing_more _ _ _ _ _ _ _ _ _ i x (omega arith) has w.if-clear_tail.true (read ∙ w.if-not-marked.true))
      | else-clear_tail w ↦ rw w.need-is (elim w.else-clear_tail.branch [
        | else-clear_tail-via-then-clear_tail+else-not-marked v ↦
            let flagged : marked_by g.M.Mark.counts g.M.Mark.none (shape a.z) a.marks.now a.s c.loop-t.t ≡ true = read ∙ v.if-not-marked.false in
            clearing_same _ _ _ _ _ _ _ _ _ i x (omega arith) has (λ k. absurd (true≢false (sym flagged ∙ k)))
        | else-clear_tail-via-else-clear_tail v ↦ clearing_same _ _ _ _ _ _ _ _ _ i x (omega arith) has (λ _. v.if-clear_tail.false)
      ])
    ]

pub returns : goal.returns
returns g c =
    let a = c.args in
    let l = c.loop-t in
    let e : l.t ≡ tail_tracks (shape a.z) a.s = omega (arith, c.tail_tracks-t-end.ensures, c.loop-t-test.false, tail_data (shape a.z) a.s) in
    rw e at l.invariant.done
