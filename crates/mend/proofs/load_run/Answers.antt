-- `load_run`: one row's word more.
use Prim.Native.Nat.{◌<◌}
use native.Mathlib.Omega.{arith}
use Rattle.errors.proofs.Cells.{put_set}
use Rattle.mend.proofs.WordRows.{run_more, run_word}
use Rattle.mend.proofs.load_run.Goals as goal

pub loop-r-preserved : goal.loop-r-preserved
loop-r-preserved c =
    let l = c.loop-r in
    let few : l.r < 4 = omega arith in
    run_more _ _ _ _ l.r _ _ _ _ l.invariant few (put_set 4 l.rows l.r c.args.i _ l.invariant.rows few c.requires.i_bound)
    (run_word c.args.run.now c.args.n c.args.k l.r _ _ c.requires.run_len few c.word_of.ensures c.first_cells-w.ensures)
