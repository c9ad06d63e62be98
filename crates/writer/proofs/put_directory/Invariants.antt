-- `put_directory`: the places written, and behind them the directory of the entries left, are the directory.
use Rattle.writer.proofs.Listing.{Listed}
use Rattle.writer.proofs.put_directory.Given as goal

abbrev pub invariant-loop-i : goal.invariant-loop-i
invariant-loop-i l = Listed l.count l.entries l.offset l.left l.i l.places
