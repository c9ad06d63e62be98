use Rattle.writer.proofs.Listing.{listed_more, listed_all}
use Rattle.writer.proofs.put_directory.Goals as goal

pub loop-i-preserved : goal.loop-i-preserved
loop-i-preserved c =
    listed_more _ _ _ _ _ _ c.loop-i.invariant c.loop-i-test.true _ _ c.entry_size-size.ensures c.put_place.ensures

pub returns : goal.returns
returns c = listed_all _ _ _ _ _ _ c.loop-i.invariant c.loop-i-test.false
