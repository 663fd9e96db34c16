-- `sheet::next_written` meets its contract: all places passed hold nothing. Assumes nothing.
use Rattle.sheet.proofs.Blank.{passed_more}
use Rattle.sheet.proofs.next_written.Goals as goal

pub loop-place-preserved : goal.loop-place-preserved
loop-place-preserved c = passed_more _ _ _ _ c.loop-place.invariant c.loop-place-test.true c.blank_places-place.ensures
