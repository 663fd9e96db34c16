-- `pass_line::write_fill` meets its contract, by whether the rim was reached. Assumes nothing.
use Rattle.report_line.proofs.Forms.{fill_yes, fill_no, same_room, same_wrote}
use Rattle.pass_line.proofs.Rim.{by_rim}
use Rattle.pass_line.proofs.write_fill.Goals as goal

pub write_rim-requires : goal.write_rim-requires
write_rim-requires c = same_room _ _ c.args.out.now (by_rim _ _ _ c.args.s.rim (fill_yes c.args.s _ _ c.held.ensures c.held-2.ensures) (fill_no c.args.s _ _ c.held.ensures c.held-2.ensures)) c.requires.room

pub returns : goal.returns
returns c = same_wrote _ _ _ _ _ (by_rim _ _ _ c.args.s.rim (fill_yes c.args.s _ _ c.held.ensures c.held-2.ensures) (fill_no c.args.s _ _ c.held.ensures c.held-2.ensures)) c.write_rim.ensures
