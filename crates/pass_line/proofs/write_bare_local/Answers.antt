-- `pass_line::write_bare_local` meets its contract, by whether the rim was reached. Assumes nothing.
use Rattle.report_line.proofs.Forms.{bare_yes, bare_no, same_room, same_wrote}
use Rattle.pass_line.proofs.Rim.{by_rim}
use Rattle.pass_line.proofs.write_bare_local.Goals as goal

pub write_rim-requires : goal.write_rim-requires
write_rim-requires c = same_room _ _ c.args.out.now (by_rim _ _ _ c.args.s.rim (bare_yes c.args.s _ _ _ _ _ c.held_counts.ensures.held.attached c.held_counts.ensures.held.no_candidate c.held_counts.ensures.held.ambiguous c.held_counts.ensures.held.edge c.held.ensures) (bare_no c.args.s _ _ _ _ _ c.held_counts.ensures.held.attached c.held_counts.ensures.held.no_candidate c.held_counts.ensures.held.ambiguous c.held_counts.ensures.held.edge c.held.ensures)) c.requires.room

pub returns : goal.returns
returns c = same_wrote _ _ _ _ _ (by_rim _ _ _ c.args.s.rim (bare_yes c.args.s _ _ _ _ _ c.held_counts.ensures.held.attached c.held_counts.ensures.held.no_candidate c.held_counts.ensures.held.ambiguous c.held_counts.ensures.held.edge c.held.ensures) (bare_no c.args.s _ _ _ _ _ c.held_counts.ensures.held.attached c.held_counts.ensures.held.no_candidate c.held_counts.ensures.held.ambiguous c.held_counts.ensures.held.edge c.held.ensures)) c.write_rim.ensures
