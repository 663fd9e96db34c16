-- `pass_line::write_local` meets its contract: one line behind the other. Assumes nothing.
use Rattle.report_line.proofs.Behind.{line_asked, unmatched_asked, local_wrote}
use Rattle.pass_line.proofs.write_local.Goals as goal

pub write_local_line-n-requires : goal.write_local_line-n-requires
write_local_line-n-requires c = line_asked c.args.s c.args.out.now c.requires

pub write_unmatched-m-requires : goal.write_unmatched-m-requires
write_unmatched-m-requires c = unmatched_asked c.args.s c.args.out.now c.requires _ _ c.write_local_line-n.ensures

pub returns : goal.returns
returns c = local_wrote c.args.s c.args.out.now c.requires _ _ c.write_local_line-n.ensures _ _ c.write_unmatched-m.ensures
