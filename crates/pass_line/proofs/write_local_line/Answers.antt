-- `pass_line::write_local_line` meets its contract, by whether a residual was recorded. Assumes nothing.
use Rattle.report_line.proofs.Forms.{bare_line, bare_asked, full_line, full_asked, same_wrote}
use Rattle.report_line.specs.Result.{local_line}
use Rattle.report_line.specs.Written.{bare_local_text}
use Rattle.pass_line.proofs.write_local_line.Goals as goal

pub write_bare_local-requires : goal.write_bare_local-requires
write_bare_local-requires c = bare_asked c.args.s c.args.out.now c.requires c.in-None.is

pub write_full_local-requires : goal.write_full_local-requires
write_full_local-requires c = full_asked c.args.s c.args.out.now _ c.requires c.in-Some.is

pub returns-in-None : goal.returns-in-None
returns-in-None c = same_wrote (bare_local_text c.args.s) (local_line c.args.s) _ _ _ (bare_line c.args.s c.args.out.now c.in-None.is) c.write_bare_local.ensures

pub returns-in-Some : goal.returns-in-Some
returns-in-Some c = same_wrote _ (local_line c.args.s) _ _ _ (full_line c.args.s c.args.out.now _ c.in-Some.is) c.write_full_local.ensures
