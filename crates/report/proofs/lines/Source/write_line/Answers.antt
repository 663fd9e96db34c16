-- `lines::Source::write_line` meets its contract, by which line has the number. Assumes nothing.
use Rattle.report_line.proofs.Forms.{same_room, same_wrote}
use Rattle.report.specs.Asked.{line_at}
use Rattle.report.proofs.Numbered.{pass_line_holds, sheet_line_lem}
use Rattle.report.proofs.Writing.{heading_is, role_is, pass_asked, role_asked, sheet_asked}
use Rattle.report.proofs.lines.Source.write_line.Goals as goal

pub write_heading-requires : goal.write_heading-requires
write_heading-requires c = same_room _ _ c.args.out.now (heading_is c.args.self.now.passes c.args.self.now.words.now c.args.self.now.sheet.now c.args.k c.in-Heading.ensures) c.requires.room

pub returns-in-Heading : goal.returns-in-Heading
returns-in-Heading c = same_wrote _ (line_at c.args.self.now.passes c.args.self.now.words.now c.args.self.now.sheet.now c.args.k) _ _ _ (heading_is c.args.self.now.passes c.args.self.now.words.now c.args.self.now.sheet.now c.args.k c.in-Heading.ensures) c.write_heading.ensures

pub write_pass-requires : goal.write_pass-requires
write_pass-requires c = pass_asked c.args.self.now.passes c.args.self.now.words.now c.args.self.now.sheet.now c.args.k c.args.out.now c.requires c.in-Pass.k c.in-Pass.ensures.0 c.in-Pass.ensures.1

pub returns-in-Pass : goal.returns-in-Pass
returns-in-Pass c = same_wrote _ (line_at c.args.self.now.passes c.args.self.now.words.now c.args.self.now.sheet.now c.args.k) _ _ _ (pass_line_holds c.args.self.now.passes c.args.self.now.words.now c.args.self.now.sheet.now c.args.k c.in-Pass.k c.in-Pass.ensures.0 c.in-Pass.ensures.1) c.write_pass.ensures

pub write_role-requires : goal.write_role-requires
write_role-requires c =
    role_asked c.args.self.now.passes c.args.self.now.words.now c.args.self.now.sheet.now c.args.k c.args.out.now c.requires c.in-OfRole.ensures.0 c.in-OfRole.role c.in-OfRole.ensures.1 c.in-OfRole.ensures.2 c.in-OfRole.ensures.3
    c.sum_for.result c.sum_for.ensures.value

pub returns-in-OfRole : goal.returns-in-OfRole
returns-in-OfRole c =
    same_wrote _ (line_at c.args.self.now.passes c.args.self.now.words.now c.args.self.now.sheet.now c.args.k) _ _ _
    (role_is c.args.self.now.passes c.args.self.now.words.now c.args.self.now.sheet.now c.args.k c.in-OfRole.ensures.0 c.in-OfRole.role c.in-OfRole.ensures.1 c.in-OfRole.ensures.2 c.in-OfRole.ensures.3
    c.sum_for.result c.sum_for.ensures.value) c.write_role.ensures

pub write_sheet_line-requires : goal.write_sheet_line-requires
write_sheet_line-requires c = sheet_asked c.args.self.now.passes c.args.self.now.words.now c.args.self.now.sheet.now c.args.k c.args.out.now c.requires c.in-OfSheet.k c.in-OfSheet.ensures

pub returns-in-OfSheet : goal.returns-in-OfSheet
returns-in-OfSheet c = same_wrote _ (line_at c.args.self.now.passes c.args.self.now.words.now c.args.self.now.sheet.now c.args.k) _ _ _ (sheet_line_lem c.args.self.now.passes c.args.self.now.words.now c.args.self.now.sheet.now c.args.k c.in-OfSheet.k c.in-OfSheet.ensures) c.write_sheet_line.ensures
