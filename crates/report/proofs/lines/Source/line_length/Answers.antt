-- `lines::Source::line_length` meets its contract, by which line has the number. Assumes nothing.
use Prim.Native.Nat.{ℕ}
use Rattle.report.proofs.Writing.{heading_is, role_is}
use Rattle.report.proofs.Numbered.{pass_line_holds, sheet_line_lem}
use Rattle.report_line.proofs.Short.{sheet_short}
use lib.ListN.{length}
use mathlib.Core.List.{List}
use mathlib.Core.Path.{ap, ◌∙◌}
use native.Mathlib.Omega.{arith}
use Rattle.report.proofs.lines.Source.line_length.Goals as goal

pub returns-in-Heading : goal.returns-in-Heading
returns-in-Heading c = c.write_heading.ensures.count ∙ ap (λ (l : List ℕ). length l) (heading_is c.args.self.now.passes c.args.self.now.words.now c.args.self.now.sheet.now c.args.k c.in-Heading.ensures)

pub returns-in-Pass : goal.returns-in-Pass
returns-in-Pass c = c.pass_length.ensures ∙ ap (λ (l : List ℕ). length l) (pass_line_holds _ _ c.args.self.now.sheet.now _ _ c.in-Pass.ensures.0 c.in-Pass.ensures.1)

pub returns-in-OfRole : goal.returns-in-OfRole
returns-in-OfRole c =
    c.role_length.ensures
    ∙ ap (λ (l : List ℕ). length l)
    (role_is c.args.self.now.passes c.args.self.now.words.now c.args.self.now.sheet.now c.args.k c.in-OfRole.ensures.0 c.in-OfRole.role c.in-OfRole.ensures.1 c.in-OfRole.ensures.2 c.in-OfRole.ensures.3
    c.sum_for.result c.sum_for.ensures.value)

pub write_sheet_line-requires : goal.write_sheet_line-requires
write_sheet_line-requires c = record { on = record { there = c.args.self.now.all.sheet_long; below = omega (arith, c.requires, c.in-OfSheet.ensures) }; room = omega (arith, sheet_short c.args.self.now.sheet.now c.in-OfSheet.k (omega (arith, c.requires, c.in-OfSheet.ensures))) }

pub returns-in-OfSheet : goal.returns-in-OfSheet
returns-in-OfSheet c = c.write_sheet_line.ensures.count ∙ ap (λ (l : List ℕ). length l) (sheet_line_lem _ c.args.self.now.words.now _ _ _ c.in-OfSheet.ensures)
