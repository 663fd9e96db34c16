-- `line::write_sheet_line` meets its contract, by the number of the line. Assumes nothing.
use native.Mathlib.Omega.{arith}
use Rattle.report_line.specs.Result.{sheet_line}
use mathlib.Core.Path.{◌∙◌}
use Rattle.report_line.proofs.Forms.{hole_form, ambiguous_form, hole_is, ambiguous_is, among_cells, among_holes, among_ambiguous, place_asked, same_room, same_wrote}
use Rattle.report_line.proofs.line.write_sheet_line.Goals as goal

pub write_cell_line-requires : goal.write_cell_line-requires
write_cell_line-requires c = place_asked c.args.sheet.now c.args.k _ (sheet_line c.args.sheet.now c.args.k) _ c.args.out.now c.if-k-lt-PLACES.true (among_cells c.args.sheet.now c.args.k c.if-k-lt-PLACES.true) c.requires

pub returns-then-k-lt-PLACES : goal.returns-then-k-lt-PLACES
returns-then-k-lt-PLACES c = same_wrote _ (sheet_line c.args.sheet.now c.args.k) _ _ _ (among_cells c.args.sheet.now c.args.k c.if-k-lt-PLACES.true) c.write_cell_line.ensures

pub write_mark_line-requires : goal.write_mark_line-requires
write_mark_line-requires c =
    record {
      below = omega arith;
      two = hole_form;
      room = same_room _ _ c.args.out.now (hole_is c.args.sheet.now _ c.is_hole.ensures ∙ among_holes c.args.sheet.now c.args.k c.if-k-lt-PLACES.false c.if-k-lt-FIRST_AMBIGUOUS.true) c.requires.room;
    }

pub returns-then-k-lt-FIRST_AMBIGUOUS : goal.returns-then-k-lt-FIRST_AMBIGUOUS
returns-then-k-lt-FIRST_AMBIGUOUS c = same_wrote _ _ _ _ _ (hole_is c.args.sheet.now _ c.is_hole.ensures ∙ among_holes c.args.sheet.now c.args.k c.if-k-lt-PLACES.false c.if-k-lt-FIRST_AMBIGUOUS.true) c.write_mark_line.ensures

pub write_mark_line-requires-2 : goal.write_mark_line-requires-2
write_mark_line-requires-2 c =
    record {
      below = omega (arith, c.requires.on.below);
      two = ambiguous_form;
      room = same_room _ _ c.args.out.now (ambiguous_is c.args.sheet.now _ c.is_ambiguous.ensures ∙ among_ambiguous c.args.sheet.now c.args.k c.if-k-lt-FIRST_AMBIGUOUS.false) c.requires.room;
    }

pub returns : goal.returns
returns c = same_wrote _ _ _ _ _ (ambiguous_is c.args.sheet.now _ c.is_ambiguous.ensures ∙ among_ambiguous c.args.sheet.now c.args.k c.if-k-lt-FIRST_AMBIGUOUS.false) c.write_mark_line-2.ensures
