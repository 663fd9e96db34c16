-- `lines::Source::blank_lines` meets its contract: the lines counted are of places of one row, which hold nothing. Assumes nothing.
use Rattle.report.proofs.Blank.{lines_of}
use Rattle.report.proofs.lines.Source.blank_lines.Goals as goal

pub returns-in-OfSheet : goal.returns-in-OfSheet
returns-in-OfSheet c = lines_of _ _ _ _ _ c.in-OfSheet.ensures c.blank_places.ensures
