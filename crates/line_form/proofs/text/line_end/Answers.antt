-- `text::line_end` meets its contract: by where the next LF is. Assumes nothing.
use Rattle.line_form.proofs.Lines.{line_found, line_last}
use Rattle.line_form.proofs.text.line_end.Goals as goal

pub returns-in-Some : goal.returns-in-Some
returns-in-Some c = line_found _ _ _ c.in-Some.ensures

pub returns-in-None : goal.returns-in-None
returns-in-None c = line_last _ _ c.requires c.in-None.ensures
