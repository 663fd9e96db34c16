-- `read::fit_line` meets its contract. The invariant: what is left of the line, by what is left of the form, gives the numbers that are still to be held. Assumes nothing.
use Rattle.line_form.proofs.Reading.{Fitting}
use Rattle.line_form.proofs.read.fit_line.Given as goal

abbrev pub invariant-loop-c : goal.invariant-loop-c
invariant-loop-c l = Fitting l.form l.line l.values l.c-index l.at l.k
