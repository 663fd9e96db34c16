-- `write::write_form` meets its contract. The invariant: what is written and the text of what is left of the form make the text; behind it the part is as it was. Assumes nothing.
use Rattle.line_form.proofs.Writing.{Filling}
use Rattle.line_form.proofs.write.write_form.Given as goal

abbrev pub invariant-loop-c : goal.invariant-loop-c
invariant-loop-c l = Filling l.form l.words l.initial.out l.out l.c-index l.at l.k
