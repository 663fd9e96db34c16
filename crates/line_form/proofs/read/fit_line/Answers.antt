-- `read::fit_line` meets its contract. The invariant: what is left of the line, by what is left of the form, gives the numbers that are still to be held. Assumes nothing.
use mathlib.Core.Path.{◌∙◌}
use Rattle.line_form.proofs.Reading.{begun, missed, byte_passed, taken_room, number_passed, all_read, more_left}
use Rattle.line_form.proofs.read.fit_line.Goals as goal
use Rattle.line_form.proofs.read.fit_line.Goals.{in-Some, in_default}

pub loop-c-init : goal.loop-c-init
loop-c-init c = begun _ _

pub returns-in_err-taken : goal.returns-in_err-taken
returns-in_err-taken c = c.from_residual.ensures ∙ missed c.loop-c.invariant c.loop-c-test.true c.in_err-taken.ensures

pub overflow_sub-at : goal.overflow_sub-at
overflow_sub-at c = taken_room c.loop-c.invariant c.loop-c-test.true c.in_ok-taken.ensures

pub loop-c-preserved : goal.loop-c-preserved
loop-c-preserved c =
    let g = c.loop-c.invariant in
    elim c.match-taken.branch [
      | in_default w ↦ rw (w.values-is, w.k-is) (byte_passed g c.loop-c-test.true c.in_ok-taken.ensures w.in_default.is)
      | in-Some w ↦ rw (w.values-is, w.put.ensures, w.k-is) (number_passed g c.loop-c-test.true c.in_ok-taken.ensures w.in-Some.is)
    ]

pub returns-then-at-line : goal.returns-then-at-line
returns-then-at-line c = more_left c.loop-c.invariant c.loop-c-test.false c.if-at-line.true

pub returns : goal.returns
returns c = all_read c.loop-c.invariant c.loop-c-test.false c.if-at-line.false
