-- `frame::read_lines` meets its contract: a line a turn, and what is left leads where the whole text does. Assumes nothing.
use Rattle.std.proofs.Common.{◌≡◌, sym, ap, ◌∙◌, rules, eqb}
use Rattle.std.proofs.lemmas.Fn.{always_returns_same}
use Rattle.std.proofs.lemmas.Result.{err_from_is_err_and}
use Rattle.frame.proofs.Mapped.{mapped_err, mapped_ok}
use Rattle.frame.proofs.Turn.{FirstLine, first_line, turning_start, turn_stopped, turn_onward, end_missing, finishable, end_finished}
use Rattle.frame.proofs.read_lines.Goals as goal
use Rattle.frame.proofs.read_lines.Goals.{In-Some}

-- what the iterator gives is the first line of what it has left
first : (c : In-Some) → FirstLine c.loop-line.line-iterator.rest.now c.in-Some.line.now c.next.new.self.rest.now
first c =
    let s = c.in-Some.ensures.steps in
    first_line _ _ _ s.1.0 s.0 s.1.1 (s.1.2 (λ b. eqb b 10) (always_returns_same _ _ _ (λ a r f k. search rules))).1 s.2

pub loop-line-init : goal.loop-line-init
loop-line-init c =
    turning_start _ _ _ (ap (λ s. s.rest.now) c.into_iter-line-iterator.ensures.into_iter_gives ∙ c.split_inclusive-line-items.ensures.rest) c.requires

pub returns-in_err-map_err : goal.returns-in_err-map_err
returns-in_err-map_err c =
    let p = err_from_is_err_and c.from_residual.result c.from_residual.ensures.1 in
    let q = mapped_err _ _ _ c.map_err.ensures.cases _ c.in_err-map_err.was in
    let t = turn_stopped c.loop-line.invariant (first ((goal.at.returns-in_err-map_err c).In-Some)) _ _ c.step_line.ensures _ q.1 in
    let e : c.in_err-map_err.field-0.0 ≡ record { refusal = q.0; line = c.loop-line.n } = search rules in
    rw (p.1, p.2, e) t

pub loop-line-preserved : goal.loop-line-preserved
loop-line-preserved c =
    turn_onward c.loop-line.invariant (first ((goal.at.loop-line-preserved c).In-Some)) _ _ c.step_line.ensures (mapped_ok _ _ _ c.map_err.ensures.cases _ c.in_ok-map_err.was)

pub returns-then-not-may_end : goal.returns-then-not-may_end
returns-then-not-may_end c = end_missing c.loop-line.invariant c.in-None.ensures.steps.0 (sym c.may_end.ensures ∙ c.if-not-may_end.true)

pub finish-requires : goal.finish-requires
finish-requires c = finishable _ _ _ c.loop-line.invariant.holds

pub returns : goal.returns
returns c =
    rw c.finish.ensures.others
    (end_finished c.loop-line.invariant c.in-None.ensures.steps.0 (sym c.may_end.ensures ∙ c.if-not-may_end.false) _ _ c.finish.ensures.sheet)
