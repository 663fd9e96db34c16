-- `run_frame` meets its contract: a pass a turn, what is left to do leads to the same end, and the kept box is that of the sheet. Assumes nothing.
use Rattle.std.proofs.Common.{arith, add-one, rules}
use mathlib.Core.Path.{sym, ap, subst, ◌∙◌}
use Rattle.report_words.specs.Asked.{AnswerFits, with_answer}
use Rattle.frame_passes.proofs.Running.{small_fits, said_is, after_is, pass_left_lem, box_left_lem, none_run, one_run, all_run}
use Rattle.frame_passes.proofs.run_frame.Goals as goal

pub loop-k-init : goal.loop-k-init
loop-k-init c = record { around_is = c.requires.box_read; going = none_run _ _ _ _ _ }

pub put_outcome-requires-clause-answer_fits : goal.put_outcome-requires-clause-answer_fits
put_outcome-requires-clause-answer_fits c =
    let o = c.call_pass-answer in
    subst AnswerFits (sym (said_is o.result c.map.result _ (λ x y h. search rules) c.map.ensures.cases)) (small_fits o.result o.ensures.small)

pub loop-k-preserved : goal.loop-k-preserved
loop-k-preserved c =
    let k = c.loop-k in
    let o = c.call_pass-answer in
    let said = said_is o.result c.map.result _ (λ x y h. search rules) c.map.ensures.cases in
    let e = pass_left_lem _ _ _ k.sheet k.queue k.attached o.new.sheet o.new.queue o.new.attached k.around _ _ _ o.result k.invariant.around_is o.ensures.attached_after k.k _ k.words _ (c.put_outcome.ensures ∙ ap (with_answer k.words k.k _) said) in
    record {
      around_is =
          box_left_lem _ _ _ k.sheet k.queue k.attached o.new.sheet o.new.queue o.new.attached k.around _ _ _ o.result k.invariant.around_is o.ensures.attached_after _
          (after_is k.around o.result _ _ (λ x h. search rules) c.map_or-around.ensures);
      going = rw (add-one k.k, e, c.pass_at-pass.ensures, c.role_at.ensures, k.auto.queue, k.auto.attached) (one_run _ _ _ _ _ _ _ (omega arith) k.invariant.going);
    }

pub returns : goal.returns
returns c = all_run _ _ _ _ _ _ _ (omega arith) c.loop-k.invariant.going
