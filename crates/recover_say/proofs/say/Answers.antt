-- `recover_say::say` meets its contract: the pieces before each line are written, and each is lent whole. Assumes nothing.
use Rattle.std.proofs.Common.{refl, sym, ◌∙◌, arith, rules, false, ◌≡◌, ◌<◌, ◌≤◌}
use Rattle.std.proofs.lemmas.Result.{err_from_is_err_and}
use Rattle.frame.proofs.Mapped.{mapped_err, mapped_ok}
use Rattle.recover_say.specs.Said.{WroteText}
use Rattle.recover_say.proofs.Telling.{begun, few_said, few_lines, text_so, one_more, told_of}
use Rattle.recover_say.proofs.Writing.{no_piece, wrote_more, wrote_part, wrote_all}
use Rattle.recover_say.proofs.say.Goals as goal

pub answer_lines-lines-requires : goal.answer_lines-lines-requires
answer_lines-lines-requires g c = few_said _ _ _ c.args.answer.can_say

pub loop-said-init : goal.loop-said-init
loop-said-init g c = (begun _ _ _ _ refl, refl, no_piece _ _)

pub returns-in_err-map_err : goal.returns-in_err-map_err
returns-in_err-map_err g c =
    let l = c.loop-said in
    let p = err_from_is_err_and c.from_residual.result c.from_residual.ensures.1 in
    let is = text_so _ _ _ l.invariant.0 c.piece-piece.ensures.wrote_piece in
    let q = mapped_err c.put_piece.result c.map_err.result _ c.map_err.ensures.cases _ c.in_err-map_err.was in
    let e : c.in_err-map_err.field-0.0 ≡ record { said = l.said } = search rules in
    let w : WroteText _ _ _ false = rw q.1 at c.put_piece.ensures in
    let left : l.said.next < l.said.lines = omega (arith, c.loop-said-test.true, l.invariant.1) in
    rw (p.1, p.2, e)
    (record {
      told = (told_of _ _ _ l.invariant.0 (l.invariant.1 ∙ c.answer_lines-lines.ensures), left);
      wrote = wrote_part _ _ _ _ _ _ is l.invariant.2 w left (omega (arith, l.invariant.0.behind, left));
    })

pub loop-said-preserved : goal.loop-said-preserved
loop-said-preserved g c =
    let l = c.loop-said in
    let p = c.piece-piece in
    let is = text_so _ _ _ l.invariant.0 p.ensures.wrote_piece in (
      one_more _ _ _ l.invariant.0 p.ensures.wrote_piece (omega (arith, c.loop-said-test.true, c.answer_lines-lines.ensures)) p.ensures.moves.later (l.invariant.0.whole ∙ sym p.auto.out),
      refl,
      wrote_more _ _ _ _ _ _ is l.invariant.2 (rw (mapped_ok c.put_piece.result c.map_err.result _ c.map_err.ensures.cases _ c.in_ok-map_err.was) at c.put_piece.ensures),
    )

pub returns : goal.returns
returns g c =
    let i = c.loop-said.invariant in
    let past : c.loop-said.said.lines ≤ c.loop-said.said.next = omega (arith, c.loop-said-test.false, i.1) in
    record {
      told = (told_of _ _ _ i.0 (i.1 ∙ c.answer_lines-lines.ensures), past);
      wrote = wrote_all _ _ _ _ i.2 past;
    }
