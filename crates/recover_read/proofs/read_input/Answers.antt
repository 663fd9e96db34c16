-- `recover_read::read_input` meets its contract: what holds before each read. The measure is the rest of the buffer and the interruptions that may
-- still come. Assumes nothing.
use Rattle.std.proofs.Common.{refl, ◌∙◌, arith}
use Rattle.std.proofs.KnownBytes.{Consumes-nil}
use Rattle.std.specs.declared.ops.ControlFlow.TheVariants.{Break, Continue}
use Rattle.recover_read.proofs.Laws.{begun, same_size, next_of, next_took_of, filled}
use Rattle.recover_read.proofs.read_input.Goals as goal

pub loop-at-init : goal.loop-at-init
loop-at-init g c = (refl, begun _, Consumes-nil _)

pub returns-in-Break-clause-read : goal.returns-in-Break-clause-read
returns-in-Break-clause-read g c =
    let r = c.read_rest in
    next_of _ _ _ c.loop-at-test.true r.auto.rest _ _ _ (Break c.in-Break.answer) c.loop-at.invariant.1 r.ensures.fits c.read_on.ensures c.in-Break.is

pub returns-in-Break-clause-took : goal.returns-in-Break-clause-took
returns-in-Break-clause-took g c =
    let r = c.read_rest in
    next_took_of _ _ _ c.loop-at-test.true r.auto.rest _ _ _ c.loop-at.invariant.2 _ _ _ (Break c.in-Break.answer) r.ensures.fits r.ensures.took c.read_on.ensures c.in-Break.is

pub loop-at-smaller : goal.loop-at-smaller
loop-at-smaller g c =
    let r = c.read_rest in
    let n = next_of _ _ _ c.loop-at-test.true r.auto.rest _ _ _ (Continue c.in-Continue.so) c.loop-at.invariant.1 r.ensures.fits c.read_on.ensures c.in-Continue.is in
    n.1

pub loop-at-preserved : goal.loop-at-preserved
loop-at-preserved g c =
    let r = c.read_rest in
    let h = c.loop-at-test.true in
    let so = c.loop-at.invariant in
    let to = Continue c.in-Continue.so in
    let n = next_of _ _ _ h r.auto.rest _ _ _ to so.1 r.ensures.fits c.read_on.ensures c.in-Continue.is in (
      same_size _ _ _ h r.auto.rest ∙ so.0,
      n.0,
      next_took_of _ _ _ h r.auto.rest _ _ _ so.2 _ _ _ to r.ensures.fits r.ensures.took c.read_on.ensures c.in-Continue.is,
    )

pub returns-clause-read : goal.returns-clause-read
returns-clause-read g c = filled c.loop-at.invariant.1 (omega (arith, c.loop-at-test.false))
