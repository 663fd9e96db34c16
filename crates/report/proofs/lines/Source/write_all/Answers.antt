-- `lines::Source::write_all` meets its contract: the lines before line k stand at the front, and what comes after them completes the text. Assumes nothing.
use native.Mathlib.Omega.{arith}
use Rattle.report.proofs.Writing.{filling_asked, filling_more, filling_end}
use Rattle.report.proofs.lines.Source.write_all.Goals as goal

pub write_line-at-requires : goal.write_line-at-requires
write_line-at-requires c = filling_asked c.args.self.now.passes c.args.self.now.words.now c.args.self.now.sheet.now c.args.out.now c.loop-k.out c.loop-k.at c.loop-k.k c.requires c.loop-k.invariant (omega (arith, c.loop-k-test.true))

pub loop-k-preserved : goal.loop-k-preserved
loop-k-preserved c = filling_more c.args.self.now.passes c.args.self.now.words.now c.args.self.now.sheet.now c.args.out.now c.loop-k.out c.loop-k.at c.loop-k.k c.requires c.loop-k.invariant (omega (arith, c.loop-k-test.true)) _ _ c.write_line-at.ensures

pub returns : goal.returns
returns c = filling_end c.args.self.now.passes c.args.self.now.words.now c.args.self.now.sheet.now c.args.out.now c.loop-k.out c.loop-k.at c.loop-k.k c.requires c.loop-k.invariant (omega (arith, c.loop-k-test.false))
