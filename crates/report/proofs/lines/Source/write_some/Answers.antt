-- `lines::Source::write_some` meets its contract: the lines up to line k stand at the front, and the rest of the piece starts there. Assumes nothing.
use mathlib.Core.Path.{refl}
use native.Mathlib.Omega.{arith}
use Rattle.report.proofs.Short.{tame_short}
use Rattle.report.proofs.Writing.{cutting_full, cutting_last, cutting_asked, cutting_more}
use Rattle.report.proofs.Blank.{skipped_at}
use Rattle.report.proofs.lines.Source.write_some.Goals as goal

pub returns-then-out-at-lt-LINE_ROOM : goal.returns-then-out-at-lt-LINE_ROOM
returns-then-out-at-lt-LINE_ROOM c = cutting_full c.args.self.now.passes c.args.self.now.words.now c.args.self.now.sheet.now c.args.from c.args.out.now c.requires c.loop-k.out c.loop-k.at c.loop-k.k c.loop-k.invariant c.if-out-at-lt-LINE_ROOM.true _ refl refl

pub write_line-at-requires : goal.write_line-at-requires
write_line-at-requires c = cutting_asked c.args.self.now.passes c.args.self.now.words.now c.args.self.now.sheet.now c.args.from c.args.out.now c.requires c.loop-k.out c.loop-k.at c.next_filled-filled.result (skipped_at c.args.self.now.passes c.args.self.now.words.now c.args.self.now.sheet.now c.args.from c.args.out.now c.requires c.loop-k.out c.loop-k.at c.loop-k.k c.loop-k.invariant c.if-out-at-lt-LINE_ROOM.false c.next_filled-filled.ensures) c.next_filled-filled.ensures.below c.if-out-at-lt-LINE_ROOM.false (tame_short c.args.self.now.passes c.args.self.now.words.now c.args.self.now.sheet.now c.requires.sound.few c.requires.sound.tame c.next_filled-filled.result c.next_filled-filled.ensures.below)

pub loop-k-preserved : goal.loop-k-preserved
loop-k-preserved c = cutting_more c.args.self.now.passes c.args.self.now.words.now c.args.self.now.sheet.now c.args.from c.args.out.now c.requires c.loop-k.out c.loop-k.at c.next_filled-filled.result (skipped_at c.args.self.now.passes c.args.self.now.words.now c.args.self.now.sheet.now c.args.from c.args.out.now c.requires c.loop-k.out c.loop-k.at c.loop-k.k c.loop-k.invariant c.if-out-at-lt-LINE_ROOM.false c.next_filled-filled.ensures) c.next_filled-filled.ensures.below c.if-out-at-lt-LINE_ROOM.false (tame_short c.args.self.now.passes c.args.self.now.words.now c.args.self.now.sheet.now c.requires.sound.few c.requires.sound.tame c.next_filled-filled.result c.next_filled-filled.ensures.below) _ _ c.write_line-at.ensures

pub returns : goal.returns
returns c = cutting_last c.args.self.now.passes c.args.self.now.words.now c.args.self.now.sheet.now c.args.from c.args.out.now c.requires c.loop-k.out c.loop-k.at c.loop-k.k c.loop-k.invariant (omega (arith, c.loop-k-test.false)) _ refl refl
