-- `lines::Source::room_left` meets its contract: what is left of the room falls line by line. Assumes nothing.
use mathlib.Core.Path.{refl}
use native.Mathlib.Omega.{arith}
use Rattle.std.proofs.Common.{rules}
use Rattle.report.proofs.Trying.{tried}
use Rattle.report.proofs.lines.Source.room_left.Goals as goal

pub returns : goal.returns
returns c =
    tried _ _ c.args.self.now.passes c.args.self.now.words.now c.args.self.now.sheet.now c.args.room (λ left k v h lt q. search rules) _ _ _ refl (omega arith) c.try_fold.ensures.ran
