-- `put::bit` meets its contract, by the answer. Assumes nothing.
use mathlib.Core.Bool.{Bool, true, false}
use mathlib.Core.Path.{◌≡◌, refl, ◌∙◌}
use mir.Val.{bool_byte}
use Rattle.sheet.specs.Words.{bit_of}
use Rattle.report_words.proofs.put.bit.Goals as goal

same : (b : Bool) → bool_byte b ≡ bit_of b
unfolding bit_of
same true = refl
same false = refl

pub returns : goal.returns
returns c = c.from.ensures ∙ same c.args.b
