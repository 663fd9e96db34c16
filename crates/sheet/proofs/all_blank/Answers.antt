-- `sheet::all_blank` meets its contract: the joined word is 0 where each word is. Assumes nothing.
use mathlib.Core.Path.{◌≡◌, ap, ◌∙◌}
use lib.Bits.{bit_or}
use lib.Dec.{eqb}
use native.Mathlib.Omega.{arith}
use Rattle.std.specs.List.{fold}
use Rattle.std.proofs.lemmas.Grind.{common_steps}
use Rattle.sheet.proofs.Blank.{joined_all}
use Rattle.sheet.proofs.all_blank.Goals as goal

pub returns : goal.returns
returns c =
    let h : c.fold.result ≡ fold bit_or 0 c.args.places.now = grind (arith, common_steps) in
    ap (λ w. eqb w 0) h ∙ joined_all _
