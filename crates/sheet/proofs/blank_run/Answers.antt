-- `sheet::blank_run` meets its contract: all places passed hold nothing. Assumes nothing.
use native.Mathlib.Omega.{arith}
use Rattle.std.proofs.lemmas.Grind.{common_steps}
use Rattle.sheet.proofs.Blank.{blank_each}
use Rattle.sheet.proofs.blank_run.Goals as goal

pub returns : goal.returns
returns c =
    record {
      upto = grind (arith, common_steps);
      blank = blank_each _ _ _ (λ i h. grind (arith, common_steps));
      stops = λ h e. grind (arith, common_steps);
    }
