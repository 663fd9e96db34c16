-- `labels::label_count` meets its contract: the walk sees each labelled place. Assumes nothing.
use mathlib.Core.Path.{◌≡◌, ◌∙◌}
use Prim.Native.Nat.{ℕ}
use native.Mathlib.Omega.{arith}
use lib.ListN.{length}
use Rattle.std.specs.List.{filter}
use Rattle.std.proofs.lemmas.Grind.{common_steps}
use Rattle.sheet.specs.Blank.{written_from}
use Rattle.labels.specs.Labelled.{is_labelled}
use Rattle.labels.proofs.Labelled.{count_walked}
use Rattle.labels.proofs.label_count.Goals as goal

pub returns : goal.returns
returns c =
    let e : c.count.result ≡ length (filter (λ (e : ℕ × ℕ). is_labelled e.1) (written_from c.args.sheet.now 0)) = grind (arith, common_steps) in
    e ∙ count_walked _
