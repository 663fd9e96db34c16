-- `labels::label_box` meets its contract: the walk sees each labelled place. Assumes nothing.
use mathlib.Core.Path.{◌≡◌, refl, ◌∙◌, ap}
use mathlib.Core.List.{map, []}
use native.Mathlib.Omega.{arith}
use Rattle.std.specs.Prelude.{Option, Some, None}
use Rattle.std.specs.List.{filter_map, reduce}
use Rattle.std.proofs.lemmas.Grind.{common_steps}
use Rattle.sheet.specs.Blank.{written_from}
use Rattle.labels.specs.Labelled.{labelled_cell}
use Rattle.labels.specs.Box.{bounds_of, bounds_joined, box_of}
use Rattle.labels.specs.declared.Bounds.{Bounds}
use Rattle.labels.proofs.Box.{box_walked}
use Rattle.labels.proofs.label_box.Goals as goal

pub returns : goal.returns
returns c = go c.reduce.result refl
  where
    go : (o : Option Bounds) → c.reduce.result ≡ o → c.reduce.result ≡ box_of c.args.sheet.now
    go None q =
        let e : map bounds_of (filter_map labelled_cell (written_from c.args.sheet.now 0)) ≡ [] = grind (arith, common_steps, q, c.reduce.ensures.runs) in
        q ∙ box_walked _ _ (ap (reduce bounds_joined) e)
    go (Some b) q =
        let r = c.reduce.ensures.runs in
        let e : map bounds_of (filter_map labelled_cell (written_from c.args.sheet.now 0)) ≡ r.0.items = grind (arith, common_steps) in
        let f : reduce bounds_joined r.0.items ≡ Some b = grind (arith, common_steps, q) in
        q ∙ box_walked _ _ (ap (reduce bounds_joined) e ∙ f)
