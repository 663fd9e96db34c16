-- `join_sheet::First::cell_with` meets its contract: the first place that holds the corner, by a walk. Assumes nothing.
use mathlib.Core.Path.{◌≡◌, ap, ◌∙◌}
use Prim.Native.Nat.{ℕ}
use native.Mathlib.Omega.{arith}
use Rattle.std.proofs.Common.{rules, tests}
use Rattle.std.specs.List.{find}
use Rattle.std.specs.Option.{option_map}
use Rattle.std.proofs.lemmas.Grind.{common_steps}
use Rattle.std.proofs.lemmas.Iterator.Consumers.{YieldsList-from_first}
use Rattle.std.proofs.lemmas.Iterator.Search.{find_from_yields_List}
use Rattle.sheet.specs.Cells.{cell_of}
use Rattle.sheet.specs.Words.{label_of}
use Rattle.sheet.specs.Blank.{written_from, written_rest}
use Rattle.labels.specs.Used.{names}
use Rattle.join_sheet.proofs.Walk.{found_walked}
use Rattle.join_sheet.proofs.First.cell_with.Goals as goal

pub returns : goal.returns
returns c =
    let k = c.args.corner in
    let sheet = c.args.self.now.sheet.now in
    let f : option_map (λ (e : ℕ × ℕ). e) c.find.result ≡ find (λ (e : ℕ × ℕ). names k (label_of e.1)) (written_from sheet 0) =
    find_from_yields_List (λ (e : ℕ × ℕ). names k (label_of e.1)) _ _ c.find.result c.find.ensures.ran
    (YieldsList-from_first (λ (e : ℕ × ℕ). e) written_rest _ c.new.ensures.rest)
    (λ x b q k. search (rules, tests)) in
    let g : c.map.result ≡ option_map (λ (e : ℕ × ℕ). cell_of e.0) (option_map (λ (e : ℕ × ℕ). e) c.find.result) = grind (arith, common_steps) in
    g ∙ ap (option_map (λ (e : ℕ × ℕ). cell_of e.0)) f ∙ found_walked _ _
