-- `Scan::next_tested` meets its contract: the first that passes is found. Assumes nothing.
use Prim.Native.Nat.{ℕ}
use mathlib.Core.Path.{◌≡◌}
use mathlib.Core.Bool.{Bool, true, false}
use Rattle.std.proofs.Common.{rules}
use Rattle.std.proofs.lemmas.Iterator.{first_from_Range}
use Rattle.candidates.specs.Candidates.{positions_in, eligible_in}
use Rattle.candidates.specs.Steps.{is_within}
use Rattle.candidates.proofs.Scanning.{next_found}
use Rattle.candidates.proofs.Scan.next_tested.Goals as goal

pub returns : goal.returns
returns c =
    let s = c.args.self.now in
    let test : ℕ → Bool = is_within (positions_in s.held.corners.now) (eligible_in s.held.corners.now s.held.used.now s.kind) s.prediction c.args.limit in
    next_found test s.held.corners.now.count.number c.args.from c.find.result c.requires
    (first_from_Range _ _ _ _ (λ (k : ℕ). test k ≡ true) (λ (k : ℕ). test k ≡ false) c.find.ensures.ran (λ x q k. search rules) (λ x q k. search rules))
