-- `join_sheet::asked_shift` meets its contract, label by label. Assumes nothing.
use Prim.Native.Nat.{ℕ}
use native.Mathlib.Omega.{arith}
use borrow.Author.Rules.{rules}
use Rattle.std.specs.Prelude.{◌≡◌, None, Some}
use Rattle.join_sheet.specs.Held.{cell_on}
use Rattle.join_sheet.specs.declared.SecondLabel.{SecondLabel}
use Rattle.join_sheet.proofs.Walk.{asked_walked, asked_one, each_came, one_came, before_came, few_came}
use Rattle.join_sheet.proofs.asked_shift.Goals as goal

pub returns : goal.returns
returns c =
    let find = cell_on c.args.first.now.sheet.now in
    let second = c.args.second.now.labels.now in
    asked_walked find second _
    (λ e.
    let h = rw e at c.find_map.ensures.runs in
    each_came h.0 second (cc) _ (λ (l : SecondLabel). asked_one find l ≡ None) (λ x k. search rules) h.2.0 (h.2.1 (λ a r f' k. search rules)))
    (λ o e.
    let h = rw e at c.find_map.ensures.runs in
    let i : ℕ = h.2.0 in
    let w = h.2.3 (λ a r f' k. search rules) in (
      i,
      omega (arith, few_came h.0 second (cc), h.2.1),
      one_came h.0 second (cc) _ (λ (l : SecondLabel). asked_one find l ≡ Some o) (λ x k. search rules) i h.2.1 w.0,
      before_came h.0 second (cc) _ (λ (l : SecondLabel). asked_one find l ≡ None) (λ x k. search rules) i (omega (arith, h.2.1)) w.1,
    ))
