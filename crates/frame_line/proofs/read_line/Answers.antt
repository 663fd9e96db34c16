-- `frame_line::read_line` meets its contract: the rows are tried in order. Assumes nothing.
use Prim.Native.Nat.{ℕ}
use native.Mathlib.Omega.{arith}
use borrow.Author.Rules.{rules}
use Rattle.frame_line.proofs.Laws.{rows_tried}
use Rattle.frame_line.proofs.Tried.{each_came, one_came, before_came, few_came}
use Rattle.frame_line.proofs.read_line.Goals as goal

pub returns : goal.returns
returns c =
    rows_tried c.args.line.now _
    (λ e j l.
    let h = rw e at c.find_map.ensures.runs in
    let k = each_came h.0 16 h.1 _ h.2.0 (h.2.1 (λ a r f' k. search rules)) j l in
    search rules)
    (λ d e.
    let h = rw e at c.find_map.ensures.runs in
    let i : ℕ = h.2.0 in
    let w = h.2.3 (λ a r f' k. search rules) in
    let k = one_came h.0 16 h.1 _ i (h.2.1) w.0 in (
      i,
      omega (arith, few_came h.0 16 h.1, h.2.1),
      search rules,
      λ j l. let m = before_came h.0 16 h.1 _ i (omega (arith, h.2.1)) w.1 j l in search rules,
    ))
