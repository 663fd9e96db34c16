-- Walks and rounds, which fill and local share (document 01, "Sheet": "each round walks, by i then j, ..", "A round's cells are listed at its start; a
-- round attaching nothing is the last."). What differs is the cells of a round, one visit, and the limit. Definitions only.
use Rattle.std.specs.Prelude.{cond, List, [], ◌∷◌, ℕ, zero, suc, ◌+◌, eqb, length}
use Rattle.sheet.specs.Cells.{cell_of}
use Rattle.sheet.specs.declared.Cell.{Cell}

-- a pass that walks in rounds, by where it stands: the cells of a round, one visit, and the new cells so far
pub record RoundPass (S : Type 0) : Type 0 where
  pub cells : S → List ℕ
  pub visit : Cell → S → S
  pub made : S → List ℕ

-- some cells, one after the other
unfoldable pub walk : {S : Type 0} → (Cell → S → S) → List ℕ → S → S
walk visit [] s = s
walk visit (q ∷ qs) s = walk visit qs (visit (cell_of q) s)

-- "A round's cells are listed at its start"
unfoldable pub one_round : {S : Type 0} → RoundPass S → S → S
one_round w s = walk w.visit (w.cells s) s

-- where a pass stands after some rounds, and how many there were
pub record Rounds (S : Type 0) : Type 0 where
  pub state : S
  pub rounds : ℕ

-- one round more
abbrev pub next_round : {S : Type 0} → RoundPass S → Rounds S → Rounds S
next_round w r = record { state = one_round w r.state; rounds = r.rounds + 1 }

-- at most m rounds more; "a round attaching nothing is the last"
unfoldable pub rounds_from : {S : Type 0} → RoundPass S → ℕ → Rounds S → Rounds S
rounds_from w zero r = r
rounds_from w (suc m) r =
    let next = next_round w r in
    cond (eqb (length (w.made next.state)) (length (w.made r.state))) next (rounds_from w m next)
