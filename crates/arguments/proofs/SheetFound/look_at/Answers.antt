-- `arguments::SheetFound::look_at` meets its contract: the word names no corner, one of the n, or another. Assumes nothing.
use mathlib.Core.Path.{◌≡◌, sym, ◌∙◌}
use native.Mathlib.Omega.{arith}
use Rattle.arguments.proofs.SheetSearch.{looked_none, looked_given, looked_unknown}
use Rattle.arguments.proofs.SheetFound.look_at.Goals as goal

pub note-requires : goal.note-requires
note-requires c = record { entry = λ k e. let q : c.in-Some.k ≡ k = cc in omega (arith, q, c.if-k-n.true, c.requires.1) }

pub returns-then-k-n : goal.returns-then-k-n
returns-then-k-n c =
    rw (c.widen-self.ensures, c.cell_of.ensures)
    (looked_given _ c.args.place_and_word _ _ c.in-Some.k (sym c.label_of.ensures ∙ c.in-Some.is) c.if-k-n.true c.note.ensures)

pub returns-else-k-n : goal.returns-else-k-n
returns-else-k-n c =
    rw (c.widen-self.ensures, c.cell_of.ensures)
    (looked_unknown _ c.args.place_and_word _ _ c.in-Some.k (sym c.label_of.ensures ∙ c.in-Some.is) c.if-k-n.false)

pub returns-in_default : goal.returns-in_default
returns-in_default c = looked_none _ c.args.place_and_word _ _ (sym c.label_of.ensures ∙ c.in_default.is)
