-- `fill::fill_accepted` meets its contract: the limit as the definition has it, and what the rounds leave. Assumes nothing.
use mathlib.Core.Path.{refl, ap, ◌∙◌}
use Prim.Native.Nat.{ℕ}
use borrow.Author.Rules.{rules}
use Rattle.sheet.specs.Corners.{corner_lists}
use Rattle.passes.specs.Fill.{fill_limit}
use lib.Ieee.{of_bits}
use Rattle.arguments.proofs.Holding.{holdable}
use Rattle.fill.proofs.Rounds.{pass_done}
use Rattle.fill.proofs.fill_accepted.Goals as goal

pub hold-requires : goal.hold-requires
unfolding of_bits
hold-requires c = holdable _ _ _ c.requires (c.fill.ensures.after (λ _ e. e)) (c.fill-2.ensures.after (λ _ e. e)) (c.fill-3.ensures.after (λ _ e. e)) refl

pub returns : goal.returns
returns c =
    let a = c.args in
    let l = a.corners in
    pass_done (corner_lists l.xs.now l.ys.now l.pitches.now) l.shades.now a.sheet.now a.around a.attached.now a.settings a.params
    c.hold.ensures refl refl refl refl refl
    (c.round_limit-limit.ensures ∙ ap (λ (n : ℕ). fill_limit n a.params.max_iters) c.label_count.ensures) c.fill_rounds-rounds.ensures c.stats.ensures c.of.ensures (search rules) (search rules)
