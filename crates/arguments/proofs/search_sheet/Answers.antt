-- `arguments::search_sheet` meets its contract: one walk over the places that hold something. Assumes nothing.
use mathlib.Core.Path.{refl}
use Rattle.arguments.proofs.SheetSearch.{walk_start, walk_more, walk_end}
use Rattle.arguments.proofs.search_sheet.Goals as goal

pub loop-place_and_word-init : goal.loop-place_and_word-init
loop-place_and_word-init c = rw c.into_iter-place_and_word-iterator.ensures.into_iter_gives (walk_start c.requires c.default-found.result _ (λ t. record { around = c.default-found.ensures.0 t; unknown = c.default-found.ensures.1.0 t; doubled = c.default-found.ensures.1.1 t }) refl _ c.new-place_and_word-items.ensures.rest)

pub loop-place_and_word-preserved : goal.loop-place_and_word-preserved
loop-place_and_word-preserved c = walk_more c.loop-place_and_word.invariant c.in-Some.ensures.steps c.look_at.ensures

pub returns : goal.returns
returns c = walk_end c.loop-place_and_word.invariant c.in-None.ensures.steps.0
