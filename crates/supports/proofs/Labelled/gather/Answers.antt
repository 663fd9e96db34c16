-- `supports::Labelled::gather` meets its contract: the places that have come so far are listed. Assumes nothing.
use mathlib.Core.Path.{sym, ◌∙◌}
use mathlib.Core.List.{◌∷◌, []}
use Prim.Native.Nat.{ℕ, ◌<◌}
use lib.ListN.{length-append}
use native.Mathlib.Omega.{arith}
use Rattle.std.proofs.Common.{rules, tests}
use Rattle.std.specs.List.{filter}
use Rattle.std.proofs.lemmas.List.{map-id}
use Rattle.std.proofs.lemmas.Iterator.{YieldsList}
use Rattle.std.proofs.lemmas.Iterator.Consumers.{YieldsList-at, YieldsList-from_first, YieldsList-from_filter, YieldsList-turn, YieldsList-end}
use Rattle.sheet.specs.Blank.{written_rest, written_from}
use Rattle.labels.specs.Labelled.{is_labelled}
use Rattle.labels.proofs.Labelled.{count_walked}
use Rattle.supports.specs.Nearest.{Gathered}
use Rattle.supports.proofs.Listing.{listed_more, listed_all}
use Rattle.supports.proofs.Labelled.gather.Given as given
use Rattle.supports.proofs.Labelled.gather.Goals as goal
use Rattle.supports.proofs.Labelled.gather.Goals.{After-into_iter-place-iterator, In-Some, In-None}

road : (c : After-into_iter-place-iterator) → YieldsList (given.iterator-loop-place).next_gives (λ e. e) c.into_iter-place-iterator.result (filter (λ (e : ℕ × ℕ). is_labelled e.1) (written_from c.args.sheet.now 0))
road c =
    YieldsList-at c.into_iter-place-iterator.ensures.into_iter_gives
    (YieldsList-from_filter _ (λ e. is_labelled e.1) (YieldsList-at c.filter-place-items.ensures.source (YieldsList-from_first (λ e. e) written_rest _ c.new.ensures.rest)) c.filter-place-items.ensures.closure (λ x b q k. search (rules, tests)))

room : (c : In-Some) → c.loop-place.count < 1024
room c =
    let turn = YieldsList-turn (road (goal.at.In-Some c).After-into_iter-place-iterator) c.loop-place.yielded c.loop-place.place-iterator c.loop-place.yielded_by _ c.next.new.self _ c.in-Some.is c.next.ensures.steps in
    omega (arith, turn.0, count_walked c.args.sheet.now, c.requires.few, c.loop-place.invariant.0)

pub bounds-self-count : goal.bounds-self-count
bounds-self-count c = room (goal.at.bounds-self-count c).In-Some

pub loop-place-preserved : goal.loop-place-preserved
loop-place-preserved c =
    let h = room (goal.at.loop-place-preserved c).In-Some in (
      omega (arith, c.loop-place.invariant.0, length-append c.loop-place.yielded ((c.in-Some.place, c.in-Some.field-0-1) ∷ [])),
      listed_more _ _ c.loop-place.yielded _ _ c.loop-place.invariant.0 c.loop-place.invariant.1 (omega (arith, h)),
    )

all : (c : In-None) → Gathered c.args.sheet.now c.args.self.now.places c.loop-place.self.places c.loop-place.count
all c =
    let end = YieldsList-end (road (goal.at.In-None c).After-into_iter-place-iterator) c.loop-place.yielded c.loop-place.place-iterator c.loop-place.yielded_by _ c.next.new.self c.in-None.is c.next.ensures.steps in
    listed_all _ _ _ _ _ c.loop-place.invariant.0 c.loop-place.invariant.1 (sym (map-id _) ∙ end.0)

pub invariant_of-self-2 : goal.invariant_of-self-2
invariant_of-self-2 c = record { few = omega (arith, (all (goal.at.invariant_of-self-2 c).In-None).count_is, c.requires.few) }

pub returns : goal.returns
returns c = all (goal.at.returns c).In-None
