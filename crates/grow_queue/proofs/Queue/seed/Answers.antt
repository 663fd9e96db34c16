-- `grow_queue::Queue::seed` meets its contract. Assumes nothing.
use mathlib.Core.Path.{sym, subst, ◌∙◌}
use Prim.Native.Nat.{ℕ, ◌<◌}
use lib.ListN.{length}
use native.Mathlib.Omega.{arith}
use Rattle.std.proofs.Common.{rules, tests}
use Rattle.std.specs.List.{All, filter}
use Rattle.std.proofs.lemmas.List.{map-id}
use Rattle.std.proofs.lemmas.List.Elements.{All-filter}
use Rattle.std.proofs.lemmas.Iterator.{YieldsList}
use Rattle.std.proofs.lemmas.Iterator.Consumers.{YieldsList-at, YieldsList-from_first, YieldsList-from_filter, YieldsList-turn, YieldsList-end}
use Rattle.sheet.specs.Blank.{written_rest, written_from}
use Rattle.sheet.proofs.Blank.{written_all}
use Rattle.sheet.proofs.Laws.{cell_on_lem}
use Rattle.labels.specs.Labelled.{is_labelled, label_count}
use Rattle.labels.proofs.Labelled.{count_walked}
use Rattle.grow_queue.proofs.Laws.{seeding_start, seeding_room, seeding_more, seeding_end}
use Rattle.grow_queue.proofs.Queue.seed.Given as given
use Rattle.grow_queue.proofs.Queue.seed.Goals as goal
use Rattle.grow_queue.proofs.Queue.seed.Goals.{After-into_iter-place-iterator, In-Some}

road : (c : After-into_iter-place-iterator) → YieldsList (given.iterator-loop-place).next_gives (λ e. e) c.into_iter-place-iterator.result (filter (λ (e : ℕ × ℕ). is_labelled e.1) (written_from c.args.sheet.now 0))
road c =
    YieldsList-at c.into_iter-place-iterator.ensures.into_iter_gives
    (YieldsList-from_filter _ (λ e. is_labelled e.1) (YieldsList-at c.filter-place-items.ensures.source (YieldsList-from_first (λ e. e) written_rest _ c.new.ensures.rest)) c.filter-place-items.ensures.closure (λ x b q k. search (rules, tests)))

some : (c : In-Some) → (length c.loop-place.yielded < label_count c.args.sheet.now) × (c.in-Some.place < 16384)
some c =
    let turn = YieldsList-turn (road (goal.at.In-Some c).After-into_iter-place-iterator) c.loop-place.yielded c.loop-place.place-iterator c.loop-place.yielded_by _ c.next.new.self _ c.in-Some.is c.next.ensures.steps in
    let all : All (λ (e : ℕ × ℕ). e.0 < 16384) (filter (λ (e : ℕ × ℕ). is_labelled e.1) (written_from c.args.sheet.now 0)) = All-filter _ (λ (e : ℕ × ℕ). e.0 < 16384) _ (written_all c.args.sheet.now 0 16384 (omega arith)) in (
      omega (arith, turn.0, count_walked c.args.sheet.now),
      subst (λ (e : ℕ × ℕ). e.0 < 16384) (sym turn.1) (all _ (c.in-Some.place, c.in-Some.field-0-1) turn.0),
    )

pub loop-place-init : goal.loop-place-init
loop-place-init c = seeding_start c.requires

pub enqueue_cardinal_neighbours-requires : goal.enqueue_cardinal_neighbours-requires
enqueue_cardinal_neighbours-requires c =
    let here = some (goal.at.enqueue_cardinal_neighbours-requires c).In-Some in
    (seeding_room c.requires c.loop-place.yielded c.loop-place.invariant here.0, rw c.cell_of.ensures (cell_on_lem _ here.1))

pub loop-place-preserved : goal.loop-place-preserved
loop-place-preserved c =
    seeding_more c.requires c.loop-place.yielded c.loop-place.invariant (some (goal.at.loop-place-preserved c).In-Some).0 (c.in-Some.place, c.in-Some.field-0-1) c.cell_of.ensures c.enqueue_cardinal_neighbours.ensures

pub returns : goal.returns
returns c =
    let end = YieldsList-end (road (goal.at.returns c).After-into_iter-place-iterator) c.loop-place.yielded c.loop-place.place-iterator c.loop-place.yielded_by _ c.next.new.self c.in-None.is c.next.ensures.steps in
    seeding_end c.requires c.loop-place.yielded c.loop-place.invariant (sym (map-id _) ∙ end.0)
