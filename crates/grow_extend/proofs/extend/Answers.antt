-- `grow_extend::extend` meets its contract: an accepted call has room for the seeds and for the run. Assumes nothing.
use mathlib.Core.Path.{◌≡◌, refl, ap}
use borrow.Author.Rules.{rules}
use Rattle.sheet.specs.Corners.{Corners, corner_lists}
use lib.Ieee.{of_bits}
use Rattle.arguments.proofs.Holding.{holdable}
use Rattle.passes.specs.Counting.{no_counts}
use Rattle.grow_extend.proofs.Laws.{call_startable, call_left}
use Rattle.grow_extend.proofs.extend.Goals as goal

pub hold-requires : goal.hold-requires
unfolding of_bits
hold-requires c = holdable _ _ _ c.requires (c.fill.ensures.after (λ _ e. e)) (c.fill-2.ensures.after (λ _ e. e)) (c.fill-3.ensures.after (λ _ e. e)) refl

pub run-requires : goal.run-requires
run-requires c =
    let a = c.args in
    let l = a.corners in
    let d = c.default.ensures in
    let none : c.default.result ≡ no_counts = λ t. record { attached = d.0 t; rejected_no_candidate = d.1.0 t; rejected_ambiguous = d.1.1.0 t; rejected_edge = d.1.1.1 t } in
    call_startable (corner_lists l.xs.now l.ys.now l.pitches.now) a.settings a.params l.shades.now a.sheet.now a.around a.queue.now a.attached.now c.requires (ap (λ (x : Corners). x.count) c.hold.ensures) refl c.new-queue.ensures.empty refl none

pub returns : goal.returns
returns c =
    let a = c.args in
    let l = a.corners in
    call_left (corner_lists l.xs.now l.ys.now l.pitches.now) a.settings a.params l.shades.now a.sheet.now a.around a.queue.now a.attached.now c.requires
    c.hold.ensures refl refl refl c.new-queue.ensures.empty.places_are refl c.run.ensures c.stats.ensures c.of.ensures (search rules) (search rules) (search rules)
