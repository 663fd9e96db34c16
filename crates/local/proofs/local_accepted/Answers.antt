-- `local::local_accepted` meets its contract: under four labels nothing is done, else what the rounds leave, where at first nothing is remembered. Assumes nothing.
use Rattle.std.specs.Prelude.{None}
use mathlib.Core.Path.{refl, ap, ◌∙◌}
use native.Mathlib.Omega.{arith}
use borrow.Author.Rules.{rules}
use Rattle.sheet.specs.Corners.{Corners, corner_lists, corners_in}
use Rattle.remembered.proofs.Notes.{started}
use lib.Ieee.{of_bits}
use Rattle.labels.specs.Kept.{kept_of}
use Rattle.arguments.proofs.Holding.{holdable}
use Rattle.local.proofs.Depth.{depth_in}
use Rattle.local.proofs.Rounds.{accepted_gatherable, accepted_radius, accepted_kept, at_start, accepted_extending, pass_few, pass_done}
use Rattle.local.proofs.local_accepted.Goals as goal

pub gather-requires : goal.gather-requires
gather-requires c = let a = c.args in let l = a.corners in accepted_gatherable (corner_lists l.xs.now l.ys.now l.pitches.now) l.shades.now a.sheet.now a.around a.attached.now a.settings a.params c.requires

pub rim_reached-requires : goal.rim_reached-requires
rim_reached-requires c = record { long = c.requires.given.long; shallow = rw c.depth_of-depth.ensures (depth_in c.args.params c.requires.pass_inside.depth) }

pub returns-then-labels-lt4 : goal.returns-then-labels-lt4
returns-then-labels-lt4 c = let a = c.args in let l = a.corners in pass_few (corner_lists l.xs.now l.ys.now l.pitches.now) l.shades.now a.sheet.now a.around a.attached.now a.settings a.params c.gather.ensures.count_is c.depth_of-depth.ensures c.any_shade-shaded.ensures c.if-labels-lt4.true (at_start c.default-progress.ensures) c.rim_reached.ensures c.stats_of-stats.ensures (accepted_kept (corner_lists l.xs.now l.ys.now l.pitches.now) l.shades.now a.sheet.now a.around a.attached.now a.settings a.params c.requires c.around.ensures c.of-left.ensures)

pub hold-requires : goal.hold-requires
unfolding of_bits
hold-requires c = holdable _ _ _ c.requires (c.fill.ensures.after (λ _ e. e)) (c.fill-2.ensures.after (λ _ e. e)) (c.fill-3.ensures.after (λ _ e. e)) refl

pub invariant_of-work : goal.invariant_of-work
invariant_of-work c = let a = c.args in let l = a.corners in record { extending = rw (ap (λ (x : Corners). x.count) c.hold.ensures) (accepted_extending (corner_lists l.xs.now l.ys.now l.pitches.now) l.shades.now a.sheet.now a.around a.attached.now a.settings a.params c.requires c.gather.ensures c.if-labels-lt4.false c.mark_used-used.ensures c.around-2.ensures (at_start c.default-progress.ensures)) }

pub local_rounds-rounds-requires-clause-recalls : goal.local_rounds-rounds-requires-clause-recalls
local_rounds-rounds-requires-clause-recalls c = let a = c.args in let l = a.corners in record { remembered = rw ((at_start c.default-progress.ensures), c.new-memory.ensures) (started (corners_in _) a.settings a.params None a.sheet.now (accepted_radius (corner_lists l.xs.now l.ys.now l.pitches.now) l.shades.now a.sheet.now a.around a.attached.now a.settings a.params c.requires)); unmatched_few = rw (at_start c.default-progress.ensures) (omega arith) }

pub rim_of-requires : goal.rim_of-requires
rim_of-requires c = rw c.depth_of-depth.ensures (depth_in c.args.params c.requires.pass_inside.depth)

pub returns : goal.returns
returns c = let a = c.args in let l = a.corners in pass_done (corner_lists l.xs.now l.ys.now l.pitches.now) l.shades.now a.sheet.now a.around a.attached.now a.settings a.params c.gather.ensures.count_is c.depth_of-depth.ensures c.any_shade-shaded.ensures _ c.hold.ensures c.if-labels-lt4.false (at_start c.default-progress.ensures) refl refl c.local_rounds-rounds.ensures.left c.rim_of.ensures c.stats_of-stats-2.ensures (c.of.ensures ∙ ap kept_of c.local_rounds-rounds.new.work.extending.around_is) (search rules) (search rules)
