-- `call_pass` meets its contract, by the pass that is asked for. Assumes nothing.
use Rattle.sheet.specs.Corners.{corner_lists}
use Rattle.pass_call.proofs.Calling.{mapped, grow_left_lem, fill_left_lem, local_left_lem, both}
use Rattle.passes.specs.declared.PassStats.{PassStats}
use Rattle.passes.specs.Run.{other}
use Rattle.pass_call.specs.Call.{call_of}
use lib.ListN.{length}
use Rattle.std.proofs.Common.{rules}
use Rattle.pass_call.proofs.call_pass.Goals as goal

pub returns-in-Grow : goal.returns-in-Grow
returns-in-Grow c =
    let a = c.args in
    let o = c.extend_from_labelled in
    let l = corner_lists a.xs.now a.ys.now a.pitches.now in
    let both_clauses =
    both l a.sheet.now (call_of a.settings a.shades.now (other a.around) (length a.queue.now) (length a.attached.now) a.pass)
    a.queue.now a.attached.now o.new.sheet o.new.queue o.new.attached c.map.result
    (grow_left_lem l a.settings a.shades.now a.sheet.now a.around a.queue.now a.attached.now o.new.sheet o.new.attached
    a.pass c.map.result _ c.in-Grow.is o.new.queue _ (mapped PassStats.Grow _ _ _ (λ x y k. search rules) c.map.ensures.cases) o.ensures.attached_after) in
    record { attached_after = both_clauses.0; small = both_clauses.1 }

pub returns-in-Fill : goal.returns-in-Fill
returns-in-Fill c =
    let a = c.args in
    let o = c.fill_grid_holes in
    let l = corner_lists a.xs.now a.ys.now a.pitches.now in
    let both_clauses =
    both l a.sheet.now (call_of a.settings a.shades.now (other a.around) (length a.queue.now) (length a.attached.now) a.pass)
    a.queue.now a.attached.now o.new.sheet a.queue.now o.new.attached c.map-in-Fill.result
    (fill_left_lem l a.settings a.shades.now a.sheet.now a.around a.queue.now a.attached.now o.new.sheet o.new.attached
    a.pass c.map-in-Fill.result _ c.in-Fill.is _ (mapped PassStats.Fill _ _ _ (λ x y k. search rules) c.map-in-Fill.ensures.cases) o.ensures.attached_after) in
    record { attached_after = both_clauses.0; small = both_clauses.1 }

pub returns-in-Local : goal.returns-in-Local
returns-in-Local c =
    let a = c.args in
    let o = c.extend_via_local_homography in
    let l = corner_lists a.xs.now a.ys.now a.pitches.now in
    let both_clauses =
    both l a.sheet.now (call_of a.settings a.shades.now (other a.around) (length a.queue.now) (length a.attached.now) a.pass)
    a.queue.now a.attached.now o.new.sheet a.queue.now o.new.attached c.map-in-Local.result
    (local_left_lem l a.settings a.shades.now a.sheet.now a.around a.queue.now a.attached.now o.new.sheet o.new.attached
    a.pass c.map-in-Local.result _ c.in-Local.is _ (mapped PassStats.Local _ _ _ (λ x y k. search rules) c.map-in-Local.ensures.cases) o.ensures.attached_after) in
    record { attached_after = both_clauses.0; small = both_clauses.1 }
