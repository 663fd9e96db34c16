-- `region::is_near` meets its contract: the wider numbers hold both ends. Assumes nothing.
use mathlib.Core.Path.{◌∙◌}
use mir.Facts.{to_z-of_z}
use Rattle.labels.proofs.Between.{contained}
use Rattle.region.proofs.Near.{past_wide, wide, less_wide, more_wide}
use Rattle.region.proofs.is_near.Goals as goal

pub returns : goal.returns
returns c =
    let a = c.args in
    let r = c.ranges in
    rw (
      c.from.ensures,
      c.from-2.ensures,
      c.from-3.ensures,
      c.from-n.ensures,
      to_z-of_z r.low,
      to_z-of_z r.high,
      to_z-of_z r.z,
      wide a.low r.low,
      wide a.high r.high,
      wide a.z r.z,
      past_wide a.past r.past,
      less_wide a.low r.low a.past r.past,
      more_wide a.high r.high a.past r.past,
    )
    at (c.contains.ensures.value ∙ contained _ _ _ _ c.new.ensures.start c.new.ensures.end c.new.ensures.exhausted)
