-- `arguments::doubled_corner` meets its contract: nothing is seen at the start. Assumes nothing.
use mathlib.Core.Bool.{Bool, false}
use lib.ListN.{length-replicate, get_or-replicate}
use Rattle.arguments.proofs.doubled_corner.Goals as goal

pub seen_twice-requires : goal.seen_twice-requires
seen_twice-requires c =
    record { entries = c.requires; size = length-replicate {A = Bool} 1024 false; none = λ k h. get_or-replicate {A = Bool} 1024 k false false h }
