-- `local_cell::LocalWork::attach_corner` meets its contract: each store as it stands, and what is forgotten. Assumes nothing.
use mathlib.Core.Path.{ap}
use Prim.Native.Nat.{◌<◌}
use native.Mathlib.Omega.{arith}
use Rattle.sheet.proofs.Laws.{place_in}
use Rattle.local_cell.specs.declared.LocalProgress.{LocalProgress}
use Rattle.local_cell.proofs.Visit.{gatherable, taking_room, taking_writable, took_extending}
use Rattle.local_cell.proofs.LocalWork.attach_corner.Goals as goal

pub overflow_cast-self : goal.overflow_cast-self
overflow_cast-self c = let p : c.place_of.result < 16384 = rw c.place_of.ensures (place_in c.args.c c.requires.trying.on) in record { fits = omega arith }

pub bounds-self-self : goal.bounds-self-self
bounds-self-self c = taking_room c.requires

pub gather-requires : goal.gather-requires
gather-requires c = gatherable _ _ _ c.attach.ensures c.clear_marks.ensures (taking_writable c.requires)

pub invariant_of-self-2 : goal.invariant_of-self-2
invariant_of-self-2 c = record { extending = took_extending c.requires _ c.attach.ensures c.clear_marks.ensures c.gather.ensures c.widen-self.ensures (ap (λ (x : LocalProgress). x.counts) c.count_cell.ensures) }
