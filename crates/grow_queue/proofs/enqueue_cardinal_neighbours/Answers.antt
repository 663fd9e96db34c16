-- `grow_queue::enqueue_cardinal_neighbours` meets its contract. Assumes nothing.
use native.Mathlib.Omega.{arith}
use Rattle.positions_policy.specs.Edge.{cardinal_offsets}
use Rattle.positions_policy.proofs.Search.{cardinal_within}
use Rattle.grow_queue.proofs.Laws.{spreading_start, spreading_room, spreading_more, spreading_end}
use Rattle.grow_queue.proofs.enqueue_cardinal_neighbours.Goals as goal

pub loop-offset-init : goal.loop-offset-init
loop-offset-init c = spreading_start _ c.requires.0

pub neighbour-requires : goal.neighbour-requires
unfolding cardinal_offsets
neighbour-requires c = (c.requires.1, cardinal_within c.loop-offset.offset-index (omega arith))

pub enqueue-end-requires : goal.enqueue-end-requires
unfolding cardinal_offsets
enqueue-end-requires c = spreading_room _ c.requires.0 c.loop-offset.invariant (omega arith)

pub loop-offset-preserved : goal.loop-offset-preserved
unfolding cardinal_offsets
loop-offset-preserved c = spreading_more _ c.requires.0 c.loop-offset.invariant (omega arith) c.neighbour.ensures c.enqueue-end.ensures

pub returns : goal.returns
returns c = spreading_end _ c.requires.0 c.loop-offset.invariant (omega arith)
