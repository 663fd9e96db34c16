-- `grow_queue::Queue::enqueue_cardinal_neighbours` meets its contract, by the function on the queue's own buffer. Assumes nothing.
use mathlib.Core.Path.{refl}
use Rattle.grow_queue.proofs.Laws.{spread_room, spread_within, spread_upto, spread_flagged, spread_on}
use Rattle.grow_queue.proofs.Queue.enqueue_cardinal_neighbours.Goals as goal

pub enqueue_cardinal_neighbours-self-requires : goal.enqueue_cardinal_neighbours-self-requires
enqueue_cardinal_neighbours-self-requires c = (spread_room c.args.self.now c.requires.0, c.requires.1)

pub invariant_of-self-clause-within : goal.invariant_of-self-clause-within
invariant_of-self-clause-within c = spread_within c.args.self.now c.requires.0 c.args.c c.enqueue_cardinal_neighbours-self.ensures

pub invariant_of-self-clause-upto : goal.invariant_of-self-clause-upto
invariant_of-self-clause-upto c = spread_upto c.args.self.now c.requires.0 c.args.c c.enqueue_cardinal_neighbours-self.ensures

pub invariant_of-self-clause-flagged : goal.invariant_of-self-clause-flagged
invariant_of-self-clause-flagged c = spread_flagged c.args.self.now c.requires.0 c.args.c c.enqueue_cardinal_neighbours-self.ensures

pub invariant_of-self-clause-on_places : goal.invariant_of-self-clause-on_places
invariant_of-self-clause-on_places c = spread_on c.args.self.now c.requires.0 c.args.c c.enqueue_cardinal_neighbours-self.ensures

pub returns : goal.returns
returns c = record { same_buffer = refl; written = c.enqueue_cardinal_neighbours-self.ensures.written; count = c.enqueue_cardinal_neighbours-self.ensures.count; head_same = refl }
