-- Grow's queue as the code holds it: what is queued, what its functions ask, and what they leave. Definitions only.
use Rattle.std.specs.Prelude.{◌≡◌, List, [], ℕ, ◌+◌, ◌*◌, ◌<◌, ◌≤◌, length, get_or, Option, None, Some}
use Rattle.sizes.specs.Sizes.{place_count}
use Rattle.sheet.specs.Cells.{cell_of}
use Rattle.sheet.specs.declared.Cell.{Cell}
use Rattle.labels.specs.Labelled.{labelled_places, label_count}
use Rattle.passes.specs.Grow.{seeded_from}
use Rattle.arguments.specs.Front.{over}
use Rattle.grow_queue.specs.Places.{so_far}
use Rattle.grow_queue.specs.declared.Queue.{Queue}

-- the cells queued so far
abbrev pub queued : Queue → List ℕ
queued q = so_far q.places.now q.tail

-- nothing is queued yet, in a buffer that holds these places
pub record Empty (places : List ℕ) (q : Queue) : Type 0 where
  pub places_are : q.places.now ≡ places
  pub head_is : q.head ≡ 0
  pub tail_is : q.tail ≡ 0

-- room in the queue for n cells more
pub record Room (n : ℕ) (sheet : List ℕ) (q : Queue) : Type 0 where
  pub long : place_count ≤ length sheet
  pub room : q.tail + n ≤ length q.places.now

-- what the queue is left with: these cells at its front, the rest as it was, and as many taken
pub record QueueHeld (before after : Queue) (cells : List ℕ) : Type 0 where
  pub same_buffer : after.places.ghost_name ≡ before.places.ghost_name
  pub written : after.places.now ≡ over cells before.places.now
  pub count : after.tail ≡ length cells
  pub head_same : after.head ≡ before.head

-- the first cell that was not taken is taken, none where all were
abbrev pub TakenAs : Queue → Queue → Option Cell → Type 0
TakenAs before after None = (before.tail ≤ before.head) × (after.head ≡ before.head)
TakenAs before after (Some c) = (before.head < before.tail) × (c ≡ cell_of (get_or before.places.now before.head 0)) × (after.head ≡ before.head + 1)

pub record Taken (before after : Queue) (r : Option Cell) : Type 0 where
  pub same_buffer : after.places.ghost_name ≡ before.places.ghost_name
  pub same_places : after.places.now ≡ before.places.now
  pub same_tail : after.tail ≡ before.tail
  pub same_seen : after.seen ≡ before.seen
  pub next : TakenAs before after r

-- ---- the seeds

-- the queue at grow's start
abbrev pub seeded : List ℕ → List ℕ
seeded sheet = seeded_from sheet (labelled_places sheet) []

-- room in the queue for four cells a labelled cell, and nothing queued
pub record Unqueued (sheet : List ℕ) (q : Queue) : Type 0 where
  pub long : place_count ≤ length sheet
  pub room : 4 * label_count sheet ≤ length q.places.now
  pub none : q.tail ≡ 0
