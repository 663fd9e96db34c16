-- Laws of grow as the code holds it: a cell settled, by what was found there; the run, a cell at a time; the call, refused or done.
-- Assumes nothing.
use Rattle.std.specs.Prelude.{Ok, Err}
use mathlib.Core.Path.{◌≡◌, refl, sym, ap, ◌∙◌, subst}
use mathlib.Core.Bool.{Bool, true, false, cond}
use mathlib.Core.List.{List}
use mathlib.Core.Logic.{◌⊎◌, inl, inr}
use Prim.Native.Nat.{ℕ, zero, suc, ◌+◌, ◌-◌, ◌*◌, ◌<◌, ◌≤◌}
use native.Mathlib.Omega.{arith}
use lib.Dec.{ltb}
use lib.ListN.{length, get_or, take, set, length-set}
use Rattle.std.specs.Prelude.{Option, None, Some}
use Rattle.std.proofs.Common.{Bor}
use Rattle.refusal.specs.declared.Refusal.{Refusal}
use Rattle.sheet.specs.Cells.{OnSheet, place_of, cell_of}
use Rattle.sheet.specs.Words.{attached, hole_marked, ambiguous_marked}
use Rattle.sheet.specs.Corners.{Corners, CornerLists, seen_of, Given, corners_in}
use Rattle.sheet.specs.declared.Cell.{Cell}
use Rattle.sheet.specs.declared.held.CornerArrays.{CornerArrays}
use Rattle.sheet.specs.declared.Position.{Position}
use Rattle.sheet.proofs.Corners.{given_attached}
use Rattle.labels.specs.Labelled.{SameLabels}
use Rattle.labels.specs.Box.{widened, box_of}
use Rattle.labels.specs.Kept.{kept_of}
use Rattle.labels.specs.Used.{used_on, Tied}
use Rattle.labels.specs.declared.Bounds.{Bounds}
use Rattle.labels.specs.declared.kept.KeptBox.{KeptBox}
use Rattle.labels.proofs.Box.{same_box, box_attached}
use Rattle.labels.proofs.Labelled.{labels_places, hole_keeps, ambiguous_keeps}
use Rattle.labels.proofs.Used.{tied_attached}
use Rattle.predict.specs.Predict.{prediction_of, extrapolating}
use Rattle.arguments.specs.Shades.{corners_of}
use Rattle.arguments.specs.Arguments.{Checked, checked, queue_needed}
use Rattle.arguments.specs.Accepted.{Accepted}
use Rattle.arguments.proofs.Laws.{accepted}
use Rattle.arguments.specs.declared.GrowParams.{GrowParams}
use Rattle.arguments.specs.declared.Pass.{Pass}
use Rattle.arguments.specs.declared.Settings.{Settings}
use Rattle.extension_common.specs.TryCell.{TryCellResult, tried_from}
use Rattle.extension_common.specs.declared.Search.{Search}
use Rattle.positions_policy.specs.declared.Tolerances.{Tolerances}
use Rattle.extension_common.specs.declared.NotAttached.{NotAttached}
use Rattle.passes.specs.Outcome.{done, Answer}
use Rattle.passes.specs.Counting.{one_more}
use Rattle.passes.specs.Grow.{GrowState, no_counts, tolerances_of, search_of, spread, start_of, grow_with, grow_at, grow_visit, grow_from, grow_run, grow_after}
use Rattle.passes.specs.Step.{grow_step, GrowOut, grow_out, grow_leaves, lent_of, rooms}
use Rattle.passes.specs.Said.{grow_values, grow_said, outcome_due}
use Rattle.passes.specs.declared.Counts.{Counts}
use Rattle.passes.specs.declared.GrowStats.{GrowStats}
use Rattle.passes.proofs.Over.{over_length, over_at, over_read, over_own, over_put, over_over}
use Rattle.passes.proofs.Queue.{more_length, spread_longer}
use Rattle.passes.proofs.Said.{grow_said_lem}
use Rattle.passes.proofs.Enough.{Belongs, Going, Free, found_free, next_of, next_on, room_left, slot_left, queue_few, made_few, start_going, visit_going, from_ended, from_next, labels_few}
use Rattle.grow_queue.specs.Queue.{queued, Empty, Room, QueueHeld, TakenAs, Taken, Unqueued, seeded}
use Rattle.grow_queue.specs.declared.Queue.{Queue}
use Rattle.grow_queue.proofs.Laws.{holds_own}
use Rattle.arguments.specs.Front.{over}
use Rattle.grow_extend.specs.Grow.{found_from, found_at, SmallCounts, held, state_of, stats_of, SameRun, Left, Leaves, Spare, Attachable, Settleable, Visitable, Startable}
use Rattle.grow_extend.specs.declared.GrowSetup.{GrowSetup}
use Rattle.grow_extend.specs.declared.Growing.{Growing}

-- ---- what is found at a cell

-- a visit is what was found, settled
pub visit_as : (cs : Corners) (set : Settings) (p : GrowParams) (c : Cell) (s : GrowState) → grow_with c (found_at cs set p s.sheet c) s ≡ grow_visit cs set p c s
unfolding grow_visit grow_at grow_with found_at found_from
visit_as cs set p c s = go (prediction_of (seen_of cs.corner s.sheet) set.grid c)
  where
    go : (at : Option Position) → grow_with c (found_from cs set p s.sheet c at) s ≡ grow_at cs set p c at s
    go None = refl
    go (Some at) = refl

pub found_spare : (cs : Corners) (set : Settings) (p : GrowParams) (sheet : List ℕ) (c : Cell) (k : ℕ) → found_at cs set p sheet c ≡ Ok k → Free cs sheet k
unfolding found_at found_from
found_spare cs set p sheet c k e = go (prediction_of (seen_of cs.corner sheet) set.grid c) e
  where
    go : (at : Option Position) → found_from cs set p sheet c at ≡ Ok k → Free cs sheet k
    go None e = absurd (let z : ◌≡◌ {A = ℕ} 0 1 = cc in omega arith)
    go (Some at) e = found_free cs set p sheet c at (extrapolating (seen_of cs.corner sheet) c) k e

-- what is found, by the prediction
module _ (cs : Corners) (set : Settings) (p : GrowParams) (sheet : List ℕ) (c : Cell) where
  pub found_at_lem : {outer : Bool} → outer ≡ extrapolating (seen_of cs.corner sheet) c → {search : Search} {tol : Tolerances} → search ≡ search_of set p outer → tol ≡ tolerances_of set
      → {r : TryCellResult} → r ≡ tried_from cs sheet tol search c (prediction_of (seen_of cs.corner sheet) set.grid c) → r ≡ found_at cs set p sheet c
  unfolding found_at found_from tried_from
  found_at_lem o s t h = h ∙ rw (s, o, t) (go (prediction_of (seen_of cs.corner sheet) set.grid c))
    where
      go : (at : Option Position) → tried_from cs sheet (tolerances_of set) (search_of set p (extrapolating (seen_of cs.corner sheet) c)) c at ≡ found_from cs set p sheet c at
      go None = refl
      go (Some at) = refl

-- ---- a cell settled

-- the corners given stay so where the labels do
given_same : {n : ℕ} {sheet after : List ℕ} → length after ≡ length sheet → SameLabels sheet after → Given n sheet → Given n after
given_same e s g = record { long = omega (arith, g.long); known = λ p k h l. g.known p k h (sym (s.same_label p h) ∙ l) }

module _ (g : Growing) (c : Cell) (on : OnSheet c) where
  pub given_hole : Given g.corners.now.count.number (hole_marked g.sheet.now c)
  unfolding hole_marked
  given_hole = given_same (length-set g.sheet.now (place_of c) _) (hole_keeps g.sheet.now c g.given.long on) g.given

  pub given_ambiguous : Given g.corners.now.count.number (ambiguous_marked g.sheet.now c)
  unfolding ambiguous_marked
  given_ambiguous = given_same (length-set g.sheet.now (place_of c) _) (ambiguous_keeps g.sheet.now c g.given.long on) g.given

  -- and so does the label box
  pub boxed_hole : g.around ≡ box_of (hole_marked g.sheet.now c)
  boxed_hole = g.boxed ∙ sym (same_box _ _ (labels_places (hole_keeps g.sheet.now c g.given.long on)))

  pub boxed_ambiguous : g.around ≡ box_of (ambiguous_marked g.sheet.now c)
  boxed_ambiguous = g.boxed ∙ sym (same_box _ _ (labels_places (ambiguous_keeps g.sheet.now c g.given.long on)))

-- only marks and counts are written
pub record MarksOnly (before after : Growing) : Type 0 where
  pub same : SameRun before after
  pub same_list : after.attached.now ≡ before.attached.now

module _ {g after : Growing} (q : Queue) (m : MarksOnly g after) {sheet : List ℕ} {counts : Counts} where
  marked : after.sheet.now ≡ sheet → after.counts ≡ counts → Leaves g q after q (record { sheet = sheet; queued = queued q; made = take g.counts.attached g.attached.now; counts = counts })
  marked e n =
      let h = holds_own q in
      record {
        left =
            record {
              same = m.same;
              same_queue = refl;
              sheet_is = e;
              queue_is = h.written;
              attached_is = m.same_list ∙ sym (over_own g.attached.now g.counts.attached g.within);
              tail_is = h.count;
              counts_are = n;
            };
        head_same = refl;
      }

-- what marks a hole
abbrev pub NoCorner : TryCellResult → Type 0
NoCorner found = (found ≡ Err NotAttached.NoCandidates) ⊎ (found ≡ Err NotAttached.EdgeRejected)

pub none_counts : (why : NotAttached) (n : Counts) → (one_more (Err why) n).attached ≡ n.attached
none_counts NotAttached.NoCandidates n = refl
none_counts NotAttached.EdgeRejected n = refl
none_counts NotAttached.Ambiguous n = refl

module _ {g after : Growing} (q : Queue) (c : Cell) {found : TryCellResult} (m : MarksOnly g after) (n : after.counts ≡ one_more found g.counts) where
  pub settled_hole : NoCorner found → after.sheet.now ≡ hole_marked g.sheet.now c → Leaves g q after q (grow_with c found (state_of g q))
  unfolding grow_with
  settled_hole (inl e) h = rw e (marked q m h (rw e at n))
  settled_hole (inr e) h = rw e (marked q m h (rw e at n))

  pub settled_ambiguous : found ≡ Err NotAttached.Ambiguous → after.sheet.now ≡ ambiguous_marked g.sheet.now c → Leaves g q after q (grow_with c found (state_of g q))
  unfolding grow_with
  settled_ambiguous e h = rw e (marked q m h (rw e at n))

-- by another expression of what was found
pub settled_as : {g after : Growing} {q next : Queue} (c : Cell) {found r : TryCellResult} → found ≡ r → Leaves g q after next (grow_with c r (state_of g q))
    → Leaves g q after next (grow_with c found (state_of g q))
settled_as c e l = rw e l

-- a cell that is visited, and what was found there
pub visit_settled : {g after : Growing} {q next : Queue} (c : Cell) {found : TryCellResult} → found ≡ found_at (held g) g.setup.settings g.setup.params g.sheet.now c
    → Leaves g q after next (grow_with c found (state_of g q)) → Leaves g q after next (grow_visit (held g) g.setup.settings g.setup.params c (state_of g q))
visit_settled {g} {after} {q} {next} c is l =
    subst (λ (s : GrowState). Leaves g q after next s)
    (ap (λ (r : TryCellResult). grow_with c r (state_of g q)) is ∙ visit_as (held g) g.setup.settings g.setup.params c (state_of g q)) l

pub visit_settleable : {g : Growing} {q : Queue} {c : Cell} → Visitable g q c → {found : TryCellResult} → found ≡ found_at (held g) g.setup.settings g.setup.params g.sheet.now c → Settleable g q c found
visit_settleable {g} {q} {c} w is = record { on = w.on; small = w.small; to_attach = λ k e. attach k (found_spare (held g) g.setup.settings g.setup.params g.sheet.now c k (sym is ∙ e)) }
  where
    attach : (k : ℕ) → Free (held g) g.sheet.now k → Attachable g q c k
    attach k f =
        record {
          attaching = record { long = g.given.long; on = w.on; bare = w.bare; corner_fits = omega (arith, f.given, g.corners.now.count.few) };
          known = f.given;
          spare = w.spare k f.given f.free;
          small = w.small;
        }

-- a corner attached
module _ {g : Growing} {q : Queue} {c : Cell} {k : ℕ} (w : Attachable g q c k) where
  pub given_more : Given g.corners.now.count.number (attached g.sheet.now c k)
  given_more = given_attached g.given c w.attaching.on k w.known w.attaching.corner_fits

  pub tied_more : Tied (attached g.sheet.now c k) (set g.used k true)
  tied_more = tied_attached w.attaching (omega (arith, w.known, g.corners.now.count.few)) g.tied

  -- the label box takes the cell in
  pub boxed_more : widened g.around c ≡ box_of (attached g.sheet.now c k)
  boxed_more = ap (λ (b : Option Bounds). widened b c) g.boxed ∙ sym (box_attached w.attaching)

  -- the queue has room for the cell's neighbours
  pub attached_room : {sheet : List ℕ} → sheet ≡ attached g.sheet.now c k → Room 4 sheet q
  unfolding attached
  attached_room e = record { long = rw (e, length-set) w.attaching.long; room = w.spare.queue_room }

  pub settled_attached : {after : Growing} {next : Queue} {place : ℕ} → SameRun g after → after.sheet.now ≡ attached g.sheet.now c k → place ≡ place_of c → after.attached.now ≡ set g.attached.now g.counts.attached place
      → QueueHeld q next (spread after.sheet.now c (queued q)) → after.counts ≡ one_more (Ok k) g.counts
      → Leaves g q after next (grow_with c (Ok k) (state_of g q))
  unfolding grow_with
  settled_attached {next = next} same m p l h n =
      let r : QueueHeld q next (spread (attached g.sheet.now c k) c (queued q)) = rw m at h in
      record {
        left =
            record {
              same = same;
              same_queue = r.same_buffer;
              sheet_is = m;
              queue_is = r.written;
              attached_is = l ∙ ap (set g.attached.now g.counts.attached) p ∙ over_put g.attached.now g.counts.attached (place_of c) w.spare.attached_room;
              tail_is = r.count;
              counts_are = n;
            };
        head_same = r.head_same;
      }

-- ---- what a visit leaves as long or makes longer

pub record Grown (before after : GrowState) : Type 0 where
  pub sheet_same : length after.sheet ≡ length before.sheet
  pub queued_more : length before.queued ≤ length after.queued
  pub made_more : length before.made ≤ length after.made

with_grown : (c : Cell) (r : TryCellResult) (s : GrowState) → Grown s (grow_with c r s)
unfolding grow_with attached hole_marked ambiguous_marked
with_grown c (Err NotAttached.NoCandidates) s = record { sheet_same = length-set s.sheet (place_of c) _; queued_more = omega arith; made_more = omega arith }
with_grown c (Err NotAttached.Ambiguous) s = record { sheet_same = length-set s.sheet (place_of c) _; queued_more = omega arith; made_more = omega arith }
with_grown c (Err NotAttached.EdgeRejected) s = record { sheet_same = length-set s.sheet (place_of c) _; queued_more = omega arith; made_more = omega arith }
with_grown c (Ok k) s =
    record {
      sheet_same = length-set s.sheet (place_of c) _;
      queued_more = (spread_longer (attached s.sheet c k) c s.queued).more;
      made_more = omega (arith, more_length s.made (place_of c));
    }

visit_grown : (cs : Corners) (set : Settings) (p : GrowParams) (c : Cell) (s : GrowState) → Grown s (grow_visit cs set p c s)
visit_grown cs set p c s = rw (← visit_as cs set p c s) (with_grown c (found_at cs set p s.sheet c) s)

from_grown : (cs : Corners) (set : Settings) (p : GrowParams) (m head : ℕ) (s : GrowState) → Grown s (grow_from cs set p m head s)
unfolding grow_from
from_grown cs set p zero head s = record { sheet_same = refl; queued_more = omega arith; made_more = omega arith }
from_grown cs set p (suc m) head s =
    let a = visit_grown cs set p (next_of s head) s in
    let b = from_grown cs set p m (head + 1) (grow_visit cs set p (next_of s head) s) in
    go (ltb head (length s.queued)) (record { sheet_same = b.sheet_same ∙ a.sheet_same; queued_more = omega (arith, a.queued_more, b.queued_more); made_more = omega (arith, a.made_more, b.made_more) })
  where
    go : (t : Bool) → Grown s (grow_from cs set p m (head + 1) (grow_visit cs set p (next_of s head) s)) → Grown s (cond t (grow_from cs set p m (head + 1) (grow_visit cs set p (next_of s head) s)) s)
    go true g = g
    go false g = record { sheet_same = refl; queued_more = omega arith; made_more = omega arith }

-- ---- the state that a run holds

-- it is read back
state_read : {before after : Growing} {queue queue' : Queue} {s : GrowState} → Left before queue after queue' s → s.counts.attached ≡ length s.made → state_of after queue' ≡ s
state_read {before} {queue = queue} {s = s} l e =
    let q : take (length s.queued) (over s.queued queue.places.now) ≡ s.queued = over_read s.queued queue.places.now in
    let a : take (length s.made) (over s.made before.attached.now) ≡ s.made = over_read s.made before.attached.now in
    rw (l.sheet_is, l.queue_is, l.attached_is, l.tail_is, l.counts_are, e, q, a)

same_then : {first between last : Growing} → SameRun first between → SameRun between last → SameRun first last
same_then a b =
    record {
      same_corners = b.same_corners ∙ a.same_corners;
      same_setup = b.same_setup ∙ a.same_setup;
      same_sheet = b.same_sheet ∙ a.same_sheet;
      same_list = b.same_list ∙ a.same_list;
    }

-- one step after the other
left_then : {first between last : Growing} {q₀ q₁ q₂ : Queue} {s₁ s₂ : GrowState} → Left first q₀ between q₁ s₁ → Left between q₁ last q₂ s₂ → Grown s₁ s₂ → Left first q₀ last q₂ s₂
left_then {first} {q₀ = q} {s₁ = s₁} {s₂ = s₂} a b g =
    record {
      same = same_then a.same b.same;
      same_queue = b.same_queue ∙ a.same_queue;
      sheet_is = b.sheet_is;
      queue_is = b.queue_is ∙ ap (over s₂.queued) a.queue_is ∙ over_over s₁.queued s₂.queued q.places.now g.queued_more;
      attached_is = b.attached_is ∙ ap (over s₂.made) a.attached_is ∙ over_over s₁.made s₂.made first.attached.now g.made_more;
      tail_is = b.tail_is;
      counts_are = b.counts_are;
    }

-- ---- the run

visit_alike : {cs cs' : Corners} {set set' : Settings} {p p' : GrowParams} {c c' : Cell} {s s' : GrowState} → cs ≡ cs' → set ≡ set' → p ≡ p' → c ≡ c' → s ≡ s' → grow_visit cs set p c s ≡ grow_visit cs' set' p' c' s'
visit_alike a b d e f = cc

held_alike : {g h : Growing} → SameRun g h → held h ≡ held g
held_alike s = ap (λ (k : Bor CornerArrays). corners_in k.now) s.same_corners

-- A run that has visited the cells that were taken from the queue: what is held is a state of the definition's run, and with the cells that are
-- left it is what it shall be.
pub record Running (before : Growing) (queue : Queue) (now : Growing) (queue' : Queue) : Type 0 where
  pub state : GrowState
  pub left : Left before queue now queue' state
  pub going : Going (held before) queue'.head state
  pub rest :
      grow_from (held before) before.setup.settings before.setup.params (4 * before.corners.now.count.number - queue'.head) queue'.head state
      ≡ grow_run (held before) before.setup.settings before.setup.params before.sheet.now

module _ {g : Growing} {q : Queue} (w : Startable g q) where
  fit : Belongs (held g) g.sheet.now
  fit = record { long = g.given.long; few = g.corners.now.count.few; known = g.given.known; one_cell = w.one_cell }

  -- the queue has room for the seeds
  pub start_unqueued : Unqueued g.sheet.now q
  start_unqueued = record { long = g.given.long; room = omega (arith, w.queue_long, labels_few fit); none = w.none_queued }

  pub running_start : {after : Growing} {next : Queue} → SameRun g after → after.sheet.now ≡ g.sheet.now → after.attached.now ≡ g.attached.now → after.counts ≡ g.counts
      → QueueHeld q next (seeded g.sheet.now) → Running g q after next
  unfolding start_of grow_run
  running_start {next = next} same e l n h =
      let z : next.head ≡ 0 = h.head_same ∙ w.none_taken in
      record {
        state = start_of g.sheet.now;
        left = record { same = same; same_queue = h.same_buffer; sheet_is = e; queue_is = h.written; attached_is = l; tail_is = h.count; counts_are = n ∙ w.none_counted };
        going = rw z (start_going (held g) g.sheet.now fit);
        rest = rw z (let e : 4 * g.corners.now.count.number - 0 ≡ 4 * g.corners.now.count.number = omega arith in ap (λ (m : ℕ). grow_from (held g) g.setup.settings g.setup.params m 0 (start_of g.sheet.now)) e);
      }

  module _ {now : Growing} {queue : Queue} (r : Running g q now queue) {taken : Queue} {next : Option Cell} (t : Taken queue taken next) where
    -- a cell taken from the queue, or none
    left_taken : Left g q now taken r.state
    left_taken =
        record {
          same = r.left.same;
          same_queue = t.same_buffer ∙ r.left.same_queue;
          sheet_is = r.left.sheet_is;
          queue_is = t.same_places ∙ r.left.queue_is;
          attached_is = r.left.attached_is;
          tail_is = t.same_tail ∙ r.left.tail_is;
          counts_are = r.left.counts_are;
        }

    pub running_end : next ≡ None → Left g q now taken (grow_run (held g) g.setup.settings g.setup.params g.sheet.now)
    running_end e =
        let f : TakenAs queue taken None = rw e at t.next in
        let d = sym (from_ended (held g) g.setup.settings g.setup.params (4 * g.corners.now.count.number - queue.head) queue.head r.state (omega (arith, r.left.tail_is, f.0))) ∙ r.rest in
        subst (λ (s : GrowState). Left g q now taken s) d left_taken

    module _ {c : Cell} (some : next ≡ Some c) where
      took : TakenAs queue taken (Some c)
      took = rw some at t.next

      here : queue.head < length r.state.queued
      here = omega (arith, r.left.tail_is, took.0)

      head_few : queue.head < 4096
      head_few = omega (arith, here, queue_few r.going, g.corners.now.count.few)

      -- it is the next of the definition's run
      next_cell : c ≡ next_of r.state queue.head
      next_cell = took.1 ∙ ap cell_of (ap (λ (l : List ℕ). get_or l queue.head 0) r.left.queue_is ∙ over_at r.state.queued q.places.now queue.head here)

      read : state_of now taken ≡ r.state
      read = state_read left_taken r.going.made_counted

      small : SmallCounts now.counts
      small =
          let t = r.going.tallied in
          let f = head_few in
          rw r.left.counts_are
          (record { attached_small = omega arith; no_candidate_small = omega arith; ambiguous_small = omega arith; edge_small = omega arith })

      spare : (k : ℕ) → k < g.corners.now.count.number → used_on r.state.sheet k ≡ false → Spare now taken
      spare k h f =
          let free : Free (held g) r.state.sheet k = record { given = h; free = f } in
          let room : length taken.places.now ≡ length q.places.now = rw left_taken.queue_is (over_length r.state.queued q.places.now (omega (arith, queue_few r.going, w.queue_long))) in
          let list : length now.attached.now ≡ length g.attached.now = rw r.left.attached_is (over_length r.state.made g.attached.now (omega (arith, made_few r.going, w.attached_long))) in
          record {
            queue_room = omega (arith, left_taken.tail_is, room_left r.going here k free, room, w.queue_long);
            attached_room = rw r.left.counts_are (omega (arith, r.going.made_counted, slot_left r.going here k free, list, w.attached_long));
          }

      pub running_visitable : Visitable now taken c
      running_visitable =
          record {
            on = rw next_cell (next_on r.going here);
            bare = rw (next_cell, r.left.sheet_is) (r.going.lined.waiting queue.head (omega arith) here);
            small = small;
            spare = λ k h f. spare k (omega (arith, ap (λ (k : Bor CornerArrays). k.now.count.number) r.left.same.same_corners)) (rw r.left.sheet_is at f);
          }

      pub running_falls : {after : Growing} {left : Queue} {s : GrowState} → Leaves now taken after left s → 4096 - left.head < 4096 - queue.head
      running_falls m = omega (arith, head_few, m.head_same, took.2)

      pub running_more : {after : Growing} {left : Queue} → Leaves now taken after left (grow_visit (held now) now.setup.settings now.setup.params c (state_of now taken)) → Running g q after left
      running_more {after} {left} m =
          let set = g.setup.settings in
          let p = g.setup.params in
          let head = queue.head in
          let n = grow_visit (held g) set p (next_of r.state head) r.state in
          let same = r.left.same in
          let e : grow_visit (held now) now.setup.settings now.setup.params c (state_of now taken) ≡ n = visit_alike (held_alike same) (ap (λ (s : GrowSetup). s.settings) same.same_setup) (ap (λ (s : GrowSetup). s.params) same.same_setup) next_cell read in
          let l : Left now taken after left n = subst (λ (s : GrowState). Left now taken after left s) e m.left in
          let h : left.head ≡ head + 1 = m.head_same ∙ took.2 in
          let fuel : 4 * g.corners.now.count.number - head ≡ suc (4 * g.corners.now.count.number - (head + 1)) = omega (arith, here, queue_few r.going) in
          record {
            state = n;
            left = left_then left_taken l (visit_grown (held g) set p (next_of r.state head) r.state);
            going = rw h (visit_going (held g) set p head r.state r.going here);
            rest = rw h
                (sym (from_next (held g) set p (4 * g.corners.now.count.number - (head + 1)) head r.state here)
                ∙ sym (ap (λ (m : ℕ). grow_from (held g) set p m head r.state) fuel)
                ∙ r.rest);
          }

-- ---- the call

module _ (corners : CornerLists) (set : Settings) (p : GrowParams) (shades sheet : List ℕ) (around : KeptBox) (queue news : List ℕ) where
  module _ (a : Accepted (lent_of corners shades sheet around (rooms (length queue) (length news))) set (Pass.Grow p)) where
    pub call_startable : {g : Growing} {q : Queue} → g.corners.now.count.number ≡ length corners.xs → g.sheet.now ≡ sheet → Empty queue q → g.attached.now ≡ news → g.counts ≡ no_counts → Startable g q
    unfolding queue_needed
    call_startable n s q l c =
        record {
          one_cell = rw s a.one_cell;
          queue_long = rw (n, q.places_are) (omega (arith, a.queue_long));
          attached_long = rw (n, l) a.attached_long;
          none_queued = q.tail_is;
          none_taken = q.head_is;
          none_counted = c;
        }

    -- the pass done
    pub call_left : {before after : Growing} {q next : Queue} {stats : GrowStats} {kept : KeptBox} → held before ≡ corners_of corners shades → before.setup.settings ≡ set → before.setup.params ≡ p → before.sheet.now ≡ sheet
        → q.places.now ≡ queue → before.attached.now ≡ news → Left before q after next (grow_run (held before) before.setup.settings before.setup.params before.sheet.now) → stats ≡ stats_of after
        → kept ≡ kept_of after.around → {s q' n : List ℕ} → s ≡ after.sheet.now → q' ≡ next.places.now → n ≡ after.attached.now
        → grow_out (Ok (stats, kept)) s q' n ≡ grow_leaves (done (grow_after (corners_of corners shades) set p sheet)) sheet queue news
    unfolding grow_after
    call_left {before} {after} cs s m sh q n l e k es eq en =
        let run : grow_run (held before) before.setup.settings before.setup.params before.sheet.now ≡ grow_run (corners_of corners shades) set p sheet = rw (cs, s, m, sh) in
        rw (e, k, after.boxed, es, eq, en, l.counts_are, l.sheet_is, l.queue_is, l.attached_is, run, q, n)

  -- what the call promises of its answer and its buffers, and of what the answer says
  abbrev pub Promised : GrowOut → Type 0
  Promised out =
      let o = grow_step corners shades sheet around set p (rooms (length queue) (length news)) in
      (out ≡ grow_leaves o sheet queue news) × (grow_said out.answer ≡ outcome_due grow_values o)

  promised : {out : GrowOut} → out ≡ grow_leaves (grow_step corners shades sheet around set p (rooms (length queue) (length news))) sheet queue news → Promised out
  promised e = (e, grow_said_lem _ sheet queue news _ e)

  -- by what the check of the arguments finds
  module _ {found : Checked} (is : found ≡ checked (lent_of corners shades sheet around (rooms (length queue) (length news))) set (Pass.Grow p)) where
    leaves_refused : {r : Refusal} → found ≡ Err r
        → grow_out (Err r) sheet queue news ≡ grow_leaves (grow_step corners shades sheet around set p (rooms (length queue) (length news))) sheet queue news
    unfolding grow_step
    leaves_refused e = rw (← is, e)

    pub call_refused : {r : Refusal} → found ≡ Err r → Promised (grow_out (Err r) sheet queue news)
    call_refused e = promised (leaves_refused e)

    pub call_accepted : found ≡ Ok tt → Accepted (lent_of corners shades sheet around (rooms (length queue) (length news))) set (Pass.Grow p)
    call_accepted e = accepted _ _ _ (sym is ∙ e)

    leaves_done : found ≡ Ok tt → {out : GrowOut} → out ≡ grow_leaves (done (grow_after (corners_of corners shades) set p sheet)) sheet queue news
        → out ≡ grow_leaves (grow_step corners shades sheet around set p (rooms (length queue) (length news))) sheet queue news
    unfolding grow_step
    leaves_done e h = rw (← is, e) h

    pub call_done : found ≡ Ok tt → {r : Answer (GrowStats × KeptBox)} {s q n : List ℕ} → grow_out r s q n ≡ grow_leaves (done (grow_after (corners_of corners shades) set p sheet)) sheet queue news
        → Promised (grow_out r s q n)
    call_done e h = promised (leaves_done e h)
