-- Four places a corner are enough for grow's queue: no step of a run is ever cut off, every queued cell is visited once, and the counts
-- are those of the cells visited. What carries it: each labelled cell, given or attached, brings at most four cells into the queue, and
-- there are at most as many labelled cells as corners. Assumes nothing.
use mathlib.Core.Path.{◌≡◌, refl, sym, ap, ◌∙◌}
use mathlib.Core.Bool.{Bool, true, false, cond}
use mathlib.Core.List.{List, []}
use Prim.Native.Nat.{ℕ, zero, suc, ◌+◌, ◌*◌, ◌<◌, ◌≤◌}
use native.Mathlib.Decide.{ℕ_discrete}
use native.Mathlib.Omega.{arith}
use borrow.Author.Tests.{ltb-true, ltb-false, lt-ltb, le-ltb}
use lib.Dec.{ltb}
use lib.ListN.{length, get_or}
use Rattle.sheet.specs.Cells.{OnSheet, place_of, cell_of}
use Rattle.sheet.specs.Words.{label_of, attached, hole_marked, ambiguous_marked}
use Rattle.sheet.specs.Corners.{Corners, seen_of}
use Rattle.arguments.specs.Shades.{corners_of}
use Rattle.sheet.specs.declared.Cell.{Cell}
use Rattle.sheet.specs.declared.Position.{Position}
use Rattle.sheet.proofs.Laws.{cell_on_lem}
use Rattle.sheet.proofs.Words.{attached_changes, hole_changes, ambiguous_changes}
use Rattle.labels.specs.Labelled.{labelled_places, label_count, Attaching, SameLabels}
use Rattle.labels.specs.Used.{used_on, OneCell}
use Rattle.labels.proofs.Labelled.{labels_places, same_count, hole_keeps, ambiguous_keeps, count_attached, label_after, word_else}
use Rattle.labels.proofs.Used.{one_same, one_attached, count_bounded}
use Rattle.predict.specs.Predict.{prediction_of, extrapolating}
use Rattle.std.specs.Prelude.{Option, Some, None, Ok, Err}
use Rattle.arguments.specs.Arguments.{Lent}
use Rattle.arguments.specs.Accepted.{Accepted}
use Rattle.arguments.proofs.Laws.{accepted}
use Rattle.arguments.specs.declared.GrowParams.{GrowParams}
use Rattle.arguments.specs.declared.Pass.{Pass}
use Rattle.arguments.specs.declared.Settings.{Settings}
use Rattle.extension_common.specs.TryCell.{TryCellResult, try_at}
use Rattle.extension_common.specs.declared.NotAttached.{NotAttached}
use Rattle.extension_common.proofs.Laws.{attachable}
use Rattle.passes.specs.Grow.{GrowState, start_of, tolerances_of, search_of, grow_with, grow_at, grow_visit, grow_from, grow_run}
use Rattle.passes.specs.Enough.{tally, Enough, NothingCutOff}
use Rattle.passes.specs.declared.Counts.{Counts}
use Rattle.passes.proofs.Queue.{more_length, spread_longer, seeded_longer, Lined, lined_none, lined_same, lined_attached, spread_lined, seeded_lined}

-- ---- a sheet that belongs to the corners

-- long enough, at most 1,024 corners, every corner on it given, and each at one place
pub record Belongs (cs : Corners) (sheet : List ℕ) : Type 0 where
  pub long : 16384 ≤ length sheet
  pub few : cs.count ≤ 1024
  pub known : (p k : ℕ) → p < 16384 → label_of (get_or sheet p 0) ≡ Some k → k < cs.count
  pub one_cell : OneCell sheet

-- the sheet of every accepted call is one
pub belongs_accepted : {l : Lent} {set : Settings} {pass : Pass} → Accepted l set pass → Belongs (corners_of l.corners l.shades) l.sheet
belongs_accepted w = record { long = w.given.long; few = w.few; known = w.given.known; one_cell = w.one_cell }

module _ {cs : Corners} {sheet : List ℕ} (f : Belongs cs sheet) where
  -- at most as many labelled cells as corners
  pub labels_few : label_count sheet ≤ cs.count
  labels_few = count_bounded sheet cs.count f.known f.one_cell

  -- marks change nothing of it
  pub belongs_same : (after : List ℕ) → length after ≡ length sheet → SameLabels sheet after → Belongs cs after
  belongs_same after e s =
      record { long = rw e f.long; few = f.few; known = λ p k h l. f.known p k h (sym (s.same_label p h) ∙ l); one_cell = one_same s f.one_cell }

  -- nor does a given corner that no cell holds, attached to an unlabelled cell
  pub belongs_attached : {c : Cell} {k : ℕ} → Attaching sheet c k → k < cs.count → used_on sheet k ≡ false → Belongs cs (attached sheet c k)
  belongs_attached {c} {k} a given free =
      record {
        long = rw (attached_changes sheet c a.long a.on k a.corner_fits).same_length f.long;
        few = f.few;
        known = λ p j h l. go p j h l (ℕ_discrete p (place_of c));
        one_cell = one_attached a free f.one_cell;
      }
    where
      go : (p j : ℕ) → p < 16384 → label_of (get_or (attached sheet c k) p 0) ≡ Some j → Dec (p ≡ place_of c) → j < cs.count
      go p j h l (yes d) =
          let e : Some k ≡ Some j = sym (label_after a) ∙ ap (λ (q : ℕ). label_of (get_or (attached sheet c k) q 0)) (sym d) ∙ l in
          let g : k ≡ j = cc in
          omega arith
      go p j h l (no d) = f.known p j h (ap label_of (sym (word_else a p d)) ∙ l)

-- ---- where a run stands

-- A run that has visited `head` cells: the queue holds at most four cells a labelled one, the new cells are labelled ones, and the counts
-- are those of the cells visited.
pub record Going (cs : Corners) (head : ℕ) (s : GrowState) : Type 0 where
  pub fit : Belongs cs s.sheet
  pub lined : Lined s.sheet head s.queued
  pub room : length s.queued ≤ 4 * label_count s.sheet
  pub slots : length s.made ≤ label_count s.sheet
  pub made_counted : s.counts.attached ≡ length s.made
  pub tallied : tally s.counts ≡ head

pub start_going : (cs : Corners) (sheet : List ℕ) → Belongs cs sheet → Going cs 0 (start_of sheet)
unfolding start_of label_count
start_going cs sheet f =
    record {
      fit = f;
      lined = seeded_lined sheet 0 (labelled_places sheet) [] (lined_none sheet);
      room = omega (arith, (seeded_longer sheet (labelled_places sheet) []).few);
      slots = omega arith;
      made_counted = refl;
      tallied = refl;
    }

module _ {cs : Corners} {head : ℕ} {s : GrowState} (g : Going cs head s) where
  -- four places a corner
  pub queue_few : length s.queued ≤ 4 * cs.count
  queue_few = omega (arith, g.room, labels_few g.fit)

  pub made_few : length s.made ≤ cs.count
  made_few = omega (arith, g.slots, labels_few g.fit)

-- ---- one cell visited

-- the next cell of the queue
abbrev pub next_of : GrowState → ℕ → Cell
next_of s head = cell_of (get_or s.queued head 0)

-- the state with a cell marked
abbrev marked_as : GrowState → List ℕ → Counts → GrowState
marked_as s sheet counts = record { sheet = sheet; queued = s.queued; made = s.made; counts = counts }

-- what a corner that trying found has
pub record Free (cs : Corners) (sheet : List ℕ) (k : ℕ) : Type 0 where
  pub given : k < cs.count
  pub free : used_on sheet k ≡ false

module _ {cs : Corners} {head : ℕ} {s : GrowState} (g : Going cs head s) (left : head < length s.queued) where
  pub next_on : OnSheet (next_of s head)
  next_on = cell_on_lem _ (g.lined.places head left)

  -- it can take a corner
  pub next_attaching : (k : ℕ) → k < cs.count → Attaching s.sheet (next_of s head) k
  next_attaching k h = record { long = g.fit.long; on = next_on; bare = g.lined.waiting head (omega arith) left; corner_fits = omega (arith, g.fit.few) }

  -- the attached list has a place left for it
  pub slot_left : (k : ℕ) → Free cs s.sheet k → length s.made < cs.count
  slot_left k f =
      let a = next_attaching k f.given in
      omega (arith, g.slots, count_attached a, labels_few (belongs_attached g.fit a f.given f.free))

  -- and the queue four
  pub room_left : (k : ℕ) → Free cs s.sheet k → length s.queued + 4 ≤ 4 * cs.count
  room_left k f =
      let a = next_attaching k f.given in
      omega (arith, g.room, count_attached a, labels_few (belongs_attached g.fit a f.given f.free))

  marked_going : (after : List ℕ) (counts : Counts) → length after ≡ length s.sheet → SameLabels s.sheet after → counts.attached ≡ s.counts.attached → tally counts ≡ tally s.counts + 1
      → Going cs (head + 1) (marked_as s after counts)
  marked_going after counts e m same more =
      record {
        fit = belongs_same g.fit after e m;
        lined = lined_same s.sheet head s.queued g.lined left after m;
        room = omega (arith, g.room, same_count s.sheet after (labels_places m));
        slots = omega (arith, g.slots, same_count s.sheet after (labels_places m));
        made_counted = same ∙ g.made_counted;
        tallied = omega (arith, more, g.tallied);
      }

  hole_going : (counts : Counts) → counts.attached ≡ s.counts.attached → tally counts ≡ tally s.counts + 1 → Going cs (head + 1) (marked_as s (hole_marked s.sheet (next_of s head)) counts)
  hole_going counts =
      marked_going (hole_marked s.sheet (next_of s head)) counts (hole_changes s.sheet (next_of s head) g.fit.long next_on).same_length
      (hole_keeps s.sheet (next_of s head) g.fit.long next_on)

  ambiguous_going : (counts : Counts) → counts.attached ≡ s.counts.attached → tally counts ≡ tally s.counts + 1 → Going cs (head + 1) (marked_as s (ambiguous_marked s.sheet (next_of s head)) counts)
  ambiguous_going counts =
      marked_going (ambiguous_marked s.sheet (next_of s head)) counts (ambiguous_changes s.sheet (next_of s head) g.fit.long next_on).same_length
      (ambiguous_keeps s.sheet (next_of s head) g.fit.long next_on)

  -- by what is found there
  pub with_going : (r : TryCellResult) → ((k : ℕ) → r ≡ Ok k → Free cs s.sheet k) → Going cs (head + 1) (grow_with (next_of s head) r s)
  unfolding grow_with
  with_going (Err NotAttached.NoCandidates) f = hole_going _ refl (omega arith)
  with_going (Err NotAttached.Ambiguous) f = ambiguous_going _ refl (omega arith)
  with_going (Err NotAttached.EdgeRejected) f = hole_going _ refl (omega arith)
  with_going (Ok k) f =
      let h = f k refl in
      let a = next_attaching k h.given in
      let after = attached s.sheet (next_of s head) k in
      record {
        fit = belongs_attached g.fit a h.given h.free;
        lined = spread_lined after (head + 1) (next_of s head) s.queued (lined_attached s.sheet head s.queued g.lined left k a);
        room = omega (arith, g.room, count_attached a, (spread_longer after (next_of s head) s.queued).few);
        slots = omega (arith, g.slots, count_attached a, more_length s.made (place_of (next_of s head)));
        made_counted = omega (arith, g.made_counted, more_length s.made (place_of (next_of s head)));
        tallied = omega (arith, g.tallied);
      }

module _ (cs : Corners) (set : Settings) (p : GrowParams) where
  -- a corner that trying a cell found is given and held by no cell
  pub found_free : (sheet : List ℕ) (c : Cell) (at : Position) (e : Bool) (k : ℕ) → try_at cs sheet (tolerances_of set) (search_of set p e) c at ≡ Ok k → Free cs sheet k
  found_free sheet c at e k h = let a = attachable cs sheet (tolerances_of set) (search_of set p e) c at k h in record { given = a.given; free = a.free }

  pub visit_going : (head : ℕ) (s : GrowState) → Going cs head s → head < length s.queued → Going cs (head + 1) (grow_visit cs set p (next_of s head) s)
  unfolding grow_visit grow_at
  visit_going head s g left = go (prediction_of (seen_of cs.corner s.sheet) set.grid (next_of s head))
    where
      go : (at : Option Position) → Going cs (head + 1) (grow_at cs set p (next_of s head) at s)
      go None = hole_going g left _ refl (omega arith)
      go (Some at) = with_going g left _ (found_free s.sheet (next_of s head) at (extrapolating (seen_of cs.corner s.sheet) (next_of s head)))

  -- ---- the run

  -- nothing is left to visit
  pub from_ended : (m head : ℕ) (s : GrowState) → length s.queued ≤ head → grow_from cs set p m head s ≡ s
  unfolding grow_from
  from_ended zero head s h = refl
  from_ended (suc m) head s h = rw (le-ltb head (length s.queued) h)

  -- one cell more
  pub from_next : (m head : ℕ) (s : GrowState) → head < length s.queued → grow_from cs set p (suc m) head s ≡ grow_from cs set p m (head + 1) (grow_visit cs set p (next_of s head) s)
  unfolding grow_from
  from_next m head s h = rw (lt-ltb head (length s.queued) h)

  -- a run with fuel for four cells a corner visits the whole queue
  pub from_going : (m head : ℕ) (s : GrowState) → Going cs head s → 4 * cs.count ≤ head + m → Going cs (length (grow_from cs set p m head s).queued) (grow_from cs set p m head s)
  unfolding grow_from
  from_going zero head s g h = ended head s g (omega (arith, queue_few g))
    where
      ended : (head : ℕ) (s : GrowState) → Going cs head s → length s.queued ≤ head → Going cs (length s.queued) s
      ended head s g h = let e : head ≡ length s.queued = omega (arith, g.lined.upto) in rw (← e) g
  from_going (suc m) head s g h = go (ltb head (length s.queued)) refl (λ l. from_going m (head + 1) (grow_visit cs set p (next_of s head) s) (visit_going head s g l) (omega arith))
    where
      next : GrowState
      next = grow_from cs set p m (head + 1) (grow_visit cs set p (next_of s head) s)

      go : (t : Bool) → ltb head (length s.queued) ≡ t → (head < length s.queued → Going cs (length next.queued) next) → Going cs (length (cond t next s).queued) (cond t next s)
      go true e w = w (ltb-true head (length s.queued) e)
      go false e w = let d : head ≡ length s.queued = omega (arith, g.lined.upto, ltb-false head (length s.queued) e) in rw (← d) g

  -- more fuel changes nothing
  pub from_more : (m j head : ℕ) (s : GrowState) → Going cs head s → 4 * cs.count ≤ head + m → grow_from cs set p (m + j) head s ≡ grow_from cs set p m head s
  unfolding grow_from
  from_more zero j head s g h =
      let e : 0 + j ≡ j = omega arith in
      ap (λ (n : ℕ). grow_from cs set p n head s) e ∙ from_ended j head s (omega (arith, queue_few g))
  from_more (suc m) j head s g h =
      let e : suc m + j ≡ suc (m + j) = omega arith in
      ap (λ (n : ℕ). grow_from cs set p n head s) e
      ∙ go (ltb head (length s.queued)) refl (λ l. from_more m j (head + 1) (grow_visit cs set p (next_of s head) s) (visit_going head s g l) (omega arith))
    where
      go : (t : Bool) → ltb head (length s.queued) ≡ t → (head < length s.queued → grow_from cs set p (m + j) (head + 1) (grow_visit cs set p (next_of s head) s) ≡ grow_from cs set p m (head + 1) (grow_visit cs set p (next_of s head) s))
          → cond t (grow_from cs set p (m + j) (head + 1) (grow_visit cs set p (next_of s head) s)) s ≡ cond t (grow_from cs set p m (head + 1) (grow_visit cs set p (next_of s head) s)) s
      go true f w = w (ltb-true head (length s.queued) f)
      go false f w = refl

-- ---- four places a corner are enough

-- a run on a sheet that belongs to the corners
pub enough : (cs : Corners) (set : Settings) (p : GrowParams) (sheet : List ℕ) → Belongs cs sheet → Enough cs set p sheet
unfolding grow_run
enough cs set p sheet f =
    let g = start_going cs sheet f in
    let w = from_going cs set p (4 * cs.count) 0 (start_of sheet) g (omega arith) in
    record {
      same = λ m. from_more cs set p (4 * cs.count) m 0 (start_of sheet) g (omega arith);
      all_visited = record { each_counted = w.tallied; few = queue_few w; on = w.lined.places; once = w.lined.distinct; made_few = made_few w };
    }

-- so for every call that the checks let pass
pub nothing_cut_off : NothingCutOff
nothing_cut_off l set p e = enough (corners_of l.corners l.shades) set p l.sheet (belongs_accepted (accepted l set (Pass.Grow p) e))
