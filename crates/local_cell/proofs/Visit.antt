-- One cell of local: what a visit does to the state, by the fit and by what trying the cell finds; and what the code has written when it has
-- attached a corner. Assumes nothing.
use Rattle.std.specs.Prelude.{None, Option, Ok, Err}
use mathlib.Core.Path.{◌≡◌, refl, sym, ap, ap₂, ◌∙◌}
use mathlib.Core.Bool.{Bool, true, false, cond}
use mathlib.Core.List.{List, [], ◌∷◌, ◌++◌}
use Prim.Native.Nat.{ℕ, ◌+◌, ◌<◌, ◌≤◌}
use native.Mathlib.Omega.{arith}
use lib.ListN.{length, set, take, length-append, length-set}
use lib.Seq.{length-take-le}
use lib.Ieee.{Float, of_bits, binary32, lt}
use Rattle.sheet.specs.Cells.{OnSheet, place_of}
use Rattle.sheet.specs.Words.{label_at, attached, marks_cleared}
use Rattle.sheet.specs.Shades.{takes, shades_in}
use Rattle.sheet.specs.Corners.{Corners, Given, seen_of}
use Rattle.sheet.specs.declared.Cell.{Cell}
use Rattle.sheet.specs.declared.Position.{Position}
use Rattle.sheet.proofs.Corners.{given_attached, given_cleared}
use Rattle.sheet.proofs.Words.{attached_changes, cleared_changes}
use Rattle.labels.specs.Labelled.{labelled_places, label_count, Attaching}
use Rattle.labels.specs.Box.{widened, box_of}
use Rattle.labels.specs.Used.{used_on, Tied, OneCell}
use Rattle.labels.specs.declared.Bounds.{Bounds}
use Rattle.labels.proofs.Box.{same_box, box_attached}
use Rattle.labels.proofs.Labelled.{places_rise, places_in_lem, count_attached, labels_places, same_count}
use Rattle.labels.proofs.Used.{tied_attached, tied_cleared, one_attached, one_cleared}
use Rattle.positions_policy.specs.declared.Tolerances.{Tolerances}
use Rattle.arguments.specs.declared.Settings.{Settings}
use Rattle.arguments.specs.declared.LocalExtensionParams.{LocalExtensionParams}
use Rattle.candidates.specs.Candidates.{positions_in, unmarked}
use Rattle.passed_over.specs.PassedOver.{passed_over}
use Rattle.extension_common.specs.TryCell.{TryCellResult, unmatched, try_at}
use Rattle.extension_common.specs.declared.Search.{Search}
use Rattle.extension_common.specs.declared.NotAttached.{NotAttached}
use Rattle.extension_common.proofs.Laws.{unmatched_tied, Attachable, attachable}
use Rattle.homography.specs.Fit.{applied}
use Rattle.passes.specs.Counting.{one_more, visits}
use Rattle.passes.specs.Grow.{tolerances_of}
use Rattle.passes.specs.Local.{LocalState, supports_of, by_reach, cell_point, LocalFit, none, fitted, local_fit, worst, recorded_all, with_residuals, with_unmatched, local_search, gate_of, local_with, local_try, local_at, local_visit}
use Rattle.passes.specs.declared.Counts.{Counts}
use Rattle.passes.proofs.Over.{over_own, over_more, over_read}
use Rattle.passes.proofs.Free.{labels_few, labels_fewer}
use Rattle.supports.specs.Nearest.{Nearby, Gatherable, Gathered, places_of}
use Rattle.supports.specs.declared.Labelled.{Labelled}
use Rattle.supports.specs.declared.Support.{Support}
use Rattle.std.specs.List.{All}
use Rattle.std.proofs.lemmas.List.Elements.{All-from_get_or}
use Rattle.remembered.proofs.Attach.{clear_long, clear_labels}
use Rattle.local_cell.specs.Extending.{cell_counted, unmatched_counted, state_of, Extending, Holds, attached_clear, Writable}
use Rattle.local_cell.specs.Work.{held, state_in, Trying, Taking, Wrote}
use Rattle.local_cell.specs.declared.LocalProgress.{LocalProgress}
use Rattle.local_cell.specs.declared.LocalWork.{LocalWork}

-- ---- what a visit does: no label changes, or it attaches a corner that may be attached; and it counts at most one cell

pub data Tried (cs : Corners) (tol : Tolerances) (c : Cell) (s : LocalState) : LocalState → Type 0 where
  passed : (n : Counts) (l : Option Float) (u : ℕ) → visits n ≤ visits s.counts + 1
      → Tried cs tol c s (record { sheet = s.sheet; made = s.made; counts = n; largest = l; unmatched = u })
  attaches : (n : Counts) (l : Option Float) (u : ℕ) (k : ℕ) → visits n ≤ visits s.counts + 1 → Attachable cs s.sheet tol c k
      → Tried cs tol c s (record { sheet = attached_clear s.sheet c k; made = s.made ++ (place_of c ∷ []); counts = n; largest = l; unmatched = u })

pub tried : (cs : Corners) (set : Settings) (p : LocalExtensionParams) (c : Cell) (s : LocalState) → Tried cs (tolerances_of set) c s (local_visit cs set p c s)
unfolding local_visit local_at local_try local_with
tried cs set p c s = go (local_fit (seen_of cs.corner s.sheet) (supports_of c s.sheet))
  where
    by : (rs : List Float) (u : ℕ) (r : TryCellResult) → ((k : ℕ) → r ≡ Ok k → Attachable cs s.sheet (tolerances_of set) c k)
        → Tried cs (tolerances_of set) c s (local_with c r (with_unmatched u (with_residuals rs s)))
    by rs u (Err NotAttached.NoCandidates) h = passed (one_more (Err NotAttached.NoCandidates) s.counts) (recorded_all s.largest rs) _ (omega arith)
    by rs u (Err NotAttached.Ambiguous) h = passed (one_more (Err NotAttached.Ambiguous) s.counts) (recorded_all s.largest rs) _ (omega arith)
    by rs u (Err NotAttached.EdgeRejected) h = passed (one_more (Err NotAttached.EdgeRejected) s.counts) (recorded_all s.largest rs) _ (omega arith)
    by rs u (Ok k) h = attaches (one_more (Ok k) s.counts) (recorded_all s.largest rs) _ k (omega arith) (h k refl)

    gated : (h rs : List Float) (t : Bool)
        → Tried cs (tolerances_of set) c s
        (cond t (with_residuals rs s) (local_try cs set p c (applied h (cell_point c)) (with_residuals rs s)))
    gated h rs true = passed s.counts (recorded_all s.largest rs) s.unmatched (omega arith)
    gated h rs false = by rs _ _ (λ k. attachable cs s.sheet (tolerances_of set) (local_search set p) c (applied h (cell_point c)) k)

    go : (f : LocalFit) → Tried cs (tolerances_of set) c s (local_at cs set p c f s)
    go none = passed s.counts s.largest s.unmatched (omega arith)
    go (fitted h rs) = gated h rs (lt (gate_of set p) (worst (of_bits binary32 0) rs))

-- ---- the state after it

module _ {cs : Corners} {tol : Tolerances} {c : Cell} {s : LocalState} where
  pub tried_grows : {after : LocalState} → Tried cs tol c s after → length s.made ≤ length after.made
  tried_grows (passed n l u h) = omega arith
  tried_grows (attaches n l u k h a) = omega (arith, length-append s.made (place_of c ∷ []))

  pub tried_counted : {after : LocalState} → Tried cs tol c s after → visits after.counts ≤ visits s.counts + 1
  tried_counted (passed n l u h) = h
  tried_counted (attaches n l u k h a) = h

-- a corner to be attached, as the laws of labels have it
pub attaching : {cs : Corners} {sheet : List ℕ} {tol : Tolerances} {c : Cell} {k : ℕ} → cs.count ≤ 1024 → 16384 ≤ length sheet → OnSheet c
    → label_at sheet c ≡ None → Attachable cs sheet tol c k → Attaching sheet c k
attaching few long on bare a = record { long = long; on = on; bare = bare; corner_fits = omega (arith, a.given) }

-- the sheet after it, but for the cell's marks, is that with the corner attached
module _ {sheet : List ℕ} {c : Cell} {k : ℕ} (a : Attaching sheet c k) where
  long' : 16384 ≤ length (attached sheet c k)
  long' = rw (clear_long a) a.long

  pub clear_count : label_count (attached_clear sheet c k) ≡ label_count sheet + 1
  clear_count = same_count (attached sheet c k) (attached_clear sheet c k) (labels_places (clear_labels a)) ∙ count_attached a

  -- and the box has the cell more
  pub clear_box : box_of (attached_clear sheet c k) ≡ widened (box_of sheet) c
  clear_box = same_box (attached sheet c k) (attached_clear sheet c k) (labels_places (clear_labels a)) ∙ box_attached a

  module _ {n : ℕ} (given : Given n sheet) (there : k < n) where
    pub clear_given : Given n (attached_clear sheet c k)
    clear_given = given_cleared (given_attached given c a.on k there a.corner_fits) c a.on

  pub clear_one : used_on sheet k ≡ false → OneCell sheet → OneCell (attached_clear sheet c k)
  clear_one free o = one_cleared (attached sheet c k) c long' a.on (one_attached a free o)

  pub clear_tied : {used : List Bool} → k < 1024 → Tied sheet used → Tied (attached_clear sheet c k) (set used k true)
  clear_tied h t = tied_cleared (attached sheet c k) c long' a.on (tied_attached a h t)

-- the labelled places listed anew
module _ {sheet places places' : List ℕ} {labels : ℕ} where
  pub gathered_front : Gathered sheet places places' labels → take labels places' ≡ labelled_places sheet
  unfolding label_count
  gathered_front g = rw (g.count_is, g.places_are) (over_read (labelled_places sheet) places)

-- the stores of an attaching
module _ (sheet : List ℕ) (c : Cell) (k : ℕ) {first second : List ℕ} (e : first ≡ attached sheet c k) (g : second ≡ marks_cleared first c) where
  both_changes : second ≡ attached_clear sheet c k
  both_changes = g ∙ ap (λ (l : List ℕ). marks_cleared l c) e

  pub gatherable : {list : List ℕ} {at : LocalProgress} → Writable sheet list at c k → Gatherable second
  gatherable w =
      let long : 16384 ≤ length (attached sheet c k) = rw (attached_changes sheet c w.sheet_cell.long w.sheet_cell.on k (omega (arith, w.entry))).same_length w.sheet_cell.long in
      rw both_changes (record { long = rw (cleared_changes (attached sheet c k) c long w.sheet_cell.on).same_length long; few = w.few })

  pub wrote : {list : List ℕ} {work work' : LocalWork} {place : ℕ} → place ≡ place_of c → Gathered second work.labelled.now.places work'.labelled.now.places work'.labelled.now.count
      → work'.used ≡ set work.used k true → work'.progress.counts ≡ one_more (Ok k) work.progress.counts
      → work'.progress.residual ≡ work.progress.residual → work'.progress.unmatched ≡ work.progress.unmatched
      → Wrote sheet list work c k second (set list work.progress.counts.attached place) work'
  wrote {list} {work} p w u e l m =
      record {
        sheet_is = both_changes;
        list_is = ap (set list work.progress.counts.attached) p;
        used_is = u;
        places_are = rw both_changes at w;
        counts_are = e;
        largest_is = l;
        unmatched_is = m;
      }

-- ---- the supports

module _ {n : ℕ} {sheet list : List ℕ} {used : List Bool} {labelled : Labelled} {around : Option Bounds} {at : LocalProgress} (f : Extending n sheet list used labelled around at) where
  front_long : length (take labelled.count labelled.places) ≡ label_count sheet
  unfolding label_count
  front_long = ap length f.places_are

  -- the labelled places are of the sheet
  pub listed_below : All (λ (p : ℕ). p < 16384) (take labelled.count labelled.places)
  listed_below = rw f.places_are (All-from_get_or (λ (p : ℕ). p < 16384) (labelled_places sheet) 0 (places_in_lem sheet))

  pub nearby : (c : Cell) → OnSheet c → Nearby (take labelled.count labelled.places) c
  nearby c on =
      record {
        four = omega (arith, front_long, f.four);
        along = record { rising = rw f.places_are (places_rise sheet); below = listed_below; on = on };
      }

  pub supports_are : (c : Cell) (s : List Support) → places_of s ≡ take 4 (by_reach c (take labelled.count labelled.places)) → places_of s ≡ supports_of c sheet
  unfolding supports_of
  supports_are c s e = e ∙ rw f.places_are

-- ---- what the code leaves

-- the same state by another expression
pub left_as : {s after : LocalState} {before sheet list : List ℕ} {at : LocalProgress} → after ≡ s
    → Holds s before sheet list at → Holds after before sheet list at
left_as e l = rw e l

module _ {n : ℕ} {sheet list : List ℕ} {used : List Bool} {labelled : Labelled} {around : Option Bounds} {at : LocalProgress} (f : Extending n sheet list used labelled around at) where
  pub made_few : at.counts.attached ≤ n
  made_few = omega (arith, f.room, labels_few f.given f.one_cell)

  pub made_in : at.counts.attached ≤ length list
  made_in = omega (arith, made_few, f.list_long)

  -- nothing written
  pub stands : Holds (state_of sheet list at) list sheet list at
  stands =
      record {
        sheet_is = refl;
        list_is = sym (over_own list at.counts.attached made_in);
        made_is = sym (length-take-le at.counts.attached list made_in);
        counts_are = refl;
        largest_is = refl;
        unmatched_is = refl;
      }

  -- the same buffers, with as many attached and labelled
  pub extending_as : {used' : List Bool} {labelled' : Labelled} {around' : Option Bounds} {at' : LocalProgress} → used' ≡ used → labelled' ≡ labelled → around' ≡ around
      → at'.counts.attached ≡ at.counts.attached → Extending n sheet list used' labelled' around' at'
  extending_as u p b m =
      record {
        given = f.given;
        one_cell = f.one_cell;
        tied = rw u f.tied;
        list_long = f.list_long;
        room = rw m f.room;
        four = f.four;
        labels_are = rw p f.labels_are;
        places_are = rw p f.places_are;
        around_is = b ∙ f.around_is;
      }

pub untouched : {n : ℕ} {sheet list : List ℕ} {used : List Bool} {labelled : Labelled} {around : Option Bounds} {at : LocalProgress} {after : LocalState} → Extending n sheet list used labelled around at → after ≡ state_of sheet list at → Holds after list sheet list at
untouched f e = rw e (stands f)

module _ {work : LocalWork} {c : Cell} {k : ℕ} (t : Taking work c k) where
  pub taking_fits : k < 1024
  taking_fits = omega (arith, t.there, work.setup.corners.now.count.few)

  pub taking_attaching : Attaching work.sheet.now c k
  taking_attaching = record { long = work.extending.given.long; on = t.trying.on; bare = t.trying.bare; corner_fits = omega (arith, taking_fits) }

  given' : Given work.setup.corners.now.count.number (attached_clear work.sheet.now c k)
  given' = clear_given taking_attaching work.extending.given t.there

  one' : OneCell (attached_clear work.sheet.now c k)
  one' = clear_one taking_attaching t.free work.extending.one_cell

  -- the new labels are few
  pub taking_few : label_count (attached_clear work.sheet.now c k) ≤ 1024
  taking_few = omega (arith, labels_few given' one', work.setup.corners.now.count.few)

  -- there is a place left in the list
  pub taking_room : work.progress.counts.attached < length work.attached.now
  taking_room =
      let f = work.extending in
      omega (arith, f.room, f.list_long, labels_fewer f.given f.one_cell taking_attaching t.there t.free)

  pub taking_writable : Writable work.sheet.now work.attached.now work.progress c k
  taking_writable =
      record {
        sheet_cell = record { long = work.extending.given.long; on = t.trying.on };
        entry = taking_fits;
        space = taking_room;
        countable = t.trying.countable;
        few = taking_few;
      }

  -- a corner attached
  pub took : {sheet' list' : List ℕ} {work' : LocalWork} → Wrote work.sheet.now work.attached.now work c k sheet' list' work'
      → Holds (local_with c (Ok k) (state_in work)) work.attached.now sheet' list' work'.progress
  unfolding local_with
  took {sheet'} {list'} {work'} w =
      let f = work.extending in
      let list = work.attached.now in
      let at = work.progress in
      let taken : length (take at.counts.attached list) ≡ at.counts.attached = length-take-le at.counts.attached list (made_in f) in
      let m : work'.progress.counts.attached ≡ at.counts.attached + 1 = ap (λ (x : Counts). x.attached) w.counts_are in
      rw (w.sheet_is, w.list_is)
      (record {
        sheet_is = refl;
        list_is = ap₂ (λ (l : List ℕ) (x : ℕ). set l x (place_of c)) (sym (over_own list at.counts.attached (made_in f))) (sym taken) ∙ over_more (take at.counts.attached list) list (place_of c) (omega (arith, taken, taking_room));
        made_is = omega (arith, m, taken, length-append (take at.counts.attached list) (place_of c ∷ []));
        counts_are = w.counts_are;
        largest_is = w.largest_is;
        unmatched_is = w.unmatched_is;
      })

  -- and all may go on
  pub took_extending : {first second : List ℕ} (place : ℕ) {labelled' : Labelled} {around' : Option Bounds} {at' : LocalProgress} → first ≡ attached work.sheet.now c k → second ≡ marks_cleared first c
      → Gathered second work.labelled.now.places labelled'.places labelled'.count → around' ≡ widened work.around c → at'.counts ≡ one_more (Ok k) work.progress.counts
      → Extending work.setup.corners.now.count.number second (set work.attached.now work.progress.counts.attached place) (set work.used k true) labelled' around' at'
  took_extending place {labelled'} {around'} {at'} e g w b h =
      let f = work.extending in
      let m : at'.counts.attached ≡ work.progress.counts.attached + 1 = ap (λ (x : Counts). x.attached) h in
      let is = both_changes work.sheet.now c k e g in
      let w' = rw is at w in
      rw is
      (record {
        given = given';
        one_cell = one';
        tied = clear_tied taking_attaching taking_fits f.tied;
        list_long = rw length-set f.list_long;
        room = omega (arith, m, f.room, clear_count taking_attaching);
        four = omega (arith, f.four, clear_count taking_attaching);
        labels_are = w'.count_is;
        places_are = gathered_front w';
        around_is = b ∙ ap (λ (x : Option Bounds). widened x c) f.around_is ∙ sym (clear_box taking_attaching);
      })

-- ---- by what was found

-- what was found is what the definition finds
pub found_is : (cs : Corners) (sheet : List ℕ) (c : Cell) (prediction : Position) {tol tol' : Tolerances} {search search' : Search} {r : TryCellResult} → search' ≡ search → tol' ≡ tol
    → r ≡ try_at cs sheet tol' search' c prediction → r ≡ try_at cs sheet tol search c prediction
found_is cs sheet c prediction s t e = e ∙ rw (t, s)

-- what was passed over, by the array of used corners
pub unmatched_is : (work : LocalWork) (c : Cell) {passed : ℕ} (radius : Float) (prediction : Position)
    → passed ≡ passed_over (positions_in work.setup.corners.now) (unmarked work.used) (takes (shades_in work.setup.corners.now) c) work.setup.corners.now.count.number prediction radius
    → passed ≡ unmatched (held work) work.sheet.now radius c prediction
unmatched_is work c radius prediction e =
    e ∙ unmatched_tied work.setup.corners.now work.sheet.now work.used radius c prediction work.extending.tied refl

-- a corner that was found is to be attached
pub taking : {work : LocalWork} {c : Cell} {k : ℕ} {r : TryCellResult} (tol : Tolerances) (search : Search) (prediction : Position)
    → Trying work c → r ≡ try_at (held work) work.sheet.now tol search c prediction → r ≡ Ok k
    → Taking work c k
taking {work} {c} {k} tol search prediction t e g =
    let w = attachable (held work) work.sheet.now tol search c prediction k (sym e ∙ g) in
    record { trying = t; there = w.given; free = w.free }

module _ {n : ℕ} {sheet list : List ℕ} {used : List Bool} {labelled : Labelled} {around : Option Bounds} {at : LocalProgress} (f : Extending n sheet list used labelled around at) {at' : LocalProgress} where
  -- no corner: the cell is counted, and nothing is written
  module _ (c : Cell) {q r : TryCellResult} (d : r ≡ q) (is : at' ≡ cell_counted at r) where
    counted : (s : LocalState) → (cell_counted at r).counts.attached ≡ at.counts.attached → s ≡ state_of sheet list (cell_counted at r) → Holds s list sheet list at'
    counted s m e = rw is (untouched (extending_as f refl refl refl m) e)

    pub found_none : r ≡ Err NotAttached.NoCandidates → Holds (local_with c q (state_of sheet list at)) list sheet list at'
    unfolding local_with
    found_none g = counted _ (rw g) (rw (← d, g))

    pub found_ambiguous : r ≡ Err NotAttached.Ambiguous → Holds (local_with c q (state_of sheet list at)) list sheet list at'
    unfolding local_with
    found_ambiguous g = counted _ (rw g) (rw (← d, g))

    pub found_refused : r ≡ Err NotAttached.EdgeRejected → Holds (local_with c q (state_of sheet list at)) list sheet list at'
    unfolding local_with
    found_refused g = counted _ (rw g) (rw (← d, g))

  -- and all may go on
  pub counted_extending : (r : TryCellResult) → at' ≡ cell_counted at r → (one_more r at.counts).attached ≡ at.counts.attached → Extending n sheet list used labelled around at'
  counted_extending r is m = rw is (extending_as f refl refl refl m)

pub found_corner : {work : LocalWork} (c : Cell) {q r : TryCellResult} → r ≡ q → {k : ℕ} {sheet' list' : List ℕ} {work' : LocalWork} → Taking work c k → r ≡ Ok k
    → Wrote work.sheet.now work.attached.now work c k sheet' list' work' → Holds (local_with c q (state_in work)) work.attached.now sheet' list' work'.progress
found_corner c d t g w = rw (← d, g) (took t w)

-- ---- the corners passed over

-- what is passed over is counted before the cell is tried or after it
pub try_counts : (cs : Corners) (set : Settings) (p : LocalExtensionParams) (c : Cell) (at : Position) (s : LocalState)
    → local_try cs set p c at s
    ≡ with_unmatched (unmatched cs s.sheet (local_search set p).search_r c at) (local_with c (try_at cs s.sheet (tolerances_of set) (local_search set p) c at) s)
unfolding local_try
try_counts cs set p c at s = go (try_at cs s.sheet (tolerances_of set) (local_search set p) c at) (unmatched cs s.sheet (local_search set p).search_r c at)
  where
    go : (r : TryCellResult) (n : ℕ) → local_with c r (with_unmatched n s) ≡ with_unmatched n (local_with c r s)
    go (Err e) n = unfold local_with in refl
    go (Ok k) n = unfold local_with in refl

-- the buffers hold the state with them counted
pub counted_left : {s : LocalState} {before sheet list : List ℕ} {at at' : LocalProgress} (m : ℕ) → at' ≡ unmatched_counted at m
    → Holds s before sheet list at → Holds (with_unmatched m s) before sheet list at'
counted_left m e h =
    rw e
    (record {
      sheet_is = h.sheet_is;
      list_is = h.list_is;
      made_is = h.made_is;
      counts_are = h.counts_are;
      largest_is = h.largest_is;
      unmatched_is = ap (λ (x : ℕ). x + m) h.unmatched_is;
    })

-- a try is one visit more, and passes over none by itself
pub visits_more : (r : TryCellResult) (n : Counts) → visits (one_more r n) ≡ visits n + 1
visits_more (Err NotAttached.NoCandidates) n = omega arith
visits_more (Err NotAttached.Ambiguous) n = omega arith
visits_more (Err NotAttached.EdgeRejected) n = omega arith
visits_more (Ok k) n = omega arith

pub with_counts : (c : Cell) (r : TryCellResult) (s : LocalState) → (local_with c r s).counts ≡ one_more r s.counts
unfolding local_with
with_counts c (Err e) s = refl
with_counts c (Ok k) s = refl

pub with_unmatched_lem : (c : Cell) (r : TryCellResult) (s : LocalState) → (local_with c r s).unmatched ≡ s.unmatched
unfolding local_with
with_unmatched_lem c (Err e) s = refl
with_unmatched_lem c (Ok k) s = refl
