-- Grow's run is a history: every queued cell lies on the sheet and stays unlabelled until its own visit. Assumes nothing.
use mathlib.Core.Path.{◌≡◌, refl, sym, subst}
use mathlib.Core.Bool.{Bool, true, false, not, cond}
use mathlib.Core.List.Memᴰ
use mathlib.Core.List.{List, [], ◌∷◌, ◌++◌, Memᴰ}
use mathlib.Core.Logic.{⊎_elim}
use Prim.Native.Nat.{ℕ, zero, suc, ◌+◌, ◌*◌, ◌<◌, ◌≤◌}
use native.Mathlib.Omega.{arith}
use native.Mathlib.Numerals.{add-one}
use borrow.Author.Tests.{eq-eqb, ltb-true, not-true}
use lib.Dec.{T, eqb, ltb}
use lib.ListN.{length, get_or, drop, length-append}
use lib.Seq.{drop-cons, drop-append-le}
use Rattle.sheet.specs.Cells.{on_sheet, OnSheet, place_of, cell_of, moved}
use Rattle.sheet.specs.Words.{label_at, attached}
use Rattle.sheet.specs.Corners.{Corners, seen_of}
use Rattle.sheet.specs.declared.Cell.{Cell}
use Rattle.sheet.specs.declared.Offset.{Offset}
use Rattle.sheet.proofs.Laws.{place_in, cell_on_lem, place_cell, cell_place}
use Rattle.sheet.proofs.Words.{hole_changes, ambiguous_changes}
use Rattle.labels.specs.Labelled.{names_corner, labelled_places, SameLabels}
use Rattle.labels.proofs.Below.{no_both, both}
use Rattle.labels.proofs.Labelled.{hole_keeps, ambiguous_keeps}
use Rattle.predict.specs.Predict.{prediction_of}
use Rattle.std.specs.Prelude.{Option, Some, None, Ok, Err}
use Rattle.sheet.specs.declared.Position.{Position}
use Rattle.positions_policy.specs.Edge.{cardinal_offsets}
use Rattle.positions_policy.specs.declared.Tolerances.{Tolerances}
use Rattle.arguments.specs.declared.Settings.{Settings}
use Rattle.arguments.specs.declared.GrowParams.{GrowParams}
use Rattle.extension_common.specs.declared.NotAttached.{NotAttached}
use Rattle.extension_common.specs.TryCell.{TryCellResult}
use Rattle.passes.specs.Grow.{tolerances_of, GrowState, member, wanted, enqueued, enqueued_at, spread, seeded_from, start_of, missed, grow_with, grow_at, grow_visit, grow_from, grow_run}
use Rattle.passes.specs.History.{Attaches, History, begun, marked, attaches}
use Rattle.invariants.specs.Kept.{Sound}
use Rattle.invariants.proofs.History.{history_extended}
use Rattle.invariants.proofs.Waiting.{Waiting, waiting_none, unnamed, waiting_more, first_on, waiting_marked, waiting_attached, found_attaches}

-- ---- the queue

-- the cells from number `head` on wait
pub record Queue (sheet : List ℕ) (head : ℕ) (queued : List ℕ) : Type 0 where
  pub upto : head ≤ length queued
  pub waiting : Waiting sheet (drop head queued)

not_member : (p : ℕ) (l : List ℕ) → member p l ≡ false → Memᴰ p l → ⊥
unfolding member
not_member p [] e m = Memᴰ.not-nil m
not_member p (q ∷ l) e m = go (eqb p q) refl e (not_member p l)
  where
    go : (t : Bool) → eqb p q ≡ t → cond t true (member p l) ≡ false → (member p l ≡ false → Memᴰ p l → ⊥) → ⊥
    go true f g w = no_both true refl g
    go false f g w = ⊎_elim (λ d. no_both (eqb p q) (eq-eqb p q d) f) (w g) (Memᴰ.cases_cons m)

drop_in : (n p : ℕ) (l : List ℕ) → Memᴰ p (drop n l) → Memᴰ p l
drop_in zero p l m = m
drop_in (suc n) p [] m = m
drop_in (suc n) p (q ∷ l) m = Memᴰ.tail (drop_in n p l m)

-- a wanted cell lies on the sheet, is unlabelled and was not queued before
record Wanted (sheet queued : List ℕ) (c : Cell) : Type 0 where
  on : OnSheet c
  bare : label_at sheet c ≡ None
  fresh : Memᴰ (place_of c) queued → ⊥

is_wanted : (sheet queued : List ℕ) (c : Cell) → wanted sheet queued c ≡ true → Wanted sheet queued c
unfolding wanted
is_wanted sheet queued c e =
    let a = both (on_sheet c) _ e in
    let b = both (not (names_corner (label_at sheet c))) (not (member (place_of c) queued)) a.1 in
    record {
      on = subst T (sym a.0) tt;
      bare = unnamed (label_at sheet c) b.0;
      fresh = not_member (place_of c) queued (not-true (member (place_of c) queued) b.1);
    }

module _ (sheet : List ℕ) (head : ℕ) where
  enqueued_waits : (c : Cell) (queued : List ℕ) → Queue sheet head queued → Queue sheet head (enqueued sheet c queued)
  unfolding enqueued
  enqueued_waits c queued q = go (wanted sheet queued c) refl
    where
      go : (t : Bool) → wanted sheet queued c ≡ t → Queue sheet head (cond t (queued ++ (place_of c ∷ [])) queued)
      go false e = q
      go true e =
          let w = is_wanted sheet queued c e in
          record {
            upto = omega (arith, q.upto, length-append queued (place_of c ∷ []));
            waiting =
                rw (drop-append-le head queued (place_of c ∷ []) q.upto)
                (waiting_more q.waiting (place_in c w.on) (rw (cell_place c w.on) w.bare) (λ m. w.fresh (drop_in head (place_of c) queued m)));
          }

  enqueued_at_waits : (c : Cell) (os : List Offset) (queued : List ℕ) → Queue sheet head queued → Queue sheet head (enqueued_at sheet c os queued)
  unfolding enqueued_at
  enqueued_at_waits c [] queued q = q
  enqueued_at_waits c (o ∷ os) queued q = enqueued_at_waits c os (enqueued sheet (moved c o) queued) (enqueued_waits (moved c o) queued q)

  spread_waits : (c : Cell) (queued : List ℕ) → Queue sheet head queued → Queue sheet head (spread sheet c queued)
  unfolding spread
  spread_waits c queued q = enqueued_at_waits c cardinal_offsets queued q

  seeded_waits : (ps queued : List ℕ) → Queue sheet head queued → Queue sheet head (seeded_from sheet ps queued)
  unfolding seeded_from
  seeded_waits [] queued q = q
  seeded_waits (p ∷ ps) queued q = seeded_waits ps (spread sheet (cell_of p) queued) (spread_waits (cell_of p) queued q)

-- ---- a run under way

-- before the visit of number `head` of the queue
pub record Growing (cs : Corners) (tol : Tolerances) (first : List ℕ) (head : ℕ) (s : GrowState) : Type 0 where
  pub history : History cs tol first s.made s.sheet
  pub counted : s.counts.attached ≡ length s.made
  pub queue : Queue s.sheet head s.queued

-- at the end of a run: the history, and as many attached as counted
pub record Grown (cs : Corners) (tol : Tolerances) (first : List ℕ) (s : GrowState) : Type 0 where
  pub history : History cs tol first s.made s.sheet
  pub counted : s.counts.attached ≡ length s.made

pub growing_start : (cs : Corners) (tol : Tolerances) (first : List ℕ) → Growing cs tol first 0 (start_of first)
unfolding start_of
growing_start cs tol first =
    record {
      history = begun;
      counted = refl;
      queue = seeded_waits first 0 (labelled_places first) [] (record { upto = omega arith; waiting = waiting_none first });
    }

module _ {cs : Corners} {tol : Tolerances} {first : List ℕ} (few : cs.count ≤ 1024) (begins : Sound cs.count first) (head : ℕ) (s : GrowState)
    (g : Growing cs tol first head s) (inside : head < length s.queued) where
  -- its place is on the sheet, its cell unlabelled, and so are those after it
  pub turn : Waiting s.sheet (get_or s.queued head 0 ∷ drop (head + 1) s.queued)
  turn = rw add-one (rw (drop-cons s.queued head 0 inside) at g.queue.waiting)

  pub sound_now : Sound cs.count s.sheet
  sound_now = (history_extended few begins g.history).sound

  -- marks were changed, and one more is visited
  growing_marked : (after : GrowState) → after.queued ≡ s.queued → after.made ≡ s.made → after.counts.attached ≡ s.counts.attached
      → length after.sheet ≡ length s.sheet → SameLabels s.sheet after.sheet → Growing cs tol first (head + 1) after
  growing_marked after q m c e same =
      record {
        history = rw m (marked g.history e same);
        counted = rw (m, c) g.counted;
        queue = record { upto = rw q (omega arith); waiting = rw q (waiting_marked turn same) };
      }

  growing_missed : Growing cs tol first (head + 1) (missed (cell_of (get_or s.queued head 0)) s)
  growing_missed =
      let c = cell_of (get_or s.queued head 0) in
      let on = cell_on_lem _ (first_on turn) in
      growing_marked (missed c s) refl refl refl (hole_changes s.sheet c sound_now.long on).same_length (hole_keeps s.sheet c sound_now.long on)

  -- what is found at the cell
  growing_with : (r : TryCellResult) → ((k : ℕ) → r ≡ Ok k → Attaches cs tol s.sheet (get_or s.queued head 0) k)
      → Growing cs tol first (head + 1) (grow_with (cell_of (get_or s.queued head 0)) r s)
  unfolding grow_with
  growing_with (Err NotAttached.NoCandidates) may = growing_missed
  growing_with (Err NotAttached.Ambiguous) may =
      let c = cell_of (get_or s.queued head 0) in
      let on = cell_on_lem _ (first_on turn) in
      growing_marked _ refl refl refl (ambiguous_changes s.sheet c sound_now.long on).same_length (ambiguous_keeps s.sheet c sound_now.long on)
  growing_with (Err NotAttached.EdgeRejected) may =
      let c = cell_of (get_or s.queued head 0) in
      let on = cell_on_lem _ (first_on turn) in
      growing_marked _ refl refl refl (hole_changes s.sheet c sound_now.long on).same_length (hole_keeps s.sheet c sound_now.long on)
  growing_with (Ok k) may =
      let p = get_or s.queued head 0 in
      let a = may k refl in
      record {
        history = rw (place_cell p (first_on turn)) (attaches p k g.history a);
        counted = omega (arith, g.counted, length-append s.made (place_of (cell_of p) ∷ []));
        queue =
            spread_waits (attached s.sheet (cell_of p) k) (head + 1) (cell_of p) s.queued
            (record { upto = omega arith; waiting = waiting_attached turn sound_now few a });
      }

module _ {cs : Corners} {first : List ℕ} (set : Settings) (params : GrowParams) (few : cs.count ≤ 1024) (begins : Sound cs.count first) where
  pub growing_visit : (head : ℕ) (s : GrowState) → Growing cs (tolerances_of set) first head s → head < length s.queued
      → Growing cs (tolerances_of set) first (head + 1) (grow_visit cs set params (cell_of (get_or s.queued head 0)) s)
  unfolding grow_visit grow_at
  growing_visit head s g h = go (prediction_of (seen_of cs.corner s.sheet) set.grid (cell_of (get_or s.queued head 0)))
    where
      go : (at : Option Position) → Growing cs (tolerances_of set) first (head + 1) (grow_at cs set params (cell_of (get_or s.queued head 0)) at s)
      go None = growing_missed few begins head s g h
      go (Some at) = growing_with few begins head s g h _ (λ k e. found_attaches (turn few begins head s g h) cs (tolerances_of set) _ at k e)

  -- at most m cells more
  grown_from : (m head : ℕ) (s : GrowState) → Growing cs (tolerances_of set) first head s → Grown cs (tolerances_of set) first (grow_from cs set params m head s)
  unfolding grow_from
  grown_from zero head s g = record { history = g.history; counted = g.counted }
  grown_from (suc m) head s g =
      go (ltb head (length s.queued)) refl (λ h. grown_from m (head + 1) (grow_visit cs set params (cell_of (get_or s.queued head 0)) s) (growing_visit head s g h))
    where
      go : (t : Bool) → ltb head (length s.queued) ≡ t
          → (head < length s.queued → Grown cs (tolerances_of set) first (grow_from cs set params m (head + 1) (grow_visit cs set params (cell_of (get_or s.queued head 0)) s)))
          → Grown cs (tolerances_of set) first (cond t (grow_from cs set params m (head + 1) (grow_visit cs set params (cell_of (get_or s.queued head 0)) s)) s)
      go true e w = w (ltb-true head (length s.queued) e)
      go false e w = record { history = g.history; counted = g.counted }

  -- the whole run
  pub grow_history : Grown cs (tolerances_of set) first (grow_run cs set params first)
  unfolding grow_run
  grow_history = grown_from (4 * cs.count) 0 (start_of first) (growing_start cs (tolerances_of set) first)
