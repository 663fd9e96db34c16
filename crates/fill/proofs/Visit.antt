-- One cell of fill: what is found at it, what a visit does to the state, and what the code has written when it has attached a corner. Assumes nothing.
use mathlib.Core.Path.{◌≡◌, refl, sym, ap, ap₂, subst, ◌∙◌}
use mathlib.Core.Bool.{true}
use mathlib.Core.List.{List, [], ◌∷◌, ◌++◌}
use Prim.Native.Nat.{ℕ, ◌+◌, ◌<◌, ◌≤◌}
use native.Mathlib.Omega.{arith}
use lib.ListN.{length, set, take, length-append}
use lib.Seq.{length-take-le}
use Rattle.std.specs.Prelude.{Ok, Err}
use Rattle.std.proofs.Common.{Bor, Option, Some, None}
use Rattle.sheet.specs.Cells.{OnSheet, place_of}
use Rattle.sheet.specs.Words.{label_at, attached}
use Rattle.sheet.specs.Corners.{Corners, Given, seen_of, corners_in}
use Rattle.sheet.specs.declared.Cell.{Cell}
use Rattle.sheet.specs.declared.held.CornerArrays.{CornerArrays}
use Rattle.sheet.specs.declared.Position.{Position}
use Rattle.sheet.proofs.Corners.{given_attached}
use Rattle.labels.specs.declared.Bounds.{Bounds}
use Rattle.labels.specs.Labelled.{Attaching, label_count}
use Rattle.labels.specs.Box.{widened, box_of}
use Rattle.labels.specs.Used.{Tied, OneCell}
use Rattle.labels.proofs.Box.{box_attached}
use Rattle.labels.proofs.Labelled.{count_attached}
use Rattle.labels.proofs.Used.{tied_attached, one_attached}
use Rattle.predict.specs.Predict.{prediction_of}
use Rattle.positions_policy.specs.declared.Tolerances.{Tolerances}
use Rattle.arguments.specs.declared.Settings.{Settings}
use Rattle.arguments.specs.declared.FillParams.{FillParams}
use Rattle.extension_common.specs.TryCell.{TryCellResult, tried_from}
use Rattle.extension_common.specs.declared.Search.{Search}
use Rattle.extension_common.proofs.Laws.{Attachable, attachable}
use Rattle.passes.specs.Grow.{tolerances_of}
use Rattle.passes.specs.Fill.{FillState, fill_search, fill_with, fill_at, fill_visit}
use Rattle.passes.proofs.Over.{over_own, over_more}
use Rattle.passes.proofs.Free.{labels_few, labels_fewer}
use Rattle.fill.specs.Filling.{held, state_of, found_from, found_at, SamePass, Left, Trying, Taking, Wrote}
use Rattle.fill.specs.declared.Filling.{Filling}

-- ---- what is found at a cell

-- a visit is what was found, written
pub visit_as : (cs : Corners) (set : Settings) (p : FillParams) (c : Cell) (s : FillState) → fill_with c (found_at cs set p s.sheet c) s ≡ fill_visit cs set p c s
unfolding fill_visit fill_at fill_with found_at found_from
visit_as cs set p c s = go (prediction_of (seen_of cs.corner s.sheet) set.grid c)
  where
    go : (at : Option Position) → fill_with c (found_from cs set p s.sheet c at) s ≡ fill_at cs set p c at s
    go None = refl
    go (Some at) = refl

-- by the prediction
module _ (cs : Corners) (set : Settings) (p : FillParams) (sheet : List ℕ) (c : Cell) where
  pub found_tried : {search : Search} {tol : Tolerances} → search ≡ fill_search set p → tol ≡ tolerances_of set
      → {r : TryCellResult} → r ≡ tried_from cs sheet tol search c (prediction_of (seen_of cs.corner sheet) set.grid c) → r ≡ found_at cs set p sheet c
  unfolding found_at found_from tried_from
  found_tried s t h = h ∙ rw (s, t) (go (prediction_of (seen_of cs.corner sheet) set.grid c))
    where
      go : (at : Option Position) → tried_from cs sheet (tolerances_of set) (fill_search set p) c at ≡ found_from cs set p sheet c at
      go None = refl
      go (Some at) = refl

-- a corner that is found may be attached
pub found_attachable : (cs : Corners) (set : Settings) (p : FillParams) (sheet : List ℕ) (c : Cell) (k : ℕ) → found_at cs set p sheet c ≡ Ok k → Attachable cs sheet (tolerances_of set) c k
unfolding found_at found_from
found_attachable cs set p sheet c k e = go (prediction_of (seen_of cs.corner sheet) set.grid c) e
  where
    go : (at : Option Position) → found_from cs set p sheet c at ≡ Ok k → Attachable cs sheet (tolerances_of set) c k
    go None e = absurd (let z : ◌≡◌ {A = ℕ} 0 1 = cc in omega arith)
    go (Some at) e = attachable cs sheet (tolerances_of set) (fill_search set p) c at k e

-- ---- what a visit does: nothing, or it attaches a corner that may be attached

pub data Tried (cs : Corners) (tol : Tolerances) (c : Cell) (s : FillState) : FillState → Type 0 where
  passed : Tried cs tol c s s
  attaches : (k : ℕ) → Attachable cs s.sheet tol c k → Tried cs tol c s (record { sheet = attached s.sheet c k; made = s.made ++ (place_of c ∷ []) })

pub tried : (cs : Corners) (set : Settings) (p : FillParams) (c : Cell) (s : FillState) → Tried cs (tolerances_of set) c s (fill_visit cs set p c s)
unfolding fill_visit fill_at fill_with
tried cs set p c s = go (prediction_of (seen_of cs.corner s.sheet) set.grid c)
  where
    by : (r : TryCellResult) → ((k : ℕ) → r ≡ Ok k → Attachable cs s.sheet (tolerances_of set) c k) → Tried cs (tolerances_of set) c s (fill_with c r s)
    by (Err e) h = passed
    by (Ok k) h = attaches k (h k refl)

    go : (q : Option Position) → Tried cs (tolerances_of set) c s (fill_at cs set p c q s)
    go None = passed
    go (Some at) = by _ (λ k. attachable cs s.sheet (tolerances_of set) (fill_search set p) c at k)

-- ---- the state after it

pub tried_grows : {cs : Corners} {tol : Tolerances} {c : Cell} {s after : FillState} → Tried cs tol c s after → length s.made ≤ length after.made
tried_grows passed = omega arith
tried_grows {c = c} {s = s} (attaches k a) = omega (arith, length-append s.made (place_of c ∷ []))

-- a corner to be attached, as the laws of labels have it
pub attaching : {cs : Corners} {sheet : List ℕ} {tol : Tolerances} {c : Cell} {k : ℕ} → cs.count ≤ 1024 → 16384 ≤ length sheet → OnSheet c
    → label_at sheet c ≡ None → Attachable cs sheet tol c k → Attaching sheet c k
attaching few long on bare a = record { long = long; on = on; bare = bare; corner_fits = omega (arith, a.given) }

-- ---- what the code leaves

pub same_own : (f : Filling) → SamePass f f
same_own f = record { same_corners = refl; same_setup = refl; same_sheet = refl; same_list = refl }

pub same_then : {first between last : Filling} → SamePass first between → SamePass between last → SamePass first last
same_then a b =
    record {
      same_corners = b.same_corners ∙ a.same_corners;
      same_setup = b.same_setup ∙ a.same_setup;
      same_sheet = b.same_sheet ∙ a.same_sheet;
      same_list = b.same_list ∙ a.same_list;
    }

pub held_alike : {f g : Filling} → SamePass f g → held g ≡ held f
held_alike s = ap (λ (k : Bor CornerArrays). corners_in k.now) s.same_corners

-- no more cells are new than there are corners
module _ (f : Filling) where
  pub made_few : f.made ≤ f.corners.now.count.number
  made_few = omega (arith, f.room, labels_few f.given f.one_cell)

  pub made_in : f.made ≤ length f.attached.now
  made_in = omega (arith, made_few, f.list_long)

  pub made_length : length (take f.made f.attached.now) ≡ f.made
  made_length = length-take-le f.made f.attached.now made_in

  -- nothing written
  pub untouched : {s : FillState} → s ≡ state_of f → Left f f s
  untouched e = rw e (record { same = same_own f; sheet_is = refl; list_is = sym (over_own f.attached.now f.made made_in); made_is = sym made_length })

module _ {f : Filling} {c : Cell} {k : ℕ} (t : Taking f c k) where
  pub taking_fits : k < 1024
  taking_fits = omega (arith, t.there, f.corners.now.count.few)

  taking_attaching : Attaching f.sheet.now c k
  taking_attaching = record { long = f.given.long; on = t.trying.on; bare = t.trying.bare; corner_fits = omega (arith, taking_fits) }

  -- there is a place left in the list
  pub taking_room : f.made < length f.attached.now
  taking_room = omega (arith, f.room, f.list_long, labels_fewer f.given f.one_cell taking_attaching t.there t.free)

  pub given_more : Given f.corners.now.count.number (attached f.sheet.now c k)
  given_more = given_attached f.given c t.trying.on k t.there (omega (arith, taking_fits))

  pub one_more : OneCell (attached f.sheet.now c k)
  one_more = one_attached taking_attaching t.free f.one_cell

  pub box_more : widened f.around c ≡ box_of (attached f.sheet.now c k)
  box_more = ap (λ (b : Option Bounds). widened b c) f.around_is ∙ sym (box_attached taking_attaching)

  pub tied_more : Tied (attached f.sheet.now c k) (set f.used k true)
  tied_more = tied_attached taking_attaching taking_fits f.tied

  pub room_more : f.made + 1 ≤ label_count (attached f.sheet.now c k)
  room_more = omega (arith, f.room, count_attached taking_attaching)

  -- a corner attached
  pub took : {after : Filling} → Wrote f after c k → Left f after (fill_with c (Ok k) (state_of f))
  unfolding fill_with
  took w =
      record {
        same = w.same;
        sheet_is = w.sheet_is;
        list_is =
            w.list_is
            ∙ ap₂ (λ (l : List ℕ) (m : ℕ). set l m (place_of c)) (sym (over_own f.attached.now f.made (made_in f))) (sym (made_length f))
            ∙ over_more (take f.made f.attached.now) f.attached.now (place_of c) (omega (arith, made_length f, taking_room));
        made_is = omega (arith, w.made_is, made_length f, length-append (take f.made f.attached.now) (place_of c ∷ []));
      }

-- ---- by what was found

pub nothing_found : (r : TryCellResult) (c : Cell) (s : FillState) → ((k : ℕ) → r ≡ Ok k → ⊥) → fill_with c r s ≡ s
unfolding fill_with
nothing_found (Err e) c s h = refl
nothing_found (Ok k) c s h = absurd (h k refl)

module _ (f : Filling) (c : Cell) {r : TryCellResult} (is : r ≡ found_at (held f) f.setup.settings f.setup.params f.sheet.now c) where
  visited : fill_with c r (state_of f) ≡ fill_visit (held f) f.setup.settings f.setup.params c (state_of f)
  visited = ap (λ (x : TryCellResult). fill_with c x (state_of f)) is ∙ visit_as (held f) f.setup.settings f.setup.params c (state_of f)

  pub tried_none : ((k : ℕ) → r ≡ Ok k → ⊥) → Left f f (fill_visit (held f) f.setup.settings f.setup.params c (state_of f))
  tried_none h = untouched f (sym visited ∙ nothing_found r c (state_of f) h)

  module _ (t : Trying f c) {k : ℕ} (e : r ≡ Ok k) where
    pub tried_taking : Taking f c k
    tried_taking = let a = found_attachable (held f) f.setup.settings f.setup.params f.sheet.now c k (sym is ∙ e) in record { trying = t; there = a.given; free = a.free }

    pub tried_corner : {after : Filling} → Wrote f after c k → Left f after (fill_visit (held f) f.setup.settings f.setup.params c (state_of f))
    tried_corner {after} w = subst (λ (s : FillState). Left f after s) (ap (λ (x : TryCellResult). fill_with c x (state_of f)) (sym e) ∙ visited) (took tried_taking w)
