-- The label box over every list of calls: it is answered as a search of the sheet finds it, a list needs to keep no other state than the sheet, and a
-- call gets 3 for its box exactly if the box differs from the sheet, and then leaves the sheet. Assumes nothing.
use Rattle.std.specs.Prelude.{Option, Ok, Err}
use mathlib.Core.Path.{◌≡◌, refl, sym, ap, ◌∙◌}
use mathlib.Core.List.{List, [], ◌∷◌, ◌++◌, foldl, foldl-append}
use Prim.Native.Nat.{ℕ, ◌≤◌}
use Rattle.refusal.specs.declared.Refusal.{Refusal}
use Rattle.sheet.specs.Corners.{Corners, CornerLists}
use Rattle.sheet.specs.Cells.{cell_of}
use Rattle.labels.specs.Box.{widened, box_of}
use Rattle.labels.specs.Kept.{box_kept}
use Rattle.labels.specs.declared.Bounds.{Bounds}
use Rattle.labels.specs.declared.kept.KeptBox.{KeptBox}
use Rattle.labels.proofs.Labelled.{labels_places}
use Rattle.labels.proofs.Box.{same_box, box_attached}
use Rattle.labels.proofs.Keeping.{around_kept, right_kept, kept_fine}
use Rattle.positions_policy.specs.declared.Tolerances.{Tolerances}
use Rattle.arguments.specs.Arguments.{Checked, too_short, over_limit, out_of_range, checked}
use Rattle.arguments.proofs.Meaning.{refused_for_its_box, mark_alone}
use Rattle.passes.specs.History.{History, begun, marked, attaches}
use Rattle.passes.specs.Outcome.{After, Outcome, refused, done}
use Rattle.passes.specs.Step.{unless}
use Rattle.passes.specs.Run.{Handed, as_left, other, Call, step, sheet_after, run, sheet_of}
use Rattle.passes.specs.declared.PassStats.{PassStats}
use Rattle.passes.proofs.Run.{run_then}
use Rattle.invariants.specs.Calls.{checked_call, after_call, lent_call}
use Rattle.invariants.specs.Kept.{Sound}
use Rattle.invariants.specs.Boxes.{handed_box, BoxesFollow, BoxesKept, beside_after, handed_beside, run_beside, NoOtherState, GetsThree, GoesOn, AsLeftPasses, RightAlike, MarkAlone}
use Rattle.invariants.proofs.Extended.{attaching}
use Rattle.invariants.proofs.History.{history_extended}
use Rattle.invariants.proofs.Run.{step_as_lem, left_right, standing_sound, Outcomes, was_refused, ran, outcomes}

-- ---- what attaching does

module _ {cs : Corners} {tol : Tolerances} {first : List ℕ} (few : cs.count ≤ 1024) (s : Sound cs.count first) where
  -- the box of a later sheet is the first one, widened by each new cell
  pub history_box : {made last : List ℕ} → History cs tol first made last → box_of last ≡ foldl (λ box p. widened box (cell_of p)) (box_of first) made
  history_box begun = refl
  history_box (marked h e same) = same_box _ _ (labels_places same) ∙ history_box h
  history_box (attaches {made} {last} p k h a) =
      box_attached (attaching (history_extended few s h).sound few a)
      ∙ ap (λ (b : Option Bounds). widened b (cell_of p)) (history_box h)
      ∙ sym (foldl-append _ (box_of first) made (p ∷ []))

pub boxes_kept : BoxesKept
unfolding run
boxes_kept l sheet [] = tt
boxes_kept l sheet (c ∷ cs) = go (step l sheet c) (outcomes l sheet c) (λ after. boxes_kept l after cs)
  where
    go : (o : Outcome PassStats) → Outcomes l sheet c o → ((after : List ℕ) → BoxesFollow after (run l after cs)) → BoxesFollow sheet (o ∷ run l (sheet_after sheet o) cs)
    go o (was_refused r) w = w sheet
    go o (ran a b d) w = (
      record {
        found = around_kept (box_of a.sheet);
        widened_by_each = history_box b.few (standing_sound {l = l} (record { listed = b.listed; given = b.given; one_cell = b.one_cell })) d.history;
      },
      w a.sheet,
    )

-- ---- the box beside the sheet

-- a call that is handed it does what a call does that is handed the box as it was left
beside_step : (l : CornerLists) (sheet : List ℕ) (c : Call) → step l sheet (handed_box (other (handed_beside (box_kept sheet) c.around)) c) ≡ step l sheet c
unfolding step
beside_step l sheet c = go c.around refl
  where
    go : (h : Handed) → c.around ≡ h → step l sheet (handed_box (other (handed_beside (box_kept sheet) h)) c) ≡ step l sheet (handed_box h c)
    go as_left e = refl
    go (other k) e = refl

-- and leaves the box of the sheet that it leaves
beside_left : (sheet : List ℕ) (o : Outcome PassStats) → beside_after (box_kept sheet) o ≡ box_kept (sheet_after sheet o)
beside_left sheet (refused r) = refl
beside_left sheet (done a) = refl

pub no_other_state : NoOtherState
unfolding run run_beside
no_other_state l sheet [] = refl
no_other_state l sheet (c ∷ cs) =
    let o = step l sheet c in
    ap (λ (o : Outcome PassStats). o ∷ run_beside l (sheet_after sheet o) (beside_after (box_kept sheet) o) cs) (beside_step l sheet c)
    ∙ ap (λ (k : KeptBox). o ∷ run_beside l (sheet_after sheet o) k cs) (beside_left sheet o)
    ∙ ap (λ (os : List (Outcome PassStats)). o ∷ os) (no_other_state l (sheet_after sheet o) cs)

-- ---- 3

-- a call is refused as its arguments are
refused_as : {A : Type 0} (k : Checked) (a : After A) (r : Refusal) → unless k a ≡ refused r → k ≡ Err r
refused_as (Ok tt) a r e = absurd (no_refusal a r e)
  where
    no_refusal : {A : Type 0} (a : After A) (r : Refusal) → done a ≡ refused r → ⊥
    no_refusal a r e = cc
refused_as (Err q) a r e = let f : q ≡ r = cc in ap Err f

pub gets_three : GetsThree
gets_three l sheet c w =
    let box = refused_for_its_box (lent_call l sheet c) c.settings c.pass w.long w.few w.numbers in (
      λ e. box.0 (refused_as (checked_call l sheet c) (after_call l sheet c) Refusal.OutOfRange (sym (step_as_lem l sheet c) ∙ e)),
      λ differs. step_as_lem l sheet c ∙ ap (λ (k : Checked). unless k (after_call l sheet c)) (box.1 differs),
    )

pub goes_on : GoesOn
unfolding run
goes_on l sheet cs c ds w differs =
    run_then l sheet cs (c ∷ ds)
    ∙ ap (λ (o : Outcome PassStats). run l sheet cs ++ (o ∷ run l (sheet_after (sheet_of l sheet cs) o) ds)) ((gets_three l (sheet_of l sheet cs) c w).1 differs)

pub as_left_passes : AsLeftPasses
as_left_passes l sheet c w e three = (gets_three l sheet c w).0 three (left_right l sheet c e)

-- calls that differ in the box alone, and are checked alike
checked_so : (l : CornerLists) (sheet : List ℕ) (c : Call) (g h : Handed) → checked_call l sheet (handed_box g c) ≡ checked_call l sheet (handed_box h c)
    → step l sheet (handed_box g c) ≡ step l sheet (handed_box h c)
checked_so l sheet c g h e =
    step_as_lem l sheet (handed_box g c)
    ∙ ap (λ (k : Checked). unless k (after_call l sheet c)) e
    ∙ sym (step_as_lem l sheet (handed_box h c))

pub right_alike : RightAlike
unfolding checked too_short over_limit out_of_range
right_alike l sheet c k e = checked_so l sheet c (other k) as_left (rw (right_kept k sheet e, kept_fine sheet) refl)

pub mark_alone_lem : MarkAlone
mark_alone_lem l sheet c a b e f = checked_so l sheet c (other a) (other b) (mark_alone (lent_call l sheet c) c.settings c.pass a b e f)
