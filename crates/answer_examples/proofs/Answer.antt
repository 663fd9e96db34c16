-- The answer to an accepted text is that of the written places of its sheet. Assumes nothing.
use mathlib.Core.Path.{◌≡◌, refl, sym, ap, ap₂, ◌∙◌, subst}
use mathlib.Core.List.{List, [], ◌∷◌, ◌++◌, map}
use Prim.Native.Nat.{ℕ}
use Rattle.sheet.specs.Corners.{CornerLists}
use Rattle.sheet.specs.Words.{label_of, label_of_number}
use Rattle.passes.specs.Outcome.{Outcome}
use Rattle.passes.specs.Run.{Call, run, sheet_of as sheetAfterAll}
use Rattle.passes.specs.declared.PassStats.{PassStats}
use Rattle.role_counts.specs.RoleCounts.{RoledStats}
use Rattle.invariants.specs.Calls.{Standing, CallInside}
use Rattle.frame.specs.Frame.{Frame, parts_of, given_of, read_frame, accepted}
use Rattle.join.specs.Rule.{Placed, All}
use Rattle.join.specs.Sheets.{labelled}
use Rattle.frame.specs.ReadFrame.{sheet_of}
use Rattle.frame_laws.specs.Calls.{frame_corners, calls_of}
use Rattle.frame_laws.proofs.Runs.{accepted_runs}
use Rattle.report_line.specs.Result.{pass_lines, role_lines, heading, result_text}
use Rattle.frame_answer.specs.Answer.{outcomes_of, frame_outcomes, frame_sheet, answer_of, answer_text}
use Rattle.written_places.specs.Written.{Written, Rise, no_more, sheet_with, attached_in}
use Rattle.written_places.specs.Run.{Asked, runs, calls_of as callsAsked, AsAsked, ends, one_runs}
use Rattle.written_places.specs.Text.{text_in}
use Rattle.written_places.proofs.Written.{rise_put, attached_so, all_told}
use Rattle.written_places.proofs.Run.{Went, went}
use Rattle.written_places.proofs.Text.{holes_so, ambiguous_so, text_so}
use Rattle.result_agreement.specs.Alike.{numbered_anew, cell_line_anew, renumbered_text}
use Rattle.answer_examples.specs.Answer.{labelled_in, given_in, asked, frame_run, run_text, cell_says_anew, renumbered_in}

-- ---- the given labels

labelled_so : (ls : List Placed) (w : List Written) → labelled (sheet_with w) ls ≡ sheet_with (labelled_in w ls)
unfolding labelled labelled_in
labelled_so [] w = refl
labelled_so (l ∷ ls) w =
    ap (λ (sheet : List ℕ). labelled sheet ls) (attached_so w l.cell l.corner) ∙ labelled_so ls (attached_in w l.cell l.corner)

labelled_rises : (ls : List Placed) (w : List Written) → Rise 0 w → Rise 0 (labelled_in w ls)
unfolding labelled_in
labelled_rises [] w h = h
labelled_rises (l ∷ ls) w h = labelled_rises ls (attached_in w l.cell l.corner) (rise_put w _ _ h)

pub given_so : (f : Frame) → sheet_of f ≡ sheet_with (given_in f)
unfolding sheet_of sheet_with
given_so f = labelled_so (given_of (parts_of f)) []

pub given_rises : (f : Frame) → Rise 0 (given_in f)
given_rises f = labelled_rises (given_of (parts_of f)) [] no_more

-- ---- the passes

all_run : (l : CornerLists) (cs : List Call) → All (CallInside l) cs → AsAsked l (map runs cs)
all_run l [] h = ends
all_run l (c ∷ cs) h = one_runs h.0 (all_run l cs h.1)

calls_back : (cs : List Call) → callsAsked (map runs cs) ≡ cs
unfolding callsAsked
calls_back [] = refl
calls_back (c ∷ cs) = λ t. c ∷ calls_back cs t

-- ---- a result with other corner numbers

renumbered_so : (to : ℕ → ℕ) (outcomes : List RoledStats) (w : List Written) → Rise 0 w → renumbered_text to outcomes (sheet_with w) ≡ renumbered_in to outcomes w
unfolding renumbered_text renumbered_in cell_line_anew numbered_anew label_of label_of_number
renumbered_so to outcomes w h =
    let cells = all_told (cell_says_anew to) (λ p. refl) w h in
    λ t. heading ++ (pass_lines outcomes ++ (role_lines outcomes ++ (cells t ++ (holes_so w h t ++ ambiguous_so w h t))))

-- ---- an accepted text

module _ (text : List ℕ) (f : Frame) (e : read_frame text ≡ accepted f) where
  -- a list of calls from the frame's corners and given labels
  pub frame_went : (qs : List Asked) → AsAsked (frame_corners f) qs → Went (frame_corners f) (given_in f) qs
  frame_went qs g = went (frame_corners f) qs (given_in f) (given_rises f) (subst (Standing (frame_corners f)) (given_so f) (accepted_runs text f e).standing) g

  own : Went (frame_corners f) (given_in f) (asked f)
  own = frame_went (asked f) (all_run (frame_corners f) (calls_of f) (accepted_runs text f e).fit)

  pub own_run : run (frame_corners f) (sheet_of f) (calls_of f) ≡ (frame_run f).outcomes
  own_run = ap₂ (λ (sheet : List ℕ) (cs : List Call). run (frame_corners f) sheet cs) (given_so f) (sym (calls_back (calls_of f))) ∙ own.run_so

  own_outcomes : frame_outcomes f ≡ outcomes_of (parts_of f).passes (frame_run f).outcomes
  unfolding frame_outcomes
  own_outcomes = ap (outcomes_of (parts_of f).passes) own_run

  own_sheet : frame_sheet f ≡ sheet_with (frame_run f).left
  unfolding frame_sheet
  own_sheet = ap₂ (λ (sheet : List ℕ) (cs : List Call). sheetAfterAll (frame_corners f) sheet cs) (given_so f) (sym (calls_back (calls_of f))) ∙ own.left_so

  own_rises : Rise 0 (frame_run f).left
  own_rises = own.left_rises

  pub answer_so : answer_text text ≡ run_text f (frame_run f)
  unfolding answer_text answer_of run_text
  answer_so =
      ap answer_of e ∙ ap₂ result_text own_outcomes own_sheet ∙ text_so (frame_run f).left own_rises (outcomes_of (parts_of f).passes (frame_run f).outcomes)

  -- where it is known what the run says and leaves
  module _ (os : List (Outcome PassStats)) (w : List Written) (says : (frame_run f).outcomes ≡ os) (leaves : (frame_run f).left ≡ w) where
    pub answer_known : answer_text text ≡ text_in (outcomes_of (parts_of f).passes os) w
    unfolding run_text
    answer_known = answer_so ∙ ap₂ (λ (ps : List (Outcome PassStats)) (v : List Written). text_in (outcomes_of (parts_of f).passes ps) v) says leaves

    pub renumbered_known : (to : ℕ → ℕ) → renumbered_text to (frame_outcomes f) (frame_sheet f) ≡ renumbered_in to (outcomes_of (parts_of f).passes os) w
    renumbered_known to =
        ap₂ (renumbered_text to) (own_outcomes ∙ ap (outcomes_of (parts_of f).passes) says) (own_sheet ∙ ap sheet_with leaves)
        ∙ renumbered_so to (outcomes_of (parts_of f).passes os) w (subst (Rise 0) leaves own_rises)
