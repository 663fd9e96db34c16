-- The two texts meet what demand 3 asks, so it speaks of them: their runs are alike, and the second answer is the first with the corners of its cell lines
-- numbered anew. Assumes nothing.
use Rattle.std.specs.Prelude.{Err}
use mathlib.Core.Path.{◌≡◌, refl, sym, ap, ◌∙◌, subst}
use mathlib.Core.Bool.{Bool, true, false, ◌||◌}
use mathlib.Core.List.{List, [], ◌∷◌, map}
use Prim.Native.Nat.{ℕ}
use native.Mathlib.Omega.{arith}
use lib.Ieee.{of_bits, of_int, to_bits, lt, le}
use Rattle.refusal.specs.declared.Refusal.{Refusal}
use Rattle.binary32.specs.Ranges.{ends_of}
use Rattle.sheet.specs.Cells.{cell_of}
use Rattle.sheet.specs.Words.{label_of_number, label_of, hole_of, ambiguous_of}
use Rattle.sheet.specs.Pairing.{Shuffle}
use Rattle.labels.specs.Box.{box_of}
use Rattle.labels.specs.Kept.{around_of, box_kept}
use Rattle.labels.specs.declared.kept.KeptBox.{KeptBox}
use Rattle.labels.proofs.Box.{box_of_framed}
use Rattle.arguments.specs.Arguments.{Checked, queue_needed, too_short, over_limit, outside, some_corner_outside, settings_outside, local_outside, pass_outside, out_of_range, checked}
use Rattle.arguments.proofs.Laws.{not_short}
use Rattle.passes.specs.Outcome.{Outcome, refused, done}
use Rattle.passes.specs.Step.{lent_of, unless}
use Rattle.passes.specs.Run.{other, Call, step, run}
use Rattle.passes.specs.declared.PassStats.{PassStats}
use Rattle.invariants.specs.Calls.{Standing, checked_call, after_call, CallInside}
use Rattle.invariants.specs.Boxes.{handed_box, OthersFine}
use Rattle.invariants.proofs.Run.{step_as_lem}
use Rattle.invariants.proofs.Boxes.{gets_three}
use Rattle.agreement.specs.Agreement.{RelistedCall, no_call, relisted, AboveOne, FactorsAbove, no_more, was_refused as was-not-run, ran}
use Rattle.frame_line.specs.Table.{kind_at}
use Rattle.frame_line.specs.Lines.{bits_at, whole_at, pass_line_of}
use Rattle.frame.specs.Frame.{Frame, opened, adding, parts_from, parts_of}
use Rattle.join.specs.Rule.{All}
use Rattle.frame.specs.ReadFrame.{xs_of, shaded, shades_of, sheet_of, full_of, pass_of}
use Rattle.binary32.specs.Hex.{digits}
use Rattle.line_form.specs.Integers.{decimal_up_to, decimal, integer_text}
use Rattle.line_form.specs.Forms.{number_text, printed}
use Rattle.report_line.specs.Result.{local_line as localSays, unmatched_line, local_lines, grow_line as growSays, fill_line as fillSays, pass_line, pass_lines, role_line, line_of_role, role_lines}
use Rattle.role_counts.specs.RoleCounts.{sum_for, counts_under, counts_of}
use Rattle.frame_laws.specs.Calls.{frame_corners, frame_rooms, call_of, calls_of}
use Rattle.frame_laws.proofs.Runs.{accepted_runs}
use Rattle.frame_agreement.proofs.Reordering.{frames_run_alike}
use Rattle.written_places.specs.Written.{told}
use Rattle.written_places.specs.Passes.{AfterIn, after_of}
use Rattle.written_places.specs.Run.{Asked, runs, refuses, calls_of as callsAsked, AsAsked, ends, one_runs, one_refused, run_in}
use Rattle.written_places.specs.Text.{text_in}
use Rattle.frame_answer.specs.Answer.{outcomes_of, answer_text}
use Rattle.result_agreement.specs.Alike.{numbered_anew, numbers, ResultsAlike}
use Rattle.result_agreement.proofs.Alike.{frames_answer_alike}
use Rattle.answer_examples.specs.Answer.{given_in, frame_run, renumbered_in}
use Rattle.answer_examples.specs.Pair.{first_text, second_text, local_line, first_frame, second_frame, first_result, second_result}
use Rattle.answer_examples.specs.Claims.{no_box, refused_line, grow_line, fill_line, calls_from, calls, told_of, Met, Agreed}
use Rattle.answer_examples.proofs.Answer.{given_so, frame_went, own_run, answer_known, renumbered_known}
use Rattle.answer_examples.proofs.Pairing.{first_read, second_read, same}
use Rattle.answer_examples.proofs.Ran.{local_left, grow_left, fill_left, after, local_did, grow_did, fill_did}

-- ---- the factors, whatever the frame

pub local_above : (f : Frame) → AboveOne (call_of f local_line)
unfolding of_bits lt full_of pass_of
local_above f = refl

pub grow_above : (f : Frame) → AboveOne (call_of f grow_line)
unfolding of_bits lt full_of pass_of
grow_above f = refl

fill_above : (f : Frame) → AboveOne (call_of f fill_line)
unfolding of_bits lt full_of pass_of
fill_above f = refl

-- ---- which calls run

-- each pass of the frame is one that runs
fits : All (CallInside (frame_corners first_frame)) (calls_of first_frame)
fits = (accepted_runs first_text first_frame first_read).fit

list : List Asked
list =
    runs (call_of first_frame local_line)
    ∷ refuses (call_of first_frame refused_line) Refusal.OutOfRange
    ∷ refuses (handed_box (other no_box) (call_of first_frame grow_line)) Refusal.OutOfRange
    ∷ runs (call_of first_frame grow_line)
    ∷ runs (call_of first_frame fill_line)
    ∷ []

-- the refused call, on any sheet
or_last : (a b : Bool) → (a || (b || true)) ≡ true
or_last true b = refl
or_last false true = refl
or_last false false = refl

module _ (sheet : List ℕ) (s : Standing (frame_corners first_frame) sheet) where
  abbrev c : Call
  c = call_of first_frame refused_line

  long : too_short (lent_of (frame_corners first_frame) (shades_of first_frame) sheet (box_kept sheet) frame_rooms) c.pass ≡ false
  unfolding queue_needed full_of pass_of xs_of shaded shades_of kind_at bits_at whole_at pass_line_of opened adding parts_from parts_of
  long =
      not_short _ _
      (record {
        ys_long = s.listed.ys_long;
        pitches_long = s.listed.pitches_long;
        shades_long = omega arith;
        sheet_long = s.given.long;
        queue_long = omega arith;
        attached_long = omega arith;
      })

  deep : out_of_range (lent_of (frame_corners first_frame) (shades_of first_frame) sheet (box_kept sheet) frame_rooms) c.settings c.pass ≡ true
  unfolding out_of_range pass_outside local_outside outside ends_of of_bits of_int le full_of pass_of
  deep = or_last (some_corner_outside (frame_corners first_frame) (shades_of first_frame)) (settings_outside c.settings)

  wild : checked_call (frame_corners first_frame) sheet c ≡ Err Refusal.OutOfRange
  unfolding checked over_limit xs_of kind_at bits_at whole_at pass_line_of opened adding parts_from parts_of
  wild = rw (long, deep) refl

  refused_so : step (frame_corners first_frame) sheet c ≡ refused Refusal.OutOfRange
  refused_so = step_as_lem (frame_corners first_frame) sheet c ∙ ap (λ (k : Checked). unless k (after_call (frame_corners first_frame) sheet c)) wild

-- the call that is handed the other box, on any sheet: it would run if it were handed the box of the sheet
grow_fits : CallInside (frame_corners first_frame) (call_of first_frame grow_line)
unfolding calls_of full_of kind_at bits_at whole_at pass_line_of opened adding parts_from parts_of
grow_fits = fits.1.0

no_sheet_has : (sheet : List ℕ) → around_of no_box ≡ box_of sheet → ⊥
unfolding around_of
no_sheet_has sheet e = (box_of_framed sheet no_box.bounds (sym e)).low_i_in

module _ (sheet : List ℕ) (s : Standing (frame_corners first_frame) sheet) where
  others_fine : OthersFine (frame_corners first_frame) sheet (handed_box (other no_box) (call_of first_frame grow_line))
  others_fine =
      let g = grow_fits in
      record {
        long =
            record {
              ys_long = s.listed.ys_long;
              pitches_long = s.listed.pitches_long;
              shades_long = g.shades_long;
              sheet_long = s.given.long;
              queue_long = g.queue_long;
              attached_long = g.attached_long;
            };
        few = g.few;
        numbers =
            record { corners_inside = g.corners_inside; shades_inside = g.shades_inside; settings_inside = g.settings_inside; pass_inside = g.pass_inside };
      }

  boxed_refused : step (frame_corners first_frame) sheet (handed_box (other no_box) (call_of first_frame grow_line)) ≡ refused Refusal.OutOfRange
  boxed_refused = (gets_three (frame_corners first_frame) sheet (handed_box (other no_box) (call_of first_frame grow_line)) others_fine).1 (no_sheet_has sheet)

list_goes : AsAsked (frame_corners first_frame) list
unfolding list calls_of full_of kind_at bits_at whole_at pass_line_of opened adding parts_from parts_of
list_goes = one_runs fits.0 (one_refused refused_so (one_refused boxed_refused (one_runs fits.1.0 (one_runs fits.1.1.0 ends))))

-- ---- what they do

-- each pass after the ones before it
grow_next : after first_frame grow_line (after first_frame local_line (given_in first_frame)).sheet ≡ grow_left
grow_next = ap (λ (a : AfterIn PassStats). after first_frame grow_line a.sheet) local_did ∙ grow_did

fill_next : after first_frame fill_line (after first_frame grow_line (after first_frame local_line (given_in first_frame)).sheet).sheet ≡ fill_left
fill_next = ap (λ (a : AfterIn PassStats). after first_frame fill_line a.sheet) grow_next ∙ fill_did

-- the frame's own passes
abbrev outcomes : List (Outcome PassStats)
outcomes = done (after_of local_left) ∷ done (after_of grow_left) ∷ done (after_of fill_left) ∷ []

own_outcomes : (frame_run first_frame).outcomes ≡ outcomes
unfolding run_in calls_of full_of kind_at bits_at whole_at pass_line_of opened adding parts_from parts_of
own_outcomes = λ t. done (after_of (local_did t)) ∷ done (after_of (grow_next t)) ∷ done (after_of (fill_next t)) ∷ []

own_left : (frame_run first_frame).left ≡ fill_left.sheet
unfolding run_in calls_of full_of kind_at bits_at whole_at pass_line_of opened adding parts_from parts_of
own_left = ap (λ (a : AfterIn PassStats). a.sheet) fill_next

-- the list of calls
list_run : run (frame_corners first_frame) (sheet_of first_frame) calls
    ≡ done (after_of local_left) ∷ refused Refusal.OutOfRange ∷ refused Refusal.OutOfRange ∷ done (after_of grow_left) ∷ done (after_of fill_left) ∷ []
unfolding list callsAsked run_in
list_run =
    ap (λ (sheet : List ℕ). run (frame_corners first_frame) sheet calls) (given_so first_frame) ∙ (frame_went first_text first_frame first_read list list_goes).run_so
    ∙ (λ t. done (after_of (local_did t)) ∷ refused Refusal.OutOfRange ∷ refused Refusal.OutOfRange ∷ done (after_of (grow_next t)) ∷ done (after_of (fill_next t)) ∷ [])

own_factors : FactorsAbove (calls_of first_frame) (run (frame_corners first_frame) (sheet_of first_frame) (calls_of first_frame))
unfolding calls_of full_of kind_at bits_at whole_at pass_line_of opened adding parts_from parts_of
own_factors =
    subst (FactorsAbove (calls_of first_frame)) (sym (own_run first_text first_frame first_read ∙ own_outcomes))
    (ran (local_above first_frame) (ran (grow_above first_frame) (ran (fill_above first_frame) no_more)))

list_factors : FactorsAbove calls (run (frame_corners first_frame) (sheet_of first_frame) calls)
list_factors =
    subst (FactorsAbove calls) (sym list_run)
    (ran (local_above first_frame) (was-not-run (was-not-run (ran (grow_above first_frame) (ran (fill_above first_frame) no_more)))))

-- ---- the claims

pub met : Met
unfolding same kind_at bits_at whole_at pass_line_of opened adding parts_from parts_of
met =
    record {
      first_read = first_read;
      second_read = second_read;
      same = same;
      pairing = λ k h. refl;
      equal_lines = refl;
      factors = own_factors;
      outcomes = ap (map told_of) list_run;
      list_factors = list_factors;
    }

-- the answers: of the first text by its run, of the second by demand 3
first_text_lem : text_in (outcomes_of (parts_of first_frame).passes outcomes) fill_left.sheet ≡ first_result
unfolding text_in told outcomes_of role_line line_of_role role_lines sum_for counts_under counts_of opened adding parts_from parts_of kind_at bits_at whole_at pass_line_of pass_lines pass_line local_lines localSays unmatched_line growSays fillSays printed number_text integer_text decimal decimal_up_to digits to_bits of_bits cell_of label_of_number label_of hole_of ambiguous_of
first_text_lem = refl

second_text_lem : renumbered_in (numbers same) (outcomes_of (parts_of first_frame).passes outcomes) fill_left.sheet ≡ second_result
unfolding same renumbered_in numbered_anew told outcomes_of role_line line_of_role role_lines sum_for counts_under counts_of opened adding parts_from parts_of kind_at bits_at whole_at pass_line_of pass_lines pass_line local_lines localSays unmatched_line growSays fillSays printed number_text integer_text decimal decimal_up_to digits to_bits of_bits cell_of label_of_number label_of hole_of ambiguous_of
second_text_lem = refl

first_said : answer_text first_text ≡ first_result
first_said = answer_known first_text first_frame first_read outcomes fill_left.sheet own_outcomes own_left ∙ first_text_lem

second_said : ResultsAlike first_text second_text first_frame second_frame same → answer_text second_text ≡ second_result
second_said results =
    results.second_answer ∙ renumbered_known first_text first_frame first_read outcomes fill_left.sheet own_outcomes own_left (numbers same) ∙ second_text_lem

-- relisted calls that are handed the same other box
boxed_alike : {n : ℕ} {s : Shuffle n} {c c' : Call} {k : KeptBox} → RelistedCall s c c' → RelistedCall s (handed_box (other k) c) (handed_box (other k) c')
boxed_alike r = record { same_pass = r.same_pass; same_settings = r.same_settings; same_rooms = r.same_rooms; same_box = refl; shades = r.shades }

pub agreed : Agreed met
unfolding met
agreed =
    let alike = frames_run_alike first_text second_text first_frame second_frame first_read second_read same in
    let results = frames_answer_alike first_text second_text first_frame second_frame first_read second_read same own_factors in
    record {
      runs = alike;
      list_agrees =
          (alike.any_list calls (calls_from second_frame)
          (relisted (alike.relisted_call local_line)
          (relisted (alike.relisted_call refused_line)
          (relisted (boxed_alike (alike.relisted_call grow_line)) (relisted (alike.relisted_call grow_line) (relisted (alike.relisted_call fill_line) no_call)))))
          ).agree list_factors;
      results = results;
      first_answer = first_said;
      second_answer = second_said results;
    }
