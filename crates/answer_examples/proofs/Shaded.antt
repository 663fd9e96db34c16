-- The two texts with shades are read, run and printed by the definitions, and meet what demand 3 asks, so it speaks of them. Assumes nothing.
use Rattle.std.specs.Prelude.{Some}
use mathlib.Core.Path.{◌≡◌, refl, subst, sym, ap, ◌∙◌}
use mathlib.Core.Bool.{false}
use mathlib.Core.List.{List, [], ◌∷◌}
use Prim.Native.Nat.{ℕ, ◌<◌}
use native.Mathlib.Omega.{arith}
use lib.ListN.{get_or}
use lib.Ieee.{binary32, of_bits, of_int, to_bits, add, sub, mul, div, neg, lt, le, eq}
use Rattle.binary32.specs.Ranges.{is_finite, all_finite, ends_of}
use Rattle.binary32.specs.Sqrt.{units_of, reaches, climb, rooted}
use Rattle.binary32.specs.Hex.{digit_value, read_digits, digits}
use Rattle.elimination.specs.Tables.{table, concatenated, every}
use Rattle.elimination.specs.Solve.{largest, swapped, gained, cleared, eliminated, right_sides, carried, answered}
use Rattle.homography.specs.Normalize.{mean, distance, scale_of, normalization_of, forward, map_row, moved, normalized}
use Rattle.homography.specs.Equations.{equation, equations}
use Rattle.homography.specs.Undo.{backward, multiplied, undone}
use Rattle.homography.specs.Fit.{quotients, scaled_of, applied}
use Rattle.sheet.specs.Cells.{on_sheet, place_of, cell_of}
use Rattle.sheet.specs.Words.{label_of_number, number_of_label, bit_of, label_of, hole_of, ambiguous_of, word_of}
use Rattle.sheet.specs.Corners.{corner_of, seen_through, squared_distance}
use Rattle.sheet.specs.Pairing.{Shuffle}
use Rattle.sheet.specs.Shades.{shade_of, is_kind, takes_kind, kind_at as kindTaken}
use Rattle.labels.specs.Labelled.{any_below, passing, names_corner, is_labelled}
use Rattle.labels.specs.Box.{lower_of, higher_of, widened}
use Rattle.labels.specs.Used.{names}
use Rattle.labels.specs.Rim.{on_rim, rim_at}
use Rattle.candidates.specs.Candidates.{insert, ordered, candidates_at, first_two, eligible}
use Rattle.candidates.specs.Choice.{choose_unambiguous, choose_with_floor}
use Rattle.passed_over.specs.PassedOver.{is_passed_over, passed_over}
use Rattle.positions_policy.specs.Edge.{length_of, mean_pitch, expected_length, in_band, edge_ok, cardinal_offsets, edge_to, followed_by, tried, verdict_of, passes}
use Rattle.predict.specs.Predict.{neighbour_offsets, put_before, labelled_among, neighbours_of, step_at, step_vector, weighed, with_neighbour, sums_from, no_sums, sums_of, mean_of, prediction_from, prediction_of, on_side, any_on, has_neighbour, extrapolating}
use Rattle.arguments.specs.Shades.{stands, any_shade, shade_at}
use Rattle.arguments.specs.Arguments.{outside}
use Rattle.extension_common.specs.TryCell.{choice_by}
use Rattle.passes.specs.Grow.{member, radius_of, search_of}
use Rattle.passes.specs.Rounds.{walk, one_round, rounds_from}
use Rattle.passes.specs.Fill.{cells_of}
use Rattle.passes.specs.Local.{depth_of, row_among, column_among, local_region, nearer, placed, by_reach, cell_point, pictured_at, residual_of, residuals_of, trusted, worst, recorded, recorded_all, local_search, local_limit, unmatched_if}
use Rattle.passes.specs.Run.{run}
use Rattle.passes.specs.declared.PassStats.{PassStats}
use Rattle.passes.specs.Outcome.{Outcome, done}
use Rattle.agreement.specs.Agreement.{FactorsAbove, no_more, ran}
use Rattle.line_form.specs.Integers.{digits_after, read_positive, read_integer, decimal_up_to, decimal, integer_text}
use Rattle.line_form.specs.Forms.{piece_of, fit_of, number_text, printed}
use Rattle.line_form.specs.Lines.{lines_of}
use Rattle.line_form.specs.Written.{unheld_whole}
use Rattle.frame_line.specs.Table.{kind_at, rows, row_at, form_at, turn_at, may_end, sort_of, sort_at}
use Rattle.frame_line.specs.Lines.{bits_at, whole_at, pass_line_of, first_fit, read_line}
use Rattle.frame_line.specs.Checks.{wild_bits, number_outside, some_outside, outside_line}
use Rattle.frame_check.specs.Checks.{checks_in_order, over_limit, twice_of, may_run, forbidden}
use Rattle.frame.specs.Frame.{opened, adding, parts_from, parts_of, some_of, checked_line, accepted, step_line, at_end, read_lines, read_frame, finish, given_of, join_of}
use Rattle.frame.specs.ReadFrame.{xs_of, ys_of, pitches_of, shaded, shades_of, settings_of, full_of, pass_of, sheet_of}
use Rattle.frame_laws.specs.Calls.{frame_corners, calls_of}
use Rattle.frame_agreement.specs.Reordering.{corner_line, corner_shade, SameShades, SameButOrder}
use Rattle.frame_agreement.proofs.Reordering.{frames_run_alike}
use Rattle.frame_agreement.proofs.Shades.{shades_by_lines}
use Rattle.report_line.specs.Result.{local_line as localSays, unmatched_line, local_lines, grow_line as growSays, pass_line, pass_lines, role_line, line_of_role, role_lines}
use Rattle.role_counts.specs.RoleCounts.{sum_for, counts_under, counts_of}
use Rattle.written_places.specs.Written.{written, word_in, told, any_in, label_in, put_in, put}
use Rattle.written_places.specs.Passes.{AfterIn, gathered_by, edges_in, result_in, try_in, enqueued_in, enqueued_at_in, seeded_from_in, grow_with_in, grow_at_in, grow_visit_in, grow_from_in, grow_run_in, grow_after_in, quick_fit_with, quick_fit_from, quick_fit, local_fit_in, local_with_in, unmatched_by, local_try_in, local_at_in, local_visit_in, local_after_in, after_of}
use Rattle.written_places.specs.Run.{after_pass_in, run_in}
use Rattle.written_places.specs.Text.{text_in}
use Rattle.frame_answer.specs.Answer.{outcomes_of}
use Rattle.result_agreement.specs.Alike.{numbered_anew, numbers}
use Rattle.result_agreement.proofs.Alike.{frames_answer_alike}
use Rattle.answer_examples.specs.Answer.{labelled_in, given_in, frame_run, renumbered_in}
use Rattle.answer_examples.specs.Pair.{local_line}
use Rattle.answer_examples.specs.Claims.{grow_line}
use Rattle.answer_examples.specs.Shaded.{shaded_text, relisted_text, shaded_frame, relisted_frame, numbers_in_relisted, numbers_in_shaded, shaded_result, relisted_result, ShadedMet, ShadedAgreed}
use Rattle.answer_examples.proofs.Answer.{own_run, answer_known, renumbered_known}
use Rattle.answer_examples.proofs.Pairing.{below}
use Rattle.answer_examples.proofs.Ran.{after}
use Rattle.answer_examples.proofs.Pair.{local_above, grow_above}

-- ---- the texts are read

first_read : read_frame shaded_text ≡ accepted shaded_frame
unfolding of_bits of_int le lt eq digit_value read_digits ends_of outside digits_after read_positive read_integer piece_of fit_of lines_of unheld_whole rows row_at kind_at form_at turn_at may_end sort_of sort_at bits_at whole_at pass_line_of first_fit read_line wild_bits number_outside some_outside outside_line checks_in_order over_limit twice_of may_run forbidden opened adding parts_from parts_of some_of checked_line join_of finish step_line at_end read_lines read_frame
first_read = refl

second_read : read_frame relisted_text ≡ accepted relisted_frame
unfolding of_bits of_int le lt eq digit_value read_digits ends_of outside digits_after read_positive read_integer piece_of fit_of lines_of unheld_whole rows row_at kind_at form_at turn_at may_end sort_of sort_at bits_at whole_at pass_line_of first_fit read_line wild_bits number_outside some_outside outside_line checks_in_order over_limit twice_of may_run forbidden opened adding parts_from parts_of some_of checked_line join_of finish step_line at_end read_lines read_frame
second_read = refl

-- ---- the pairing

abbrev pairs : Shuffle 8
pairs =
    record {
      to = λ k. get_or numbers_in_relisted k 0;
      from = λ k. get_or numbers_in_shaded k 0;
      to_in =
          below (λ k. get_or numbers_in_relisted k 0 < 8) 8
          ((((((((tt, omega arith), omega arith), omega arith), omega arith), omega arith), omega arith), omega arith), omega arith);
      from_in =
          below (λ k. get_or numbers_in_shaded k 0 < 8) 8
          ((((((((tt, omega arith), omega arith), omega arith), omega arith), omega arith), omega arith), omega arith), omega arith);
      from_to_holds = below (λ k. get_or numbers_in_shaded (get_or numbers_in_relisted k 0) 0 ≡ k) 8 ((((((((tt, refl), refl), refl), refl), refl), refl), refl), refl);
      to_from = below (λ k. get_or numbers_in_relisted (get_or numbers_in_shaded k 0) 0 ≡ k) 8 ((((((((tt, refl), refl), refl), refl), refl), refl), refl), refl);
    }

same_lines : (k : ℕ) → k < 8 → corner_line relisted_frame (pairs.to k) ≡ corner_line shaded_frame k
unfolding kind_at bits_at whole_at pass_line_of opened adding parts_from parts_of
same_lines =
    below (λ k. corner_line relisted_frame (pairs.to k) ≡ corner_line shaded_frame k) 8 ((((((((tt, refl), refl), refl), refl), refl), refl), refl), refl)

same_shades : SameShades pairs shaded_frame relisted_frame
unfolding shade_of shaded shades_of kind_at bits_at whole_at pass_line_of opened adding parts_from parts_of
same_shades =
    below (λ k. corner_shade relisted_frame (pairs.to k) ≡ corner_shade shaded_frame k) 8 ((((((((tt, refl), refl), refl), refl), refl), refl), refl), refl)

unfoldable same : SameButOrder shaded_frame relisted_frame
unfolding kind_at bits_at whole_at pass_line_of opened adding parts_from parts_of
same = record { opening = refl; count = refl; pairs = pairs; same_line = same_lines; labels = refl; patched = refl; second = refl; shades = same_shades; passes = refl }

-- ---- what each pass leaves, by the places as in `Ran`

abbrev local_left : AfterIn PassStats
local_left =
    record {
      answer =
          PassStats.Local
          (record {
            counts = record { attached = 1; rejected_no_candidate = 11; rejected_ambiguous = 0; rejected_edge = 0 };
            iterations = 1;
            residual = Some (of_bits binary32 0x3680_0000);
            rim = false;
            unmatched = Some 2;
          });
      sheet = written 8256 1 ∷ written 8257 3 ∷ written 8384 2 ∷ written 8385 4 ∷ written 8512 6 ∷ [];
      attached = 8512 ∷ [];
      visited = [];
    }

abbrev grow_left : AfterIn PassStats
grow_left =
    record {
      answer =
          PassStats.Grow (record { counts = record { attached = 1; rejected_no_candidate = 10; rejected_ambiguous = 0; rejected_edge = 0 }; rim = false });
      sheet =
          written 8128 16384
          ∷ written 8129 16384
          ∷ written 8255 16384
          ∷ written 8256 1
          ∷ written 8257 3
          ∷ written 8258 16384
          ∷ written 8383 16384
          ∷ written 8384 2
          ∷ written 8385 4
          ∷ written 8386 8
          ∷ written 8387 16384
          ∷ written 8511 16384
          ∷ written 8512 6
          ∷ written 8513 16384
          ∷ written 8514 16384
          ∷ written 8640 16384
          ∷ [];
      attached = 8386 ∷ [];
      visited = 8128 ∷ 8255 ∷ 8129 ∷ 8258 ∷ 8383 ∷ 8513 ∷ 8386 ∷ 8640 ∷ 8511 ∷ 8514 ∷ 8387 ∷ [];
    }

local_did : after shaded_frame local_line (given_in shaded_frame) ≡ local_left
unfolding of_bits of_int to_bits add sub mul div neg lt le eq is_finite any_below kindTaken is_kind takes_kind shade_of stands any_shade shade_at units_of reaches climb rooted table concatenated every all_finite largest swapped gained cleared eliminated right_sides carried answered mean distance scale_of normalization_of forward map_row moved normalized equation equations backward multiplied undone quotients scaled_of applied on_sheet place_of cell_of label_of_number number_of_label bit_of label_of hole_of ambiguous_of word_of corner_of seen_through passing names_corner is_labelled lower_of higher_of widened names on_rim rim_at eligible squared_distance insert ordered candidates_at first_two choose_with_floor length_of mean_pitch expected_length in_band edge_ok cardinal_offsets edge_to followed_by tried verdict_of passes choice_by cells_of depth_of row_among column_among local_region nearer placed by_reach cell_point pictured_at residual_of residuals_of trusted worst recorded recorded_all local_search local_limit xs_of ys_of pitches_of shaded shades_of settings_of full_of pass_of kind_at bits_at whole_at pass_line_of opened adding parts_from parts_of word_in told any_in label_in put_in put gathered_by edges_in result_in try_in quick_fit_with quick_fit_from quick_fit local_fit_in local_with_in is_passed_over passed_over unmatched_by local_try_in local_at_in local_visit_in walk one_round rounds_from unmatched_if local_after_in after_pass_in labelled_in given_of join_of
local_did = refl

grow_did : after shaded_frame grow_line local_left.sheet ≡ grow_left
unfolding of_bits of_int to_bits add sub mul div neg lt le eq is_finite any_below kindTaken is_kind takes_kind shade_of stands any_shade shade_at units_of reaches climb rooted on_sheet place_of cell_of label_of_number number_of_label bit_of label_of hole_of ambiguous_of word_of corner_of seen_through names_corner is_labelled names on_rim rim_at eligible squared_distance insert ordered candidates_at first_two choose_unambiguous length_of mean_pitch expected_length in_band edge_ok cardinal_offsets edge_to followed_by tried verdict_of passes neighbour_offsets put_before labelled_among neighbours_of step_at step_vector weighed with_neighbour sums_from no_sums sums_of mean_of prediction_from prediction_of on_side any_on has_neighbour extrapolating choice_by member radius_of search_of xs_of ys_of pitches_of shaded shades_of settings_of full_of pass_of kind_at bits_at whole_at pass_line_of opened adding parts_from parts_of word_in told any_in label_in put_in put gathered_by edges_in result_in try_in enqueued_in enqueued_at_in seeded_from_in grow_with_in grow_at_in grow_visit_in grow_from_in grow_run_in grow_after_in after_pass_in
grow_did = refl

grow_next : after shaded_frame grow_line (after shaded_frame local_line (given_in shaded_frame)).sheet ≡ grow_left
grow_next = ap (λ (a : AfterIn PassStats). after shaded_frame grow_line a.sheet) local_did ∙ grow_did

abbrev outcomes : List (Outcome PassStats)
outcomes = done (after_of local_left) ∷ done (after_of grow_left) ∷ []

own_outcomes : (frame_run shaded_frame).outcomes ≡ outcomes
unfolding run_in calls_of full_of kind_at bits_at whole_at pass_line_of opened adding parts_from parts_of
own_outcomes = λ t. done (after_of (local_did t)) ∷ done (after_of (grow_next t)) ∷ []

own_left : (frame_run shaded_frame).left ≡ grow_left.sheet
unfolding run_in calls_of full_of kind_at bits_at whole_at pass_line_of opened adding parts_from parts_of
own_left = ap (λ (a : AfterIn PassStats). a.sheet) grow_next

own_factors : FactorsAbove (calls_of shaded_frame) (run (frame_corners shaded_frame) (sheet_of shaded_frame) (calls_of shaded_frame))
unfolding calls_of full_of kind_at bits_at whole_at pass_line_of opened adding parts_from parts_of
own_factors =
    subst (FactorsAbove (calls_of shaded_frame)) (sym (own_run shaded_text shaded_frame first_read ∙ own_outcomes))
    (ran (local_above shaded_frame) (ran (grow_above shaded_frame) no_more))

-- ---- the claims

pub shaded_met : ShadedMet
unfolding same shade_of shaded shades_of kind_at bits_at whole_at pass_line_of opened adding parts_from parts_of
shaded_met =
    record { first_read = first_read; second_read = second_read; shades = refl; same = same; pairing = λ k h. refl; factors = own_factors }

first_text_lem : text_in (outcomes_of (parts_of shaded_frame).passes outcomes) grow_left.sheet ≡ shaded_result
unfolding text_in told outcomes_of role_line line_of_role role_lines sum_for counts_under counts_of opened adding parts_from parts_of kind_at bits_at whole_at pass_line_of pass_lines pass_line local_lines localSays unmatched_line growSays printed number_text integer_text decimal decimal_up_to digits to_bits of_bits cell_of label_of_number label_of hole_of ambiguous_of
first_text_lem = refl

second_text_lem : renumbered_in (numbers same) (outcomes_of (parts_of shaded_frame).passes outcomes) grow_left.sheet ≡ relisted_result
unfolding same renumbered_in numbered_anew told outcomes_of role_line line_of_role role_lines sum_for counts_under counts_of opened adding parts_from parts_of kind_at bits_at whole_at pass_line_of pass_lines pass_line local_lines localSays unmatched_line growSays printed number_text integer_text decimal decimal_up_to digits to_bits of_bits cell_of label_of_number label_of hole_of ambiguous_of
second_text_lem = refl

pub shaded_agreed : ShadedAgreed shaded_met
unfolding shaded_met
shaded_agreed =
    let results = frames_answer_alike shaded_text relisted_text shaded_frame relisted_frame first_read second_read same own_factors in
    record {
      lines = (shades_by_lines shaded_text relisted_text shaded_frame relisted_frame first_read second_read 8 pairs).lines_have same_shades;
      runs = frames_run_alike shaded_text relisted_text shaded_frame relisted_frame first_read second_read same;
      results = results;
      first_answer = answer_known shaded_text shaded_frame first_read outcomes grow_left.sheet own_outcomes own_left ∙ first_text_lem;
      second_answer =
          results.second_answer ∙ renumbered_known shaded_text shaded_frame first_read outcomes grow_left.sheet own_outcomes own_left (numbers same)
          ∙ second_text_lem;
    }
