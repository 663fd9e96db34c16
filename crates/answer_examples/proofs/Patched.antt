-- The two texts with two patches are read, run and printed by the definitions, and meet what demand 3 asks, so it speaks of them. Assumes nothing.
use mathlib.Core.Path.{◌≡◌, refl, subst, sym, ap, ◌∙◌}
use mathlib.Core.Bool.{false}
use mathlib.Core.List.{List, [], ◌∷◌}
use Prim.Native.Nat.{ℕ, ◌<◌}
use native.Mathlib.Omega.{arith}
use lib.ListN.{get_or}
use lib.Ieee.{of_bits, of_int, to_bits, add, sub, mul, div, neg, lt, le, eq}
use Rattle.binary32.specs.Ranges.{is_finite, ends_of}
use Rattle.binary32.specs.Sqrt.{units_of, reaches, climb, rooted}
use Rattle.binary32.specs.Hex.{digit_value, read_digits, digits}
use Rattle.sheet.specs.Cells.{on_sheet, place_of, cell_of}
use Rattle.sheet.specs.Words.{label_of_number, number_of_label, bit_of, label_of, hole_of, ambiguous_of, word_of}
use Rattle.sheet.specs.Corners.{corner_of, seen_through, squared_distance}
use Rattle.sheet.specs.Pairing.{Shuffle}
use Rattle.sheet.specs.Shades.{shade_of, is_kind, takes_kind, kind_at as kindTaken}
use Rattle.labels.specs.Labelled.{any_below, names_corner, is_labelled}
use Rattle.labels.specs.Used.{names}
use Rattle.labels.specs.Rim.{on_rim, rim_at}
use Rattle.candidates.specs.Candidates.{insert, ordered, candidates_at, first_two, eligible}
use Rattle.candidates.specs.Choice.{choose_unambiguous}
use Rattle.positions_policy.specs.Edge.{length_of, mean_pitch, expected_length, in_band, edge_ok, cardinal_offsets, edge_to, followed_by, tried, verdict_of, passes}
use Rattle.predict.specs.Predict.{neighbour_offsets, put_before, labelled_among, neighbours_of, step_at, step_vector, weighed, with_neighbour, sums_from, no_sums, sums_of, mean_of, prediction_from, prediction_of, on_side, any_on, has_neighbour, extrapolating}
use Rattle.arguments.specs.Shades.{stands, any_shade, shade_at}
use Rattle.arguments.specs.Arguments.{outside}
use Rattle.extension_common.specs.TryCell.{choice_by}
use Rattle.passes.specs.Grow.{member, radius_of, search_of}
use Rattle.passes.specs.Run.{run}
use Rattle.passes.specs.declared.PassStats.{PassStats}
use Rattle.passes.specs.Outcome.{Outcome, done}
use Rattle.agreement.specs.Agreement.{FactorsAbove, no_more, ran}
use Rattle.line_form.specs.Integers.{digits_after, read_positive, read_integer, decimal_up_to, decimal, integer_text}
use Rattle.line_form.specs.Forms.{piece_of, fit_of, number_text, printed}
use Rattle.line_form.specs.Lines.{lines_of}
use Rattle.line_form.specs.Written.{unheld_whole}
use Rattle.frame_line.specs.Table.{kind_at, rows, row_at, form_at, turn_at, may_end, sort_of, sort_at}
use Rattle.frame_line.specs.Lines.{bits_at, whole_at, pass_line_of, first_fit, read_line}
use Rattle.frame_line.specs.Checks.{wild_bits, number_outside, some_outside, outside_line}
use Rattle.frame_check.specs.Checks.{checks_in_order, over_limit, twice_of, may_run, forbidden}
use Rattle.frame.specs.Frame.{opened, adding, parts_from, parts_of, some_of, checked_line, accepted, step_line, at_end, read_lines, read_frame, finish, given_of, join_of}
use Rattle.frame.specs.ReadFrame.{xs_of, ys_of, pitches_of, shaded, shades_of, settings_of, full_of, pass_of, sheet_of}
use Rattle.frame_laws.specs.Calls.{frame_corners, calls_of}
use Rattle.frame_agreement.specs.Reordering.{corner_line, corner_shade, SameShades, SameButOrder}
use Rattle.frame_agreement.proofs.Reordering.{frames_run_alike}
use Rattle.report_line.specs.Result.{grow_line as growSays, pass_line, pass_lines, role_line, line_of_role, role_lines}
use Rattle.role_counts.specs.RoleCounts.{sum_for, counts_under, counts_of}
use Rattle.written_places.specs.Written.{Written, written, word_in, told, any_in, label_in, put_in, put}
use Rattle.written_places.specs.Passes.{AfterIn, gathered_by, edges_in, result_in, try_in, enqueued_in, enqueued_at_in, seeded_from_in, grow_with_in, grow_at_in, grow_visit_in, grow_from_in, grow_run_in, grow_after_in, after_of}
use Rattle.written_places.specs.Run.{after_pass_in, run_in}
use Rattle.written_places.specs.Text.{text_in}
use Rattle.frame_answer.specs.Answer.{outcomes_of}
use Rattle.result_agreement.specs.Alike.{numbered_anew, numbers}
use Rattle.result_agreement.proofs.Alike.{frames_answer_alike}
use Rattle.answer_examples.specs.Answer.{labelled_in, given_in, frame_run, renumbered_in}
use Rattle.answer_examples.specs.Claims.{grow_line}
use Rattle.answer_examples.proofs.Answer.{own_run, answer_known, renumbered_known}
use Rattle.answer_examples.proofs.Pairing.{below}
use Rattle.answer_examples.proofs.Ran.{after}
use Rattle.answer_examples.proofs.Pair.{grow_above}
use Rattle.join.specs.Join.{every, kept, cell_in, asks, asked, agree, agrees_in, tested, told as toldJoin, verdict, is_found, new_by, union, joined_by, joined}
use Rattle.answer_examples.specs.Patched.{patched_text, turned_text, patched_frame, turned_frame, turned, united, patched_result, turned_result, PatchedMet, PatchedAgreed}

-- ---- the texts are read

first_read : read_frame patched_text ≡ accepted patched_frame
unfolding of_bits of_int le lt eq digit_value read_digits ends_of outside digits_after read_positive read_integer piece_of fit_of lines_of unheld_whole rows row_at kind_at form_at turn_at may_end sort_of sort_at bits_at whole_at pass_line_of first_fit read_line wild_bits number_outside some_outside outside_line checks_in_order over_limit twice_of may_run forbidden opened adding parts_from parts_of some_of checked_line every kept cell_in asks asked agree agrees_in on_sheet tested toldJoin verdict is_found new_by union joined_by joined join_of finish step_line at_end read_lines read_frame
first_read = refl

second_read : read_frame turned_text ≡ accepted turned_frame
unfolding of_bits of_int le lt eq digit_value read_digits ends_of outside digits_after read_positive read_integer piece_of fit_of lines_of unheld_whole rows row_at kind_at form_at turn_at may_end sort_of sort_at bits_at whole_at pass_line_of first_fit read_line wild_bits number_outside some_outside outside_line checks_in_order over_limit twice_of may_run forbidden opened adding parts_from parts_of some_of checked_line every kept cell_in asks asked agree agrees_in on_sheet tested toldJoin verdict is_found new_by union joined_by joined join_of finish step_line at_end read_lines read_frame
second_read = refl

-- ---- the union

given_is : given_of (parts_of patched_frame) ≡ united
unfolding every kept cell_in asks asked agree agrees_in on_sheet tested toldJoin verdict is_found new_by union joined_by joined kind_at bits_at whole_at pass_line_of opened adding parts_from parts_of given_of join_of
given_is = refl

-- ---- the pairing

abbrev pairs : Shuffle 4
pairs =
    record {
      to = λ k. get_or turned k 0;
      from = λ k. get_or turned k 0;
      to_in = below (λ k. get_or turned k 0 < 4) 4 ((((tt, omega arith), omega arith), omega arith), omega arith);
      from_in = below (λ k. get_or turned k 0 < 4) 4 ((((tt, omega arith), omega arith), omega arith), omega arith);
      from_to_holds = below (λ k. get_or turned (get_or turned k 0) 0 ≡ k) 4 ((((tt, refl), refl), refl), refl);
      to_from = below (λ k. get_or turned (get_or turned k 0) 0 ≡ k) 4 ((((tt, refl), refl), refl), refl);
    }

same_lines : (k : ℕ) → k < 4 → corner_line turned_frame (pairs.to k) ≡ corner_line patched_frame k
unfolding kind_at bits_at whole_at pass_line_of opened adding parts_from parts_of
same_lines = below (λ k. corner_line turned_frame (pairs.to k) ≡ corner_line patched_frame k) 4 ((((tt, refl), refl), refl), refl)

same_shades : SameShades pairs patched_frame turned_frame
unfolding shade_of shaded shades_of kind_at bits_at whole_at pass_line_of opened adding parts_from parts_of
same_shades = below (λ k. corner_shade turned_frame (pairs.to k) ≡ corner_shade patched_frame k) 4 ((((tt, refl), refl), refl), refl)

unfoldable same : SameButOrder patched_frame turned_frame
unfolding kind_at bits_at whole_at pass_line_of opened adding parts_from parts_of
same =
    record {
      opening = refl;
      count = refl;
      pairs = pairs;
      same_line = same_lines;
      labels = refl;
      patched = refl;
      second = refl;
      shades = same_shades;
      passes = refl;
    }

-- ---- what the pass leaves, by the places as in `Ran`

-- the sheet of the union
abbrev start : List Written
start = written 8256 1 ∷ written 8384 2 ∷ written 8512 3 ∷ []

given_in_lem : given_in patched_frame ≡ start
unfolding labelled_in place_of number_of_label bit_of word_of label_of_number label_of hole_of ambiguous_of word_in put_in put
given_in_lem = ap (labelled_in []) given_is

abbrev grow_left : AfterIn PassStats
grow_left =
    record {
      answer =
          PassStats.Grow (record { counts = record { attached = 1; rejected_no_candidate = 10; rejected_ambiguous = 0; rejected_edge = 0 }; rim = false });
      sheet =
          written 8128 16384
          ∷ written 8255 16384
          ∷ written 8256 1
          ∷ written 8257 16384
          ∷ written 8383 16384
          ∷ written 8384 2
          ∷ written 8385 16384
          ∷ written 8511 16384
          ∷ written 8512 3
          ∷ written 8513 16384
          ∷ written 8639 16384
          ∷ written 8640 4
          ∷ written 8641 16384
          ∷ written 8768 16384
          ∷ [];
      attached = 8640 ∷ [];
      visited = 8128 ∷ 8257 ∷ 8255 ∷ 8385 ∷ 8383 ∷ 8640 ∷ 8513 ∷ 8511 ∷ 8768 ∷ 8641 ∷ 8639 ∷ [];
    }

grow_did : after patched_frame grow_line start ≡ grow_left
unfolding of_bits of_int to_bits add sub mul div neg lt le eq is_finite any_below kindTaken is_kind takes_kind shade_of stands any_shade shade_at units_of reaches climb rooted on_sheet place_of cell_of label_of_number number_of_label bit_of label_of hole_of ambiguous_of word_of corner_of seen_through names_corner is_labelled names on_rim rim_at eligible squared_distance insert ordered candidates_at first_two choose_unambiguous length_of mean_pitch expected_length in_band edge_ok cardinal_offsets edge_to followed_by tried verdict_of passes neighbour_offsets put_before labelled_among neighbours_of step_at step_vector weighed with_neighbour sums_from no_sums sums_of mean_of prediction_from prediction_of on_side any_on has_neighbour extrapolating choice_by member radius_of search_of xs_of ys_of pitches_of shaded shades_of settings_of full_of pass_of kind_at bits_at whole_at pass_line_of opened adding parts_from parts_of word_in told any_in label_in put_in put gathered_by edges_in result_in try_in enqueued_in enqueued_at_in seeded_from_in grow_with_in grow_at_in grow_visit_in grow_from_in grow_run_in grow_after_in after_pass_in
grow_did = refl

grow_first : after patched_frame grow_line (given_in patched_frame) ≡ grow_left
grow_first = ap (after patched_frame grow_line) given_in_lem ∙ grow_did

abbrev outcomes : List (Outcome PassStats)
outcomes = done (after_of grow_left) ∷ []

own_outcomes : (frame_run patched_frame).outcomes ≡ outcomes
unfolding run_in calls_of full_of kind_at bits_at whole_at pass_line_of opened adding parts_from parts_of
own_outcomes = λ t. done (after_of (grow_first t)) ∷ []

own_left : (frame_run patched_frame).left ≡ grow_left.sheet
unfolding run_in calls_of full_of kind_at bits_at whole_at pass_line_of opened adding parts_from parts_of
own_left = ap (λ (a : AfterIn PassStats). a.sheet) grow_first

own_factors : FactorsAbove (calls_of patched_frame) (run (frame_corners patched_frame) (sheet_of patched_frame) (calls_of patched_frame))
unfolding calls_of full_of kind_at bits_at whole_at pass_line_of opened adding parts_from parts_of
own_factors =
    subst (FactorsAbove (calls_of patched_frame)) (sym (own_run patched_text patched_frame first_read ∙ own_outcomes)) (ran (grow_above patched_frame) no_more)

-- ---- the claims

pub patched_met : PatchedMet
unfolding same
patched_met =
    record { first_read = first_read; second_read = second_read; given = given_is; same = same; pairing = λ k h. refl; factors = own_factors }

first_text_lem : text_in (outcomes_of (parts_of patched_frame).passes outcomes) grow_left.sheet ≡ patched_result
unfolding text_in told outcomes_of role_line line_of_role role_lines sum_for counts_under counts_of opened adding parts_from parts_of kind_at bits_at whole_at pass_line_of pass_lines pass_line growSays printed number_text integer_text decimal decimal_up_to digits cell_of label_of_number label_of hole_of ambiguous_of
first_text_lem = refl

second_text_lem : renumbered_in (numbers same) (outcomes_of (parts_of patched_frame).passes outcomes) grow_left.sheet ≡ turned_result
unfolding same renumbered_in numbered_anew told outcomes_of role_line line_of_role role_lines sum_for counts_under counts_of opened adding parts_from parts_of kind_at bits_at whole_at pass_line_of pass_lines pass_line growSays printed number_text integer_text decimal decimal_up_to digits cell_of label_of_number label_of hole_of ambiguous_of
second_text_lem = refl

pub patched_agreed : PatchedAgreed patched_met
unfolding patched_met
patched_agreed =
    let results = frames_answer_alike patched_text turned_text patched_frame turned_frame first_read second_read same own_factors in
    record {
      runs = frames_run_alike patched_text turned_text patched_frame turned_frame first_read second_read same;
      results = results;
      first_answer = answer_known patched_text patched_frame first_read outcomes grow_left.sheet own_outcomes own_left ∙ first_text_lem;
      second_answer =
          results.second_answer ∙ renumbered_known patched_text patched_frame first_read outcomes grow_left.sheet own_outcomes own_left (numbers same)
          ∙ second_text_lem;
    }
