-- What each pass of the first frame does, computed from the definitions on the written places of its sheet. Assumes nothing.
use Rattle.std.specs.Prelude.{None, Some}
use mathlib.Core.Path.{◌≡◌, refl}
use mathlib.Core.Bool.{false}
use mathlib.Core.List.{List, [], ◌∷◌}
use Prim.Native.Nat.{ℕ}
use lib.Ieee.{binary32, of_bits, of_int, to_bits, add, sub, mul, div, neg, lt, le, eq}
use Rattle.binary32.specs.Ranges.{is_finite, all_finite}
use Rattle.binary32.specs.Sqrt.{units_of, reaches, climb, rooted}
use Rattle.elimination.specs.Tables.{table, concatenated, every}
use Rattle.elimination.specs.Solve.{largest, swapped, gained, cleared, eliminated, right_sides, carried, answered}
use Rattle.homography.specs.Normalize.{mean, distance, scale_of, normalization_of, forward, map_row, moved, normalized}
use Rattle.homography.specs.Equations.{equation, equations}
use Rattle.homography.specs.Undo.{backward, multiplied, undone}
use Rattle.homography.specs.Fit.{quotients, scaled_of, applied}
use Rattle.sheet.specs.Cells.{on_sheet, place_of, cell_of}
use Rattle.sheet.specs.Words.{label_of_number, number_of_label, bit_of, label_of, hole_of, ambiguous_of, word_of}
use Rattle.sheet.specs.Corners.{corner_of, seen_through, squared_distance}
use Rattle.labels.specs.Labelled.{any_below, passing, names_corner, is_labelled}
use Rattle.labels.specs.Box.{lower_of, higher_of, widened}
use Rattle.labels.specs.Used.{names}
use Rattle.labels.specs.Rim.{on_rim, rim_at}
use Rattle.candidates.specs.Candidates.{insert, ordered, candidates_at, first_two}
use Rattle.candidates.specs.Choice.{choose_unambiguous, choose_with_floor}
use Rattle.positions_policy.specs.Edge.{length_of, mean_pitch, expected_length, in_band, edge_ok, cardinal_offsets, edge_to, followed_by, tried, verdict_of, passes}
use Rattle.predict.specs.Predict.{neighbour_offsets, put_before, labelled_among, neighbours_of, step_at, step_vector, weighed, with_neighbour, sums_from, no_sums, sums_of, mean_of, prediction_from, prediction_of, on_side, any_on, has_neighbour, extrapolating}
use Rattle.sheet.specs.Shades.{shade_of}
use Rattle.arguments.specs.Shades.{stands, any_shade}
use Rattle.extension_common.specs.TryCell.{choice_by}
use Rattle.passes.specs.Grow.{member, radius_of, search_of}
use Rattle.passes.specs.Rounds.{walk, one_round, rounds_from}
use Rattle.passes.specs.Fill.{cells_of, fill_search, fill_limit}
use Rattle.passes.specs.Local.{depth_of, row_among, column_among, local_region, nearer, placed, by_reach, cell_point, pictured_at, residual_of, residuals_of, trusted, worst, recorded, recorded_all, local_search, local_limit, unmatched_if}
use Rattle.passes.specs.declared.PassStats.{PassStats}
use Rattle.frame_line.specs.Table.{kind_at}
use Rattle.frame_line.specs.Lines.{PassLine, bits_at, whole_at, pass_line_of}
use Rattle.frame.specs.Frame.{Frame, opened, adding, parts_from, parts_of, given_of, join_of}
use Rattle.frame.specs.ReadFrame.{xs_of, ys_of, pitches_of, shaded, shades_of, settings_of, full_of, pass_of}
use Rattle.frame_laws.specs.Calls.{frame_corners, call_of}
use Rattle.written_places.specs.Written.{Written, written, word_in, told, any_in, label_in, put_in, put}
use Rattle.written_places.specs.Passes.{AfterIn, gathered_by, edges_in, result_in, try_in, enqueued_in, enqueued_at_in, seeded_from_in, grow_with_in, grow_at_in, grow_visit_in, grow_from_in, grow_run_in, grow_after_in, fill_with_in, fill_at_in, fill_visit_in, fill_after_in, quick_fit_with, quick_fit_from, quick_fit, local_fit_in, local_with_in, unmatched_by, local_try_in, local_at_in, local_visit_in, local_after_in}
use Rattle.written_places.specs.Run.{after_pass_in}
use Rattle.answer_examples.specs.Answer.{labelled_in, given_in}
use Rattle.answer_examples.specs.Pair.{first_frame, local_line}
use Rattle.answer_examples.specs.Claims.{grow_line, fill_line}

-- ---- what each leaves, by the places: (i j) is at (i + 64) * 128 + j + 64, a corner k is k + 1, a hole mark 16384, an ambiguous mark 32768

abbrev pub local_left : AfterIn PassStats
local_left =
    record {
      answer =
          PassStats.Local
          (record {
            counts = record { attached = 1; rejected_no_candidate = 10; rejected_ambiguous = 1; rejected_edge = 0 };
            iterations = 1;
            residual = Some (of_bits binary32 0x3635_04f3);
            rim = false;
            unmatched = None;
          });
      sheet = written 8256 1 ∷ written 8257 3 ∷ written 8384 2 ∷ written 8385 4 ∷ written 8512 5 ∷ [];
      attached = 8512 ∷ [];
      visited = [];
    }

-- all but the last place, at which grow finds a choice that is ambiguous to it and not to fill
abbrev marked : ℕ → List Written
marked last =
    written 8128 32768
    ∷ written 8129 16384
    ∷ written 8130 16384
    ∷ written 8255 16384
    ∷ written 8256 1
    ∷ written 8257 3
    ∷ written 8258 6
    ∷ written 8259 16384
    ∷ written 8383 16384
    ∷ written 8384 2
    ∷ written 8385 4
    ∷ written 8386 16384
    ∷ written 8511 16384
    ∷ written 8512 5
    ∷ written 8513 16384
    ∷ written 8640 last
    ∷ []

abbrev pub grow_left : AfterIn PassStats
grow_left =
    record {
      answer =
          PassStats.Grow (record { counts = record { attached = 1; rejected_no_candidate = 8; rejected_ambiguous = 2; rejected_edge = 0 }; rim = false });
      sheet = marked 32768;
      attached = 8258 ∷ [];
      visited = 8128 ∷ 8255 ∷ 8129 ∷ 8258 ∷ 8383 ∷ 8513 ∷ 8386 ∷ 8640 ∷ 8511 ∷ 8130 ∷ 8259 ∷ [];
    }

abbrev pub fill_left : AfterIn PassStats
fill_left =
    record {
      answer = PassStats.Fill (record { added = 1; iterations = 1; rim = false });
      sheet = marked 32777;
      attached = 8640 ∷ [];
      visited = [];
    }

-- ---- a pass line's call from a frame, on some written places

abbrev pub after : Frame → PassLine → List Written → AfterIn PassStats
after f p w = after_pass_in (frame_corners f) (call_of f p).shades w (call_of f p).settings (call_of f p).pass

pub local_did : after first_frame local_line (given_in first_frame) ≡ local_left
unfolding of_bits of_int to_bits add sub mul div neg lt le eq is_finite any_below shade_of stands any_shade units_of reaches climb rooted table concatenated every all_finite largest swapped gained cleared eliminated right_sides carried answered mean distance scale_of normalization_of forward map_row moved normalized equation equations backward multiplied undone quotients scaled_of applied on_sheet place_of cell_of label_of_number number_of_label bit_of label_of hole_of ambiguous_of word_of corner_of seen_through passing names_corner is_labelled lower_of higher_of widened names on_rim rim_at squared_distance insert ordered candidates_at first_two choose_with_floor length_of mean_pitch expected_length in_band edge_ok cardinal_offsets edge_to followed_by tried verdict_of passes choice_by cells_of depth_of row_among column_among local_region nearer placed by_reach cell_point pictured_at residual_of residuals_of trusted worst recorded recorded_all local_search local_limit xs_of ys_of pitches_of shaded shades_of settings_of full_of pass_of kind_at bits_at whole_at pass_line_of opened adding parts_from parts_of word_in told any_in label_in put_in put gathered_by edges_in result_in try_in quick_fit_with quick_fit_from quick_fit local_fit_in local_with_in unmatched_by local_try_in local_at_in local_visit_in walk one_round rounds_from unmatched_if local_after_in after_pass_in labelled_in given_of join_of
local_did = refl

pub grow_did : after first_frame grow_line local_left.sheet ≡ grow_left
unfolding of_bits of_int to_bits add sub mul div neg lt le eq is_finite any_below shade_of stands any_shade units_of reaches climb rooted on_sheet place_of cell_of label_of_number number_of_label bit_of label_of hole_of ambiguous_of word_of corner_of seen_through names_corner is_labelled names on_rim rim_at squared_distance insert ordered candidates_at first_two choose_unambiguous length_of mean_pitch expected_length in_band edge_ok cardinal_offsets edge_to followed_by tried verdict_of passes neighbour_offsets put_before labelled_among neighbours_of step_at step_vector weighed with_neighbour sums_from no_sums sums_of mean_of prediction_from prediction_of on_side any_on has_neighbour extrapolating choice_by member radius_of search_of xs_of ys_of pitches_of shaded shades_of settings_of full_of pass_of kind_at bits_at whole_at pass_line_of opened adding parts_from parts_of word_in told any_in label_in put_in put gathered_by edges_in result_in try_in enqueued_in enqueued_at_in seeded_from_in grow_with_in grow_at_in grow_visit_in grow_from_in grow_run_in grow_after_in after_pass_in
grow_did = refl

pub fill_did : after first_frame fill_line grow_left.sheet ≡ fill_left
unfolding of_bits of_int to_bits add sub mul div neg lt le eq is_finite any_below shade_of stands any_shade units_of reaches climb rooted on_sheet place_of cell_of label_of_number number_of_label bit_of label_of hole_of ambiguous_of word_of corner_of seen_through passing names_corner is_labelled lower_of higher_of widened names on_rim rim_at squared_distance insert ordered candidates_at first_two choose_with_floor length_of mean_pitch expected_length in_band edge_ok cardinal_offsets edge_to followed_by tried verdict_of passes neighbour_offsets put_before labelled_among neighbours_of step_at step_vector weighed with_neighbour sums_from no_sums sums_of mean_of prediction_from prediction_of choice_by cells_of fill_search fill_limit xs_of ys_of pitches_of shaded shades_of settings_of full_of pass_of kind_at bits_at whole_at pass_line_of opened adding parts_from parts_of word_in told any_in label_in put_in put gathered_by edges_in result_in try_in fill_with_in fill_at_in fill_visit_in walk one_round rounds_from fill_after_in after_pass_in
fill_did = refl
