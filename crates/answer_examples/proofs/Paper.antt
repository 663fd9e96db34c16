-- Document 01's frame gives document 01's result: read, run and printed by the definitions. Assumes nothing.
use mathlib.Core.Path.{◌≡◌, refl, ap, ◌∙◌}
use mathlib.Core.List.{List, [], ◌∷◌}
use lib.Ieee.{of_bits, of_int, to_bits, add, sub, mul, div, neg, lt, le, eq}
use Rattle.binary32.specs.Hex.{digits}
use Rattle.binary32.specs.Ranges.{is_finite}
use Rattle.binary32.specs.Sqrt.{units_of, reaches, climb, rooted}
use Rattle.sheet.specs.Cells.{on_sheet, place_of, cell_of}
use Rattle.sheet.specs.Words.{label_of_number, number_of_label, bit_of, label_of, hole_of, ambiguous_of, word_of}
use Rattle.sheet.specs.Corners.{corner_of, seen_through, squared_distance}
use Rattle.labels.specs.Labelled.{any_below, names_corner, is_labelled}
use Rattle.labels.specs.Used.{names}
use Rattle.labels.specs.Rim.{on_rim, rim_at}
use Rattle.candidates.specs.Candidates.{insert, ordered, candidates_at, first_two}
use Rattle.candidates.specs.Choice.{choose_unambiguous}
use Rattle.positions_policy.specs.Edge.{length_of, mean_pitch, expected_length, in_band, edge_ok, cardinal_offsets, edge_to, followed_by, tried, verdict_of, passes}
use Rattle.predict.specs.Predict.{neighbour_offsets, put_before, labelled_among, neighbours_of, step_at, step_vector, weighed, with_neighbour, sums_from, no_sums, sums_of, mean_of, prediction_from, prediction_of, on_side, any_on, has_neighbour, extrapolating}
use Rattle.sheet.specs.Shades.{shade_of}
use Rattle.arguments.specs.Shades.{stands, any_shade}
use Rattle.extension_common.specs.TryCell.{choice_by}
use Rattle.passes.specs.Grow.{member, radius_of, search_of}
use Rattle.line_form.specs.Integers.{decimal_up_to, decimal, integer_text}
use Rattle.line_form.specs.Forms.{number_text, printed}
use Rattle.frame_line.specs.Table.{kind_at}
use Rattle.frame_line.specs.Lines.{bits_at, whole_at, pass_line_of}
use Rattle.frame.specs.Frame.{opened, adding, parts_from, parts_of, FrameRead, accepted, read_frame, given_of, join_of}
use Rattle.frame.specs.ReadFrame.{xs_of, ys_of, pitches_of, shaded, shades_of, settings_of, full_of, pass_of}
use Rattle.frame_laws.specs.Calls.{calls_of}
use Rattle.frame_laws.proofs.Examples.{example, meant, examples_read}
use Rattle.report_line.specs.Result.{grow_line, pass_line, pass_lines, role_line, line_of_role, role_lines}
use Rattle.role_counts.specs.RoleCounts.{sum_for, counts_under, counts_of}
use Rattle.frame_answer.specs.Answer.{outcomes_of}
use Rattle.written_places.specs.Written.{word_in, told, any_in, label_in, put_in, put}
use Rattle.written_places.specs.Passes.{gathered_by, edges_in, result_in, try_in, enqueued_in, enqueued_at_in, seeded_from_in, grow_with_in, grow_at_in, grow_visit_in, grow_from_in, grow_run_in, grow_after_in}
use Rattle.written_places.specs.Run.{after_pass_in, run_in}
use Rattle.written_places.specs.Text.{text_in}
use Rattle.answer_examples.specs.Answer.{labelled_in, frame_run, run_text}
use Rattle.answer_examples.specs.Paper.{example_result, ExampleAnswered}
use Rattle.answer_examples.proofs.Answer.{answer_so}

-- what the first text of the crate `frame_laws`' table is read as
first : List FrameRead → FrameRead
first [] = accepted []
first (a ∷ l) = a

example_read : read_frame example ≡ accepted meant
unfolding first
example_read = ap first examples_read

-- the run and its text, computed
computed : run_text meant (frame_run meant) ≡ example_result
unfolding of_bits of_int to_bits add sub mul div neg lt le eq digits is_finite any_below shade_of stands any_shade units_of reaches climb rooted on_sheet place_of cell_of label_of_number number_of_label bit_of label_of hole_of ambiguous_of word_of corner_of seen_through names_corner is_labelled names on_rim rim_at squared_distance insert ordered candidates_at first_two choose_unambiguous length_of mean_pitch expected_length in_band edge_ok cardinal_offsets edge_to followed_by tried verdict_of passes neighbour_offsets put_before labelled_among neighbours_of step_at step_vector weighed with_neighbour sums_from no_sums sums_of mean_of prediction_from prediction_of on_side any_on has_neighbour extrapolating choice_by member radius_of search_of decimal_up_to decimal integer_text number_text printed xs_of ys_of pitches_of shaded shades_of settings_of full_of pass_of calls_of kind_at bits_at whole_at pass_line_of opened adding parts_from parts_of grow_line pass_line pass_lines outcomes_of role_line line_of_role role_lines sum_for counts_under counts_of word_in told any_in label_in put_in put gathered_by edges_in result_in try_in enqueued_in enqueued_at_in seeded_from_in grow_with_in grow_at_in grow_visit_in grow_from_in grow_run_in grow_after_in after_pass_in run_in text_in labelled_in given_of join_of run_text
computed = refl

pub example_answered : ExampleAnswered
example_answered = answer_so example meant example_read ∙ computed
