-- The text of a result whose sheet has few written places is that of these places. Assumes nothing.
use mathlib.Core.Path.{◌≡◌, refl}
use mathlib.Core.List.{List, ◌++◌}
use Rattle.sheet.specs.Words.{label_of, label_of_number, hole_of, ambiguous_of}
use Rattle.role_counts.specs.RoleCounts.{RoledStats}
use Rattle.report_line.specs.Result.{pass_lines, role_lines, cell_line, hole_line, ambiguous_line, all_places, heading, sheet_text, result_text}
use Rattle.written_places.specs.Written.{Written, Rise, sheet_with, told}
use Rattle.written_places.specs.Text.{cell_says, hole_says, ambiguous_says, text_in}
use Rattle.written_places.proofs.Written.{all_told}

module _ (w : List Written) (r : Rise 0 w) where
  pub cells_so : all_places (cell_line (sheet_with w)) ≡ told cell_says w
  unfolding cell_line label_of label_of_number
  cells_so = all_told cell_says (λ p. refl) w r

  pub holes_so : all_places (hole_line (sheet_with w)) ≡ told hole_says w
  unfolding hole_line hole_of
  holes_so = all_told hole_says (λ p. refl) w r

  pub ambiguous_so : all_places (ambiguous_line (sheet_with w)) ≡ told ambiguous_says w
  unfolding ambiguous_line ambiguous_of
  ambiguous_so = all_told ambiguous_says (λ p. refl) w r

  pub text_so : (outcomes : List RoledStats) → result_text outcomes (sheet_with w) ≡ text_in outcomes w
  unfolding result_text sheet_text text_in
  text_so outcomes = λ t. heading ++ (pass_lines outcomes ++ (role_lines outcomes ++ (cells_so t ++ (holes_so t ++ ambiguous_so t))))
