-- The line of a refusal (document 01, "Frame and result"). Definitions only.
use Rattle.std.specs.Prelude.{List, [], ◌∷◌, ℕ}
use Rattle.refusal.specs.declared.Refusal.{Refusal}
use Rattle.refusal.specs.Refusal.{number_of}
use Rattle.line_form.specs.Forms.{bytes, printed}
use Rattle.report_line.specs.Result.{count}

-- "The program prints `(refused number line)` alone."
unfoldable pub refused_text : Refusal → ℕ → List ℕ
refused_text r line = printed (bytes "(refused # #)\n") (count (number_of r) ∷ count line ∷ [])
