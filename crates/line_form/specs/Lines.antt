-- The lines of a text (document 01, "Frame and result"): "LF after each line". Definitions only.
use Rattle.std.specs.Prelude.{cond, List, [], ◌∷◌, ℕ, suc, eqb}

-- each line ends with its LF, byte 10, and only the last may want it
abbrev pub longer : ℕ → List (List ℕ) → List (List ℕ)
longer b [] = (b ∷ []) ∷ []
longer b (l ∷ ls) = (b ∷ l) ∷ ls

abbrev pub onto : ℕ → List (List ℕ) → List (List ℕ)
onto b ls = cond (eqb b 10) ((b ∷ []) ∷ ls) (longer b ls)

unfoldable pub lines_of : List ℕ → List (List ℕ)
lines_of [] = []
lines_of (b ∷ text) = onto b (lines_of text)

-- how long the first line of a text is, its LF included
unfoldable pub line_length : List ℕ → ℕ
line_length [] = 0
line_length (b ∷ text) = cond (eqb b 10) 1 (suc (line_length text))
