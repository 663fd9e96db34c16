-- "The eight equations stand in that file's order" (document 01, "Fit"): two of each point x y that goes to u v. Definitions only.
use Rattle.std.specs.Prelude.{cond, List, [], ◌∷◌, ℕ, ◌/◌, ◌%◌, eqb, Float}
use Rattle.std.specs.Float.Ieee.{neg}
use Rattle.elimination.specs.Rounded.{◌⊗◌}
use Rattle.elimination.specs.Tables.{table, concatenated}
use Rattle.elimination.specs.Solve.{Row, Matrix}
use Rattle.sheet.specs.declared.Position.{Position}
use Rattle.binary32.specs.Numbers.{nought, one}
use Rattle.homography.specs.Normalize.{point}

-- of p, which goes to q: the first of the two has u, the second v
abbrev pub first_of : Position → Position → Row
first_of p q = p.x ∷ p.y ∷ one ∷ nought ∷ nought ∷ nought ∷ neg q.x ⊗ p.x ∷ neg q.x ⊗ p.y ∷ q.x ∷ []

abbrev pub second_of : Position → Position → Row
second_of p q = nought ∷ nought ∷ nought ∷ p.x ∷ p.y ∷ one ∷ neg q.y ⊗ p.x ∷ neg q.y ⊗ p.y ∷ q.y ∷ []

unfoldable pub equation : ℕ → Position → Position → Row
equation i p q = cond (eqb (i % 2) 0) (first_of p q) (second_of p q)

unfoldable pub equations : List Position → List Position → Matrix
equations ps qs = table 8 (λ i. equation i (point ps (i / 2)) (point qs (i / 2)))

-- the values of the steps: four products of each point
abbrev pub products_of : Position → Position → List Float
products_of p q = neg q.x ⊗ p.x ∷ neg q.x ⊗ p.y ∷ neg q.y ⊗ p.x ∷ neg q.y ⊗ p.y ∷ []

unfoldable pub equation_steps : List Position → List Position → List Float
equation_steps ps qs = concatenated 4 (λ k. products_of (point ps k) (point qs k))
