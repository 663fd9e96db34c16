-- What happened to the labels during a pass, a step at a time (document 01, "Lists of passes": "When a corner is attached, the labels are the
-- given ones and all attached before it"). Definitions only.
use Rattle.std.specs.Prelude.{◌≡◌, true, false, List, [], ◌∷◌, ◌++◌, ◌⊎◌, ℕ, ◌<◌, length, None}
use Rattle.sizes.specs.Sizes.{place_count}
use Rattle.sheet.specs.Cells.{cell_of}
use Rattle.sheet.specs.Words.{label_at, attached}
use Rattle.sheet.specs.Shades.{takes}
use Rattle.sheet.specs.Corners.{Corners, seen_of}
use Rattle.labels.specs.Labelled.{SameLabels}
use Rattle.labels.specs.Used.{used_on}
use Rattle.positions_policy.specs.Edge.{AcceptedEdge, NoNeighbour}
use Rattle.positions_policy.specs.declared.Tolerances.{Tolerances}

-- corner k may be attached to the cell of place p: the cell is unlabelled, the corner is a given one that no cell holds, the cell takes it (document
-- 02, 1/14), and it has an accepted edge to a labelled cardinal neighbour, or there is no such neighbour
pub record Attaches (cs : Corners) (tol : Tolerances) (sheet : List ℕ) (p k : ℕ) : Type 0 where
  pub on : p < place_count
  pub bare : label_at sheet (cell_of p) ≡ None
  pub given : k < cs.count
  pub free : used_on sheet k ≡ false
  pub taken : takes cs.shades (cell_of p) k ≡ true
  pub edge : AcceptedEdge (seen_of cs.corner sheet) tol (cell_of p) (cs.corner k) ⊎ NoNeighbour (seen_of cs.corner sheet) (cell_of p)

-- from the first sheet to the last by attaching corners to the listed places in order, each as above at its time; marks may change at any time
pub data History (cs : Corners) (tol : Tolerances) (first : List ℕ) : List ℕ → List ℕ → Type 0 where
  begun : History cs tol first [] first
  marked : {made last last' : List ℕ} → History cs tol first made last → length last' ≡ length last → SameLabels last last' → History cs tol first made last'
  attaches : {made last : List ℕ} (p k : ℕ) → History cs tol first made last → Attaches cs tol last p k → History cs tol first (made ++ (p ∷ [])) (attached last (cell_of p) k)
