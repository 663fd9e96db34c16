-- What a pass keeps and what it adds (document 01, "Lists of passes, for demand 3": "When a corner is attached, the labels are the given ones
-- and all attached before it, in this pass or an earlier one", "After a pass the labelled cells are those before it and those of its attached
-- list"). Definitions only.
use Rattle.std.specs.Prelude.{◌≡◌, ◌↔◌, ◌⊎◌, ℕ, ◌+◌, ◌<◌, ◌≤◌, length, get_or, take, Some, None}
use mathlib.Core.List.{List, [], ◌∷◌, ◌++◌, Memᴰ}
use Rattle.sizes.specs.Sizes.{place_count}
use Rattle.sheet.specs.Corners.{Corners, CornerLists}
use Rattle.sheet.specs.Cells.{cell_of}
use Rattle.sheet.specs.Words.{label_at}
use Rattle.sheet.specs.declared.Cell.{Cell}
use Rattle.labels.specs.Labelled.{LabelledCell, label_count}
use Rattle.labels.specs.Used.{OneCell}
use Rattle.positions_policy.specs.declared.Tolerances.{Tolerances}
use Rattle.arguments.specs.Accepted.{Known}
use Rattle.arguments.specs.Shades.{corners_of}
use Rattle.passes.specs.History.{Attaches, History}

-- a sheet that belongs to n corners: it is long enough, names given corners only, and each at one cell
pub record Sound (n : ℕ) (sheet : List ℕ) : Type 0 where
  pub long : place_count ≤ length sheet
  pub known : Known n sheet
  pub one_cell : OneCell sheet

-- labels that stood are kept
pub record Kept (first last : List ℕ) : Type 0 where
  pub kept : (c : Cell) (k : ℕ) → label_at first c ≡ Some k → label_at last c ≡ Some k

-- no number stands twice in a list
abbrev pub Once : List ℕ → Type 0
Once [] = Unit {0}
Once (p ∷ ps) = (Memᴰ p ps → ⊥) × Once ps

-- the sheet after some corners were attached to the listed places: the labels that stood are kept, the labelled cells are those before and
-- those listed, which were unlabelled, each listed once, and the sheet still belongs to the n corners
pub record Extended (n : ℕ) (first made last : List ℕ) : Type 0 where
  pub same_length : length last ≡ length first
  pub sound : Sound n last
  pub kept : Kept first last
  pub labelled : (p : ℕ) → p < place_count → LabelledCell last (cell_of p) ↔ (LabelledCell first (cell_of p) ⊎ Memᴰ p made)
  pub on : (p : ℕ) → Memᴰ p made → p < place_count
  pub bare : (p : ℕ) → Memᴰ p made → label_at first (cell_of p) ≡ None
  pub once : Once made
  pub count : label_count last ≡ label_count first + length made

-- A corner attached to the place p, on the sheet at that time, whose labels are the first ones and those attached before: it had an accepted
-- edge to a labelled cardinal neighbour, or there was no such neighbour; and the cell still holds it on the last sheet.
pub record Attachment (cs : Corners) (tol : Tolerances) (first earlier sheet last : List ℕ) (p : ℕ) : Type 0 where
  pub corner : ℕ
  pub labels : Extended cs.count first earlier sheet
  pub attaches : Attaches cs tol sheet p corner
  pub holds : label_at last (cell_of p) ≡ Some corner

-- the n-th of a pass's new cells, and the sheet to which those before it had led
pub record AttachedAt (cs : Corners) (tol : Tolerances) (first made last : List ℕ) (n : ℕ) : Type 0 where
  pub sheet : List ℕ
  pub reached : History cs tol first (take n made) sheet
  pub attachment : Attachment cs tol first (take n made) sheet last (get_or made n 0)

-- ---- several passes, one after the other

-- from the first sheet to the last by passes, each with some shades and tolerances of its own, that attached the listed places in order
pub data Histories (l : CornerLists) (first : List ℕ) : List ℕ → List ℕ → Type 0 where
  before : Histories l first [] first
  pass : {made last more after : List ℕ} (shades : List ℕ) (tol : Tolerances) → Histories l first made last → History (corners_of l shades) tol last more after
      → Histories l first (made ++ more) after

-- The n-th of all new cells, counted over all passes: it was attached with some shades and tolerances, on the sheet to which all before it had led.
-- Which they are is not said here. It is said call by call: `Invariant.each_call` (Calls.antt) holds for each call that ran a `Ran`, whose `each`
-- and `kinds` have that call's own shades, cell size and band.
pub record AttachedInTurn (l : CornerLists) (first made last : List ℕ) (n : ℕ) : Type 0 where
  pub shades : List ℕ
  pub tol : Tolerances
  pub sheet : List ℕ
  pub reached : Histories l first (take n made) sheet
  pub attachment : Attachment (corners_of l shades) tol first (take n made) sheet last (get_or made n 0)
