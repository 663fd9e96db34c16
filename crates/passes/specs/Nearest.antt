-- "Supports are the 4 nearest by |di|+|dj|, then i, then j" (document 01, "Sheet"), as a relation in which no way to find them is named.
-- `supports_of` of Local meets it, and nothing else does: `proofs/Nearest.antt`. Definitions only.
use Rattle.std.specs.Prelude.{◌≡◌, true, ◌↔◌, ◌⊎◌, ℕ, ◌<◌, min, length, ◌<ℤ◌}
use mathlib.Core.List.{List, [], ◌∷◌, Memᴰ}
use Rattle.sizes.specs.Sizes.{place_count}
use Rattle.sheet.specs.Cells.{cell_of}
use Rattle.sheet.specs.declared.Cell.{Cell}
use Rattle.labels.specs.Labelled.{LabelledCell, label_count}
use Rattle.passes.specs.Local.{reach_of, nearer, supports_of}

-- a place of the sheet whose cell holds a corner
pub record LabelledPlace (sheet : List ℕ) (p : ℕ) : Type 0 where
  pub on : p < place_count
  pub labelled : LabelledCell sheet (cell_of p)

-- ---- the order

-- p is nearer to a cell than q: its |di|+|dj| is less, or that is equal and its i is less, or both are equal and its j is less
pub data Nearer (c : Cell) (p q : ℕ) : Type 0 where
  by_reach_holds : reach_of c p < reach_of c q → Nearer c p q
  by_i : reach_of c p ≡ reach_of c q → (cell_of p).i <ℤ (cell_of q).i → Nearer c p q
  by_j : reach_of c p ≡ reach_of c q → (cell_of p).i ≡ (cell_of q).i → (cell_of p).j <ℤ (cell_of q).j → Nearer c p q

-- it is what `nearer` of Local tests
abbrev pub Tested : Type 0
Tested = (c : Cell) (p q : ℕ) → (nearer c p q ≡ true) ↔ Nearer c p q

-- on the places of the sheet it is strict and total, and goes on from one to the next
pub record Ordering (c : Cell) : Type 0 where
  pub strict : (p q : ℕ) → p < place_count → q < place_count → Nearer c p q → Nearer c q p → ⊥
  pub total : (p q : ℕ) → p < place_count → q < place_count → (p ≡ q → ⊥) → Nearer c p q ⊎ Nearer c q p
  pub chain : (p q r : ℕ) → p < place_count → q < place_count → r < place_count → Nearer c p q → Nearer c q r → Nearer c p r

-- ---- the 4 nearest

-- each is nearer than all that follow: so they stand in order, and none stands twice
abbrev pub NearestFirst : Cell → List ℕ → Type 0
NearestFirst c [] = Unit {0}
NearestFirst c (p ∷ ps) = ((q : ℕ) → Memᴰ q ps → Nearer c p q) × NearestFirst c ps

-- Four labelled places, or all where there are fewer, in order; each is nearer than every labelled place that is not among them.
pub record FourNearest (c : Cell) (sheet l : List ℕ) : Type 0 where
  pub four : length l ≡ min 4 (label_count sheet)
  pub labelled : (p : ℕ) → Memᴰ p l → LabelledPlace sheet p
  pub in_order : NearestFirst c l
  pub nearest : (p q : ℕ) → Memᴰ p l → LabelledPlace sheet q → (Memᴰ q l → ⊥) → Nearer c p q

-- a list is that exactly if it is `supports_of`
abbrev pub SupportsAreNearest : Type 0
SupportsAreNearest = (c : Cell) (sheet l : List ℕ) → FourNearest c sheet l ↔ (l ≡ supports_of c sheet)
