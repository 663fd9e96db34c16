-- The rule of the join, without an algorithm: "The join shifts the second set so that every shared corner has one cell and every cell one
-- corner" (change request 3/14). Definitions only.
use Rattle.std.specs.Prelude.{◌≡◌, ℕ, Result, Ok, Err}
use mathlib.Core.List.{List, [], ◌∷◌, Memᴰ}
use Rattle.sheet.specs.Cells.{OnSheet, moved}
use Rattle.sheet.specs.declared.Cell.{Cell}
use Rattle.sheet.specs.declared.Offset.{Offset}
use Rattle.join.specs.declared.Unjoinable.{Unjoinable}

-- what the test of two sets of labels says
abbrev pub Verdict : Type 0
Verdict = Result Offset Unjoinable

-- a label: a corner at a cell
pub record Placed : Type 0 where
  pub corner : ℕ
  pub cell : Cell

-- a label moved by a shift
abbrev pub shifted_by : Offset → Placed → Placed
shifted_by d l = record { corner = l.corner; cell = moved l.cell d }

-- a corner in both sets
pub record Shared (first second : List Placed) : Type 0 where
  pub here : Placed
  pub there : Placed
  pub in_first : Memᴰ here first
  pub in_second : Memᴰ there second
  pub same_corner_holds : here.corner ≡ there.corner

-- a shift that gives "every shared corner one cell and every cell one corner", on the sheet or off it
pub record Fits (first second : List Placed) (d : Offset) : Type 0 where
  pub one_cell : (a b : Placed) → Memᴰ a first → Memᴰ b second → a.corner ≡ b.corner → a.cell ≡ moved b.cell d
  pub one_corner : (a b : Placed) → Memᴰ a first → Memᴰ b second → a.cell ≡ moved b.cell d → a.corner ≡ b.corner

-- it takes no label off the sheet
pub record OntoSheet (second : List Placed) (d : Offset) : Type 0 where
  pub on : (b : Placed) → Memᴰ b second → OnSheet (moved b.cell d)

-- "such .. shift onto the sheet"
pub record Shift (first second : List Placed) (d : Offset) : Type 0 where
  pub fits : Fits first second d
  pub onto : OntoSheet second d

abbrev pub NoShift : List Placed → List Placed → Type 0
NoShift first second = (d : Offset) → Shift first second d → ⊥

-- with a corner in common the shift is the only one
abbrev pub OneShift : Type 0
OneShift = (first second : List Placed) → Shared first second → (d e : Offset) → Fits first second d → Fits first second e → d ≡ e

-- a shift that fits and takes a label off the sheet
pub record FitsOff (first second : List Placed) : Type 0 where
  pub shift : Offset
  pub fits : Fits first second shift
  pub leaves : OntoSheet second shift → ⊥

-- "8 if no corner is in both sets, 9 if no shift gives every shared corner one cell and every cell one corner, then 4 if that shift takes a
-- label off the sheet"; else the sets are joined by a shift onto the sheet
abbrev pub Meaning : List Placed → List Placed → Verdict → Type 0
Meaning first second (Err Unjoinable.Apart) = Shared first second → ⊥
Meaning first second (Err Unjoinable.Clash) = Shared first second × ((d : Offset) → Fits first second d → ⊥)
Meaning first second (Err Unjoinable.Off) = Shared first second × FitsOff first second
Meaning first second (Ok d) = Shared first second × Shift first second d

-- ---- sets as lists

abbrev pub All : {A : Type 0} → (A → Type 0) → List A → Type 0
All P [] = Unit {0}
All P (a ∷ rest) = P a × All P rest

-- each element differs from all behind it
abbrev pub AllDiffer : {A : Type 0} → (A → A → Type 0) → List A → Type 0
AllDiffer D [] = Unit {0}
AllDiffer D (a ∷ rest) = All (D a) rest × AllDiffer D rest

-- other corners and other cells
pub record Differ (a b : Placed) : Type 0 where
  pub cells : a.cell ≡ b.cell → ⊥
  pub corners : a.corner ≡ b.corner → ⊥

-- each corner once and each cell once
abbrev pub Once : List Placed → Type 0
Once ls = AllDiffer Differ ls

-- a label of the first set, or one of the second moved
pub data OneOf (first second : List Placed) (d : Offset) (l : Placed) : Type 0 where
  of_first : Memᴰ l first → OneOf first second d l
  of_second : (b : Placed) → Memᴰ b second → l ≡ shifted_by d b → OneOf first second d l

-- the union of two sets by a shift: each label of the first at its cell, each of the second at its moved cell, nothing else, each corner
-- once and each cell once
pub record UnionBy (first second : List Placed) (d : Offset) (u : List Placed) : Type 0 where
  pub has_first : (a : Placed) → Memᴰ a first → Memᴰ a u
  pub has_second : (b : Placed) → Memᴰ b second → Memᴰ (shifted_by d b) u
  pub no_other : (l : Placed) → Memᴰ l u → OneOf first second d l
  pub once : Once u

-- ---- other numbers for the corners

abbrev pub renamed : (ℕ → ℕ) → Placed → Placed
renamed ren l = record { corner = ren l.corner; cell = l.cell }

-- the label of which this is the counterpart
pub record Original (ren : ℕ → ℕ) (set : List Placed) (l : Placed) : Type 0 where
  pub label : Placed
  pub listed : Memᴰ label set
  pub counterpart : renamed ren label ≡ l

-- two sets that differ from two others in the numbers of the corners and in the order of the labels: each label has its counterpart, and
-- corners that were different in the two sets are different
pub record Renumbered (ren : ℕ → ℕ) (first second first' second' : List Placed) : Type 0 where
  pub first_to : (a : Placed) → Memᴰ a first → Memᴰ (renamed ren a) first'
  pub first_from : (a : Placed) → Memᴰ a first' → Original ren first a
  pub second_to : (b : Placed) → Memᴰ b second → Memᴰ (renamed ren b) second'
  pub second_from : (b : Placed) → Memᴰ b second' → Original ren second b
  pub one_to_one : (a b : Placed) → Memᴰ a first → Memᴰ b second → ren a.corner ≡ ren b.corner → a.corner ≡ b.corner
