-- The join computed: the shift that the first shared label of the second set asks for, tested; and what it says by the rule. Definitions only.
use Rattle.std.specs.Prelude.{◌≡◌, Bool, true, false, cond, not, ◌&&◌, ◌↔◌, ℕ, eqb, Option, Some, None, Ok, Err}
use mathlib.Core.List.{List, [], ◌∷◌, ◌++◌, map, Memᴰ}
use Rattle.sheet.specs.Cells.{on_sheet, difference_of, eq_z}
use Rattle.sheet.specs.declared.Cell.{Cell}
use Rattle.sheet.specs.declared.Offset.{Offset}
use Rattle.join.specs.declared.Unjoinable.{Unjoinable}
use Rattle.join.specs.Rule.{Verdict, Placed, shifted_by, Shared, Fits, Shift, NoShift, Meaning, Once, UnionBy, renamed}

-- ---- lists: what std has as `list_all` and `filter`, under the names that the crates above unfold

unfoldable pub every : {A : Type 0} → (A → Bool) → List A → Bool
every f [] = true
every f (a ∷ rest) = f a && every f rest

unfoldable pub kept : {A : Type 0} → (A → Bool) → List A → List A
kept f [] = []
kept f (a ∷ rest) = cond (f a) (a ∷ kept f rest) (kept f rest)

-- ---- the shift asked for

-- where a set has a corner
unfoldable pub cell_in : List Placed → ℕ → Option Cell
cell_in [] k = None
cell_in (a ∷ rest) k = cond (eqb a.corner k) (Some a.cell) (cell_in rest k)

-- what a label asks for: from its cell to the cell that the first set has for its corner; where it has none, what the others ask for
unfoldable pub asks : Option Cell → Cell → Option Offset → Option Offset
asks None c rest = rest
asks (Some a) c rest = Some (difference_of a c)

-- the shift that the first shared label of the second set asks for; `find` says where the first set has a corner
unfoldable pub asked : (ℕ → Option Cell) → List Placed → Option Offset
asked find [] = None
asked find (b ∷ bs) = asks (find b.corner) b.cell (asked find bs)

-- ---- its test

abbrev pub same_cell : Cell → Cell → Bool
same_cell a b = eq_z a.i b.i && eq_z a.j b.j

-- two labels of one sheet: the same corner exactly if the same cell
unfoldable pub agree : Placed → Placed → Bool
agree a b = cond (eqb a.corner b.corner) (same_cell a.cell b.cell) (not (same_cell a.cell b.cell))

unfoldable pub agrees_in : List Placed → Placed → Bool
agrees_in first b = every (λ a. agree a b) first

-- `agrees` says whether a label, moved, agrees with the first set
unfoldable pub tested : (Placed → Bool) → List Placed → Offset → Verdict
tested agrees second d =
    cond (every agrees (map (shifted_by d) second)) (cond (every (λ l. on_sheet l.cell) (map (shifted_by d) second)) (Ok d) (Err Unjoinable.Off)) (Err Unjoinable.Clash)

-- ---- the verdict

unfoldable pub told : (Placed → Bool) → List Placed → Option Offset → Verdict
told agrees second None = Err Unjoinable.Apart
told agrees second (Some d) = tested agrees second d

abbrev pub verdict_by : (ℕ → Option Cell) → (Placed → Bool) → List Placed → Verdict
verdict_by find agrees second = told agrees second (asked find second)

unfoldable pub verdict : List Placed → List Placed → Verdict
verdict first second = verdict_by (cell_in first) (agrees_in first) second

-- ---- the union

unfoldable pub is_found : Option Cell → Bool
is_found None = false
is_found (Some c) = true

-- the labels of the second set whose corners the first has not, moved
unfoldable pub new_by : (ℕ → Option Cell) → List Placed → Offset → List Placed
new_by find second d = kept (λ l. not (is_found (find l.corner))) (map (shifted_by d) second)

unfoldable pub union : List Placed → List Placed → Offset → List Placed
union first second d = first ++ new_by (cell_in first) second d

-- ---- the join

pub data Joined : Type 0 where
  apart clash off : Joined
  union_of : List Placed → Joined

unfoldable pub joined_by : List Placed → List Placed → Verdict → Joined
joined_by first second (Err Unjoinable.Apart) = apart
joined_by first second (Err Unjoinable.Clash) = clash
joined_by first second (Err Unjoinable.Off) = off
joined_by first second (Ok d) = union_of (union first second d)

unfoldable pub joined : List Placed → List Placed → Joined
joined first second = joined_by first second (verdict first second)

-- ---- the join of renumbered sets

unfoldable pub join_renamed : (ℕ → ℕ) → Joined → Joined
join_renamed ren apart = apart
join_renamed ren clash = clash
join_renamed ren off = off
join_renamed ren (union_of u) = union_of (map (renamed ren) u)

-- ---- what it says, by the rule: the statements that `proofs/` proves

-- "8 if no corner is in both sets, 9 if no shift gives every shared corner one cell and every cell one corner, then 4 if that shift takes a
-- label off the sheet": each exactly when said, and the shift else
abbrev pub VerdictExactlyIf : Type 0
VerdictExactlyIf = (first second : List Placed) (v : Verdict) → verdict first second ≡ v ↔ Meaning first second v

-- the union by a shift onto the sheet
pub record ByShift (first second u : List Placed) : Type 0 where
  pub shared : Shared first second
  pub shift : Offset
  pub onto : Shift first second shift
  pub is_union : u ≡ union first second shift

-- what each join means
abbrev pub JoinMeaning : List Placed → List Placed → Joined → Type 0
JoinMeaning first second apart = Meaning first second (Err Unjoinable.Apart)
JoinMeaning first second clash = Meaning first second (Err Unjoinable.Clash)
JoinMeaning first second off = Meaning first second (Err Unjoinable.Off)
JoinMeaning first second (union_of u) = ByShift first second u

abbrev pub JoinExactlyIf : Type 0
JoinExactlyIf = (first second : List Placed) (j : Joined) → joined first second ≡ j ↔ JoinMeaning first second j

abbrev pub Refused : Joined → Type 0
Refused apart = Unit {0}
Refused clash = Unit {0}
Refused off = Unit {0}
Refused (union_of u) = ⊥

-- "Two sets with a corner in common are refused exactly if no such shift onto the sheet exists."
abbrev pub RefusedExactlyIf : Type 0
RefusedExactlyIf = (first second : List Placed) → Shared first second → Refused (joined first second) ↔ NoShift first second

-- "The join shifts the second set so that every shared corner has one cell and every cell one corner, and passes run on the union": the union
-- by a shift has each label of the first set at its cell, each of the second at its moved cell, nothing else, each corner once and each cell once
abbrev pub UnionOfBoth : Type 0
UnionOfBoth =
    (first second : List Placed) (d : Offset) → Fits first second d → Once first → Once second → UnionBy first second d (union first second d)

-- "Corner order still decides nothing": with the corners numbered otherwise, those that were different in the two sets still different, the join
-- is the same with its corners numbered so, refusals included
abbrev pub CornerOrderAlike : Type 0
CornerOrderAlike =
    (ren : ℕ → ℕ) (first second : List Placed)
    → ((a b : Placed) → Memᴰ a first → Memᴰ b second → ren a.corner ≡ ren b.corner → a.corner ≡ b.corner)
    → joined (map (renamed ren) first) (map (renamed ren) second) ≡ join_renamed ren (joined first second)
