-- The join as the code has it: the first set is a sheet, the second its labels in the order of the lines. Definitions only. `proofs/Held.antt`
-- shows that it is the join of the two lists.
use Rattle.std.specs.Prelude.{◌≡◌, Bool, false, cond, not, List, map, ℕ, zero, suc, ◌<◌, ◌≤◌, eqb, length, get_or, Option, Some, None, Result, Ok, Err}
use Rattle.std.specs.List.{All}
use Rattle.sizes.specs.Sizes.{place_count, corner_limit}
use Rattle.sheet.specs.Cells.{cell_of, OnSheet, moved, Within}
use Rattle.sheet.specs.Words.{label_of, label_at, attached, empty_sheet}
use Rattle.sheet.specs.declared.Cell.{Cell}
use Rattle.sheet.specs.declared.Offset.{Offset}
use Rattle.labels.specs.Box.{box_of}
use Rattle.labels.specs.Used.{names, used_on}
use Rattle.labels.specs.declared.Bounds.{Bounds}
use Rattle.refusal.specs.declared.Refusal.{Refusal}
use Rattle.join.specs.Rule.{Verdict, Placed, shifted_by}
use Rattle.join.specs.Join.{kept, new_by, verdict_by, Joined, apart, clash, off, union_of}
use Rattle.join.specs.Sheets.{labelled}
use Rattle.join.specs.Refused.{refusal_of}
use Rattle.join_sheet.specs.declared.SecondLabel.{SecondLabel}

-- ---- the second set

-- a label as it is held
abbrev pub held_at : SecondLabel → Placed
held_at l = record { corner = l.corner; cell = cell_of l.place }

abbrev pub held_labels : List SecondLabel → List Placed
held_labels second = map held_at second

-- ---- the first set: a sheet

-- the cell of the first place below n that passes
unfoldable pub or_at : Option Cell → Bool → ℕ → Option Cell
or_at None t p = cond t (Some (cell_of p)) None
or_at (Some c) t p = Some c

unfoldable pub found_below : (ℕ → Bool) → ℕ → Option Cell
found_below f zero = None
found_below f (suc n) = or_at (found_below f n) (f n) n

abbrev pub holds_at : List ℕ → ℕ → ℕ → Bool
holds_at sheet k p = names k (label_of (get_or sheet p 0))

-- where the sheet has a corner
unfoldable pub cell_on : List ℕ → ℕ → Option Cell
cell_on sheet k = found_below (holds_at sheet k) place_count

-- a label agrees with a sheet: its cell there has this corner, or none, and then no other cell has it
unfoldable pub agrees_with : Option ℕ → Bool → ℕ → Bool
agrees_with None elsewhere k = not elsewhere
agrees_with (Some j) elsewhere k = eqb j k

unfoldable pub agrees_on : List ℕ → Placed → Bool
agrees_on sheet l = agrees_with (label_at sheet l.cell) (used_on sheet l.corner) l.corner

-- one label is attached if its corner is not used
unfoldable pub new_put : Bool → List ℕ → Cell → ℕ → List ℕ
new_put used sheet c k = cond used sheet (attached sheet c k)

-- the labels of the second set whose corners are not used, moved
abbrev pub new_held : List Bool → List Placed → Offset → List Placed
new_held used second d = kept (λ l. not (get_or used l.corner false)) (map (shifted_by d) second)

-- ---- the join

pub record Outcome : Type 0 where
  pub sheet : List ℕ
  pub answer : Result (Unit {0}) Refusal

abbrev pub outcome : List ℕ → Result (Unit {0}) Refusal → Outcome
outcome sheet r = record { sheet = sheet; answer = r }

unfoldable pub outcome_of : List ℕ → List Placed → Verdict → Outcome
outcome_of sheet second (Err u) = outcome sheet (Err (refusal_of u))
outcome_of sheet second (Ok d) = outcome (labelled sheet (new_by (cell_on sheet) second d)) (Ok tt)

unfoldable pub verdict_on : List ℕ → List Placed → Verdict
verdict_on sheet second = verdict_by (cell_on sheet) (agrees_on sheet) second

unfoldable pub join_on : List ℕ → List Placed → Outcome
join_on sheet second = outcome_of sheet second (verdict_on sheet second)

-- ---- what the code asks

-- a label of a corner below 1,024, on the sheet
pub record LabelHeld (l : SecondLabel) : Type 0 where
  pub corner_small : l.corner < corner_limit
  pub place_on : l.place < place_count

-- the second set: such labels
abbrev pub HeldSecond : List SecondLabel → Type 0
HeldSecond second = All LabelHeld second

-- a corner is used exactly if the first set has it
pub record Unused (sheet : List ℕ) (used : List Bool) : Type 0 where
  pub free : (k : ℕ) → k < corner_limit → get_or used k false ≡ used_on sheet k

-- both sets
pub record HeldSets (sheet : List ℕ) (used : List Bool) (labels : List SecondLabel) : Type 0 where
  pub long : place_count ≤ length sheet
  pub unused : Unused sheet used
  pub second : HeldSecond labels

-- the label box that is kept beside a sheet is what a search of it finds
pub record BoxKept (sheet : List ℕ) (around : Option Bounds) : Type 0 where
  pub long : place_count ≤ length sheet
  pub found : around ≡ box_of sheet

-- the second set and a shift that takes no label off the sheet
pub record WriteAsked (labels : List SecondLabel) (d : Offset) : Type 0 where
  pub second : HeldSecond labels
  pub within : Within 128 d
  pub on : All (λ l. OnSheet (moved (cell_of l.place) d)) labels

-- ---- what it means for lists

-- the join of the lists, as the sheet and the answer
unfoldable pub concluded : List ℕ → Joined → Outcome
concluded sheet apart = outcome sheet (Err Refusal.NoSharedCorner)
concluded sheet clash = outcome sheet (Err Refusal.PatchesClash)
concluded sheet off = outcome sheet (Err Refusal.OffSheet)
concluded sheet (union_of u) = outcome (labelled empty_sheet u) (Ok tt)
