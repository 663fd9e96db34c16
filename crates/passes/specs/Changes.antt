-- What one visit of a cell does to the sheet, the attached list and the counts, by what was found there; for each pass (01, "Sheet": "No
-- candidate and edge refusals mark a hole", "Only local clears marks, both of the cell it attaches"). Only grow sets marks, fill sets and clears
-- none, local only clears. `proofs/Changes.antt` proves `Visits`. What follows for whole passes and lists of calls is in the crate `invariants`.
-- Definitions only.
use Rattle.std.specs.Prelude.{◌≡◌, Bool, true, false, not, ◌&&◌, ◌||◌, cond, List, [], ◌∷◌, ◌++◌, ℕ, ◌+◌, ◌<◌, length, Option, Some, Ok, Err}
use Rattle.sheet.specs.Cells.{place_of}
use Rattle.sheet.specs.Words.{bit_of, label_at, hole_at, ambiguous_at, SheetCell}
use Rattle.sheet.specs.declared.Cell.{Cell}
use Rattle.extension_common.specs.declared.NotAttached.{NotAttached}
use Rattle.extension_common.specs.TryCell.{TryCellResult}
use Rattle.passes.specs.Grow.{GrowState, grow_with}
use Rattle.passes.specs.Fill.{FillState, fill_with}
use Rattle.passes.specs.Local.{LocalState, local_with}
use Rattle.passes.specs.declared.Counts.{Counts}

-- ---- what was found

abbrev pub is_attached : TryCellResult → Bool
is_attached (Err e) = false
is_attached (Ok k) = true

abbrev pub is_no_candidate : TryCellResult → Bool
is_no_candidate (Err NotAttached.NoCandidates) = true
is_no_candidate (Err NotAttached.Ambiguous) = false
is_no_candidate (Err NotAttached.EdgeRejected) = false
is_no_candidate (Ok k) = false

abbrev pub is_ambiguous : TryCellResult → Bool
is_ambiguous (Err NotAttached.NoCandidates) = false
is_ambiguous (Err NotAttached.Ambiguous) = true
is_ambiguous (Err NotAttached.EdgeRejected) = false
is_ambiguous (Ok k) = false

abbrev pub is_edge_refusal : TryCellResult → Bool
is_edge_refusal (Err NotAttached.NoCandidates) = false
is_edge_refusal (Err NotAttached.Ambiguous) = false
is_edge_refusal (Err NotAttached.EdgeRejected) = true
is_edge_refusal (Ok k) = false

-- "No candidate and edge refusals mark a hole"; an ambiguous choice marks ambiguous
abbrev pub sets_hole : TryCellResult → Bool
sets_hole r = is_no_candidate r || is_edge_refusal r

abbrev pub sets_ambiguous : TryCellResult → Bool
sets_ambiguous r = is_ambiguous r

-- the label after the visit: the corner that is attached, or the label that stood
abbrev pub label_with : TryCellResult → Option ℕ → Option ℕ
label_with (Err e) l = l
label_with (Ok k) l = Some k

-- ---- marks and labels before and after

-- both marks of a cell are as they were
pub record SameMarks (before after : List ℕ) (c : Cell) : Type 0 where
  pub hole : hole_at after c ≡ hole_at before c
  pub ambiguous : ambiguous_at after c ≡ ambiguous_at before c

-- a cell has neither mark
pub record NoMarks (sheet : List ℕ) (c : Cell) : Type 0 where
  pub hole : hole_at sheet c ≡ false
  pub ambiguous : ambiguous_at sheet c ≡ false

-- grow's marks at a cell: those that stood, and the one that the finding sets
pub record MarksSet (r : TryCellResult) (before after : List ℕ) (c : Cell) : Type 0 where
  pub hole : hole_at after c ≡ (sets_hole r || hole_at before c)
  pub ambiguous : ambiguous_at after c ≡ (sets_ambiguous r || ambiguous_at before c)

-- local's marks at a cell: none where a corner is attached, and else those that stood
pub record MarksCleared (r : TryCellResult) (before after : List ℕ) (c : Cell) : Type 0 where
  pub hole : hole_at after c ≡ (not (is_attached r) && hole_at before c)
  pub ambiguous : ambiguous_at after c ≡ (not (is_attached r) && ambiguous_at before c)

-- a cell is as it was
pub record SameCell (before after : List ℕ) (c : Cell) : Type 0 where
  pub label : label_at after c ≡ label_at before c
  pub marks : SameMarks before after c

-- the sheet after a visit: the label of the visited cell is what was found, and every other cell is as it was
pub record Labels (r : TryCellResult) (before after : List ℕ) (c : Cell) : Type 0 where
  pub same_length : length after ≡ length before
  pub label : label_at after c ≡ label_with r (label_at before c)
  pub others : (d : Cell) → (d ≡ c → ⊥) → SameCell before after d

-- the attached list after a visit: the cell more, if a corner is attached
abbrev pub made_with : TryCellResult → Cell → List ℕ → List ℕ
made_with r c made = cond (is_attached r) (made ++ (place_of c ∷ [])) made

-- the counts after a visit: one more of what was found
pub record Counted (r : TryCellResult) (before after : Counts) : Type 0 where
  pub attached : after.attached ≡ before.attached + bit_of (is_attached r)
  pub no_candidate : after.rejected_no_candidate ≡ before.rejected_no_candidate + bit_of (is_no_candidate r)
  pub ambiguous : after.rejected_ambiguous ≡ before.rejected_ambiguous + bit_of (is_ambiguous r)
  pub edge : after.rejected_edge ≡ before.rejected_edge + bit_of (is_edge_refusal r)

-- ---- one visit of each pass

-- a cell of the sheet, and what was found there: a corner, if it is one, has a number that a word holds
pub record Tried (sheet : List ℕ) (c : Cell) (r : TryCellResult) : Type 0 where
  pub cell : SheetCell sheet c
  pub corner_fits : (k : ℕ) → r ≡ Ok k → k < 16383

-- grow labels the cell with what it found, sets the finding's mark and clears none, and counts the cell
pub record GrowVisit (r : TryCellResult) (c : Cell) (s after : GrowState) : Type 0 where
  pub marks : MarksSet r s.sheet after.sheet c
  pub labels : Labels r s.sheet after.sheet c
  pub made : after.made ≡ made_with r c s.made
  pub counted : Counted r s.counts after.counts

-- fill labels the cell with what it found, and changes no mark
pub record FillVisit (r : TryCellResult) (c : Cell) (s after : FillState) : Type 0 where
  pub marks : SameMarks s.sheet after.sheet c
  pub labels : Labels r s.sheet after.sheet c
  pub made : after.made ≡ made_with r c s.made

-- local labels the cell with what it found, clears both its marks if a corner is attached, and counts the cell
pub record LocalVisit (r : TryCellResult) (c : Cell) (s after : LocalState) : Type 0 where
  pub marks : MarksCleared r s.sheet after.sheet c
  pub labels : Labels r s.sheet after.sheet c
  pub made : after.made ≡ made_with r c s.made
  pub counted : Counted r s.counts after.counts

-- whatever is found at a cell
pub record Visits : Type 0 where
  pub grow : (c : Cell) (r : TryCellResult) (s : GrowState) → Tried s.sheet c r → GrowVisit r c s (grow_with c r s)
  pub fill : (c : Cell) (r : TryCellResult) (s : FillState) → Tried s.sheet c r → FillVisit r c s (fill_with c r s)
  pub local : (c : Cell) (r : TryCellResult) (s : LocalState) → Tried s.sheet c r → LocalVisit r c s (local_with c r s)
