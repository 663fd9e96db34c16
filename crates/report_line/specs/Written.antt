-- What the line writers ask: numbers that a line of a result can have, and room for the line. What they leave is line_form's `Wrote`: the line at the
-- front of the part, and the rest untouched. Definitions only.
use Rattle.std.specs.Prelude.{◌≡◌, Bool, true, cond, List, [], ◌∷◌, ℕ, ◌≤◌, ◌<◌, pos, length, get_or, Float, Option, None, Some}
use Rattle.binary32.specs.Ranges.{is_finite}
use Rattle.sheet.specs.Cells.{OnSheet, cell_of}
use Rattle.sheet.specs.declared.Cell.{Cell}
use Rattle.line_form.specs.Forms.{whole, printed}
use Rattle.line_form.specs.Written.{unheld_whole, unheld}
use Rattle.passes.specs.declared.Counts.{Counts}
use Rattle.passes.specs.declared.GrowStats.{GrowStats}
use Rattle.passes.specs.declared.FillStats.{FillStats}
use Rattle.passes.specs.declared.LocalStats.{LocalStats}
use Rattle.passes.specs.declared.PassStats.{PassStats}
use Rattle.roles.specs.declared.Role.{Role}
use Rattle.role_counts.specs.RoleCounts.{AtMost}
use Rattle.role_counts.specs.declared.RoleCounts.{RoleCounts}
use Rattle.sizes.specs.Sizes.{place_count}
use Rattle.report_line.specs.Sizes.{sheet_lines}
use Rattle.report_line.specs.Result.{grow_line, fill_line, local_line_with, local_line, unmatched_line, local_lines, role_line, cell_numbers, label_line}

-- the largest number that a line can have: 32 bits hold 1,000,000 more
abbrev pub largest_held : ℕ
largest_held = 4293967295

-- counts that a line can have
pub record Few (c : Counts) : Type 0 where
  pub attached : c.attached ≤ largest_held
  pub no_candidate : c.rejected_no_candidate ≤ largest_held
  pub ambiguous : c.rejected_ambiguous ≤ largest_held
  pub edge : c.rejected_edge ≤ largest_held

-- four words that hold counts
pub record CountsHeld (c : Counts) (words : List ℕ) : Type 0 where
  pub attached : unheld_whole (get_or words 0 0) ≡ pos c.attached
  pub no_candidate : unheld_whole (get_or words 1 0) ≡ pos c.rejected_no_candidate
  pub ambiguous : unheld_whole (get_or words 2 0) ≡ pos c.rejected_ambiguous
  pub edge : unheld_whole (get_or words 3 0) ≡ pos c.rejected_edge

-- ---- pass lines

pub record GrowAsked (s : GrowStats) (out : List ℕ) : Type 0 where
  pub few : Few s.counts
  pub room : length (grow_line s) ≤ length out

pub record FillAsked (s : FillStats) (out : List ℕ) : Type 0 where
  pub few : s.added ≤ largest_held
  pub rounds : s.iterations ≤ largest_held
  pub room : length (fill_line s) ≤ length out

-- a local line by its residual
abbrev pub bare_local_text : LocalStats → List ℕ
bare_local_text s = local_line_with None s

abbrev pub full_local_text : LocalStats → Float → List ℕ
full_local_text s x = local_line_with (Some x) s

pub record BareAsked (s : LocalStats) (out : List ℕ) : Type 0 where
  pub few : Few s.counts
  pub rounds : s.iterations ≤ largest_held
  pub room : length (bare_local_text s) ≤ length out

pub record FullAsked (s : LocalStats) (x : Float) (out : List ℕ) : Type 0 where
  pub few : Few s.counts
  pub rounds : s.iterations ≤ largest_held
  pub finite : is_finite x ≡ true
  pub room : length (full_local_text s x) ≤ length out

pub record LocalLineAsked (s : LocalStats) (out : List ℕ) : Type 0 where
  pub few : Few s.counts
  pub rounds : s.iterations ≤ largest_held
  pub finite : (x : Float) → s.residual ≡ Some x → is_finite x ≡ true
  pub room : length (local_line s) ≤ length out

pub record UnmatchedAsked (u : Option ℕ) (out : List ℕ) : Type 0 where
  pub held : (n : ℕ) → u ≡ Some n → n ≤ largest_held
  pub room : length (unmatched_line u) ≤ length out

-- local's line and that of unmatched
pub record LocalAsked (s : LocalStats) (out : List ℕ) : Type 0 where
  pub few : Few s.counts
  pub rounds : s.iterations ≤ largest_held
  pub finite : (x : Float) → s.residual ≡ Some x → is_finite x ≡ true
  pub unmatched : (n : ℕ) → s.unmatched ≡ Some n → n ≤ largest_held
  pub room : length (local_lines s) ≤ length out

-- the line of what a pass answers
abbrev pub StatsAsked : PassStats → List ℕ → Type 0
StatsAsked (PassStats.Grow s) out = GrowAsked s out
StatsAsked (PassStats.Fill s) out = FillAsked s out
StatsAsked (PassStats.Local s) out = LocalAsked s out

-- the line of a role: sums that a line can have
pub record RoleAsked (r : Role) (c : RoleCounts) (out : List ℕ) : Type 0 where
  pub few : AtMost largest_held c
  pub room : length (role_line r c) ≤ length out

-- ---- the sheet's lines

abbrev pub cell_text : Cell → ℕ → List ℕ
cell_text c k = label_line c (Some k)

-- a corner that a word can name
pub record CornerAsked (c : Cell) (k : ℕ) (out : List ℕ) : Type 0 where
  pub on : OnSheet c
  pub small : k < 16384
  pub room : length (cell_text c k) ≤ length out

-- a place of the sheet
pub record OnPlaces (sheet : List ℕ) (place : ℕ) : Type 0 where
  pub there : place_count ≤ length sheet
  pub below : place < place_count

-- the line of a place's mark, by its form; nothing where it has none
abbrev pub mark_line : Bool → List ℕ → ℕ → List ℕ
mark_line marked form p = cond marked (printed form (cell_numbers (cell_of p) [])) []

-- a form that takes two integers
pub record TwoWholes (form : List ℕ) : Type 0 where
  pub takes : (a b : ℕ) → unheld form (a ∷ b ∷ []) ≡ whole (unheld_whole a) ∷ whole (unheld_whole b) ∷ []

-- a place of the sheet, a form for its mark, and room for the line
pub record MarkAsked (marked : Bool) (form : List ℕ) (place : ℕ) (out : List ℕ) : Type 0 where
  pub below : place < place_count
  pub two : TwoWholes form
  pub room : length (mark_line marked form place) ≤ length out

-- a line of the sheet: of cells, holes or ambiguous cells
pub record OnLines (sheet : List ℕ) (k : ℕ) : Type 0 where
  pub there : place_count ≤ length sheet
  pub below : k < sheet_lines

-- and room for the line of it
pub record PlaceAsked (sheet : List ℕ) (place : ℕ) (line out : List ℕ) : Type 0 where
  pub on : OnPlaces sheet place
  pub room : length line ≤ length out

pub record LineAsked (sheet : List ℕ) (k : ℕ) (line out : List ℕ) : Type 0 where
  pub on : OnLines sheet k
  pub room : length line ≤ length out
