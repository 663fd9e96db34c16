-- What is known of the arguments of a call that is not refused, part by part; and what it is that a corner stands on two
-- places. Definitions only.
use Rattle.std.specs.Prelude.{◌≡◌, true, List, ℕ, ◌<◌, ◌≤◌, length, get_or, Some}
use Rattle.sizes.specs.Sizes.{place_count, corner_limit}
use Rattle.binary32.specs.Ranges.{in_range}
use Rattle.binary32.specs.declared.ranges.Quantity.{Quantity}
use Rattle.sheet.specs.Words.{label_of}
use Rattle.sheet.specs.Corners.{corner_of, AllListed, Given}
use Rattle.sheet.specs.declared.Corner.{Corner}
use Rattle.labels.specs.Box.{box_of}
use Rattle.labels.specs.Kept.{around_of}
use Rattle.labels.specs.Used.{OneCell}
use Rattle.predict.specs.declared.Vector.{Vector}
use Rattle.arguments.specs.Arguments.{Lent, corner_count, queue_needed}
use Rattle.arguments.specs.declared.GrowParams.{GrowParams}
use Rattle.arguments.specs.declared.FillParams.{FillParams}
use Rattle.arguments.specs.declared.LocalExtensionParams.{LocalExtensionParams}
use Rattle.arguments.specs.declared.Pass.{Pass}
use Rattle.arguments.specs.declared.Settings.{Settings}

-- ---- numbers in their ranges

pub record CornerInside (c : Corner) : Type 0 where
  pub x : in_range Quantity.Position c.position.x ≡ true
  pub y : in_range Quantity.Position c.position.y ≡ true
  pub pitch : in_range Quantity.Pitch c.pitch ≡ true

pub record AxisInside (v : Vector) : Type 0 where
  pub x : in_range Quantity.AxisPart v.x ≡ true
  pub y : in_range Quantity.AxisPart v.y ≡ true

pub record SettingsInside (s : Settings) : Type 0 where
  pub cell_size : in_range Quantity.CellSize s.grid.cell_size ≡ true
  pub axis_i : AxisInside s.grid.axis_i
  pub axis_j : AxisInside s.grid.axis_j
  pub band : in_range Quantity.Band s.edge_length_tol ≡ true

pub record GrowInside (p : GrowParams) : Type 0 where
  pub search : in_range Quantity.Multiple p.attach_search_rel ≡ true
  pub factor : in_range Quantity.Factor p.attach_ambiguity_factor ≡ true
  pub boundary : in_range Quantity.Multiple p.boundary_search_factor ≡ true

pub record FillInside (p : FillParams) : Type 0 where
  pub search : in_range Quantity.Multiple p.attach_search_rel ≡ true
  pub factor : in_range Quantity.Factor p.attach_ambiguity_factor ≡ true
  pub rounds : p.max_iters ≤ 64

pub record LocalInside (p : LocalExtensionParams) : Type 0 where
  pub search : in_range Quantity.Multiple p.search_rel ≡ true
  pub factor : in_range Quantity.Factor p.ambiguity_factor ≡ true
  pub rounds : p.max_iters ≤ 64
  pub residual : in_range Quantity.Multiple p.max_residual_rel ≡ true
  pub depth : p.extend_depth ≤ 4

abbrev pub PassInside : Pass → Type 0
PassInside (Pass.Grow p) = GrowInside p
PassInside (Pass.Fill p) = FillInside p
PassInside (Pass.Local p) = LocalInside p

-- ---- the label box

-- the box that is handed with a sheet is what a search of the sheet finds
abbrev pub BoxRight : Lent → Type 0
BoxRight l = around_of l.around ≡ box_of l.sheet

-- ---- a call that is not refused

-- the buffers are long enough, the corners at most 1,024, all numbers in their ranges, those of the shades too, the kept box is what a search of the
-- sheet finds, and the sheet names given corners only, each at one place
pub record Accepted (l : Lent) (settings : Settings) (pass : Pass) : Type 0 where
  pub queue_long : queue_needed pass (corner_count l) ≤ l.queue
  pub attached_long : corner_count l ≤ l.attached
  pub shades_long : corner_count l ≤ length l.shades
  pub few : corner_count l ≤ corner_limit
  pub corners_inside : (k : ℕ) → k < corner_count l → CornerInside (corner_of l.corners k)
  pub shades_inside : (k : ℕ) → k < corner_count l → get_or l.shades k 0 ≤ 2
  pub settings_inside : SettingsInside settings
  pub pass_inside : PassInside pass
  pub box_right : BoxRight l
  pub listed : AllListed l.corners
  pub given : Given (corner_count l) l.sheet
  pub one_cell : OneCell l.sheet

-- the buffers alone: as long as 7 needs them
pub record LongEnough (l : Lent) (pass : Pass) : Type 0 where
  pub ys_long : corner_count l ≤ length l.corners.ys
  pub pitches_long : corner_count l ≤ length l.corners.pitches
  pub shades_long : corner_count l ≤ length l.shades
  pub sheet_long : place_count ≤ length l.sheet
  pub queue_long : queue_needed pass (corner_count l) ≤ l.queue
  pub attached_long : corner_count l ≤ l.attached

-- ---- labels

-- the sheet names corners below n only
pub record Known (n : ℕ) (sheet : List ℕ) : Type 0 where
  pub known : (p k : ℕ) → p < place_count → label_of (get_or sheet p 0) ≡ Some k → k < n

-- a corner that stands on two places of the sheet
pub record OnTwoPlaces (sheet : List ℕ) : Type 0 where
  pub first : ℕ
  pub second : ℕ
  pub corner : ℕ
  pub earlier : first < second
  pub below : second < place_count
  pub first_holds : label_of (get_or sheet first 0) ≡ Some corner
  pub second_holds : label_of (get_or sheet second 0) ≡ Some corner
