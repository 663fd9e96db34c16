-- What every library call checks of what it is lent (01, "Frame and result", the table of refusals): "The library tries
-- 7, 2, 3, 5, 6". Each of the five has a test that is true where the call is refused. Definitions only.
use Rattle.std.specs.Prelude.{Bool, true, false, not, ◌||◌, List, ℕ, ◌*◌, ltb, leb, length, get_or, Float, Result, Ok, Err, Option, Some, None}
use Rattle.sizes.specs.Sizes.{place_count, corner_limit}
use Rattle.refusal.specs.declared.Refusal.{Refusal}
use Rattle.binary32.specs.Ranges.{in_range}
use Rattle.binary32.specs.declared.ranges.Quantity.{Quantity}
use Rattle.sheet.specs.Words.{label_of}
use Rattle.sheet.specs.Corners.{CornerLists, corner_lists, corner_of}
use Rattle.sheet.specs.declared.Corner.{Corner}
use Rattle.labels.specs.Labelled.{any_below}
use Rattle.labels.specs.Kept.{box_differs}
use Rattle.labels.specs.Used.{names}
use Rattle.labels.specs.declared.kept.KeptBox.{KeptBox}
use Rattle.predict.specs.declared.Vector.{Vector}
use Rattle.arguments.specs.declared.GrowParams.{GrowParams}
use Rattle.arguments.specs.declared.FillParams.{FillParams}
use Rattle.arguments.specs.declared.LocalExtensionParams.{LocalExtensionParams}
use Rattle.arguments.specs.declared.Pass.{Pass}
use Rattle.arguments.specs.declared.Settings.{Settings}

-- what a call is lent: the corners, their shades, the sheet, its label box as it is kept, and the lengths of the queue and the attached list
pub record Lent : Type 0 where
  pub corners : CornerLists
  pub shades : List ℕ
  pub sheet : List ℕ
  pub around : KeptBox
  pub queue : ℕ
  pub attached : ℕ

abbrev pub lent : List Float → List Float → List Float → List ℕ → List ℕ → KeptBox → ℕ → ℕ → Lent
lent xs ys pitches shades sheet around queue attached =
    record { corners = corner_lists xs ys pitches; shades = shades; sheet = sheet; around = around; queue = queue; attached = attached }

-- the number of corners, n below: as many as there are xs
abbrev pub corner_count : Lent → ℕ
corner_count l = length l.corners.xs

-- ---- 7, short: "lent buffer too short (library only)"

-- "4 queue places a corner"; fill and local are lent no queue
unfoldable pub queue_needed : Pass → ℕ → ℕ
queue_needed (Pass.Grow p) n = 4 * n
queue_needed (Pass.Fill p) n = 0
queue_needed (Pass.Local p) n = 0

-- "Needed are 16,384 sheet places, 4 queue places a corner, one attached place a corner", and each corner's y, pitch and shade
unfoldable pub too_short : Lent → Pass → Bool
too_short l pass =
    ltb (length l.corners.ys) (corner_count l)
    || (ltb (length l.corners.pitches) (corner_count l)
    || (ltb (length l.shades) (corner_count l)
    || (ltb (length l.sheet) place_count
    || (ltb l.queue (queue_needed pass (corner_count l))
    || ltb l.attached (corner_count l)))))

-- ---- 2, overfull: "a limit on .. corners .. passed"

-- "At most .. 1,024 corners"
unfoldable pub over_limit : Lent → Bool
over_limit l = ltb corner_limit (corner_count l)

-- ---- 3, wild: "number non-finite or out of range"

-- a float that is not in the range of its quantity; no float that is not finite is in any
unfoldable pub outside : Quantity → Float → Bool
outside q x = not (in_range q x)

-- a corner whose x, y or pitch is out of range
unfoldable pub corner_outside : Corner → Bool
corner_outside c = outside Quantity.Position c.position.x || (outside Quantity.Position c.position.y || outside Quantity.Pitch c.pitch)

-- "a k other than 0 or 1 .. lent to a call 3" (document 02, 1/14): a byte that is neither no shade nor one of the two kinds
unfoldable pub shade_outside : ℕ → Bool
shade_outside b = ltb 2 b

-- the corner k is such a one, or its byte is
unfoldable pub outside_at : CornerLists → List ℕ → ℕ → Bool
outside_at l shades k = corner_outside (corner_of l k) || shade_outside (get_or shades k 0)

-- some corner of the n is one
unfoldable pub some_corner_outside : CornerLists → List ℕ → Bool
some_corner_outside l shades = any_below (length l.xs) (outside_at l shades)

-- an axis with a part out of range
unfoldable pub axis_outside : Vector → Bool
axis_outside v = outside Quantity.AxisPart v.x || outside Quantity.AxisPart v.y

-- the cell size, an axis or the band out of range
unfoldable pub settings_outside : Settings → Bool
settings_outside s =
    outside Quantity.CellSize s.grid.cell_size
    || (axis_outside s.grid.axis_i
    || (axis_outside s.grid.axis_j
    || outside Quantity.Band s.edge_length_tol))

-- grow's search, factor or boundary out of range
unfoldable pub grow_outside : GrowParams → Bool
grow_outside p =
    outside Quantity.Multiple p.attach_search_rel
    || (outside Quantity.Factor p.attach_ambiguity_factor
    || outside Quantity.Multiple p.boundary_search_factor)

-- fill's search, factor or rounds out of range; "rounds 0 to 64"
unfoldable pub fill_outside : FillParams → Bool
fill_outside p =
    outside Quantity.Multiple p.attach_search_rel
    || (outside Quantity.Factor p.attach_ambiguity_factor
    || ltb 64 p.max_iters)

-- local's search, factor, rounds, residual or depth out of range; "depth 0 to 4"
unfoldable pub local_outside : LocalExtensionParams → Bool
local_outside p =
    outside Quantity.Multiple p.search_rel
    || (outside Quantity.Factor p.ambiguity_factor
    || (ltb 64 p.max_iters
    || (outside Quantity.Multiple p.max_residual_rel
    || ltb 4 p.extend_depth)))

-- one of the pass's own numbers out of range
unfoldable pub pass_outside : Pass → Bool
pass_outside (Pass.Grow p) = grow_outside p
pass_outside (Pass.Fill p) = fill_outside p
pass_outside (Pass.Local p) = local_outside p

-- any number of the call out of range, or, "a library call handed a sheet and a box that differs from it gets 3" (document 02, 5/14)
unfoldable pub out_of_range : Lent → Settings → Pass → Bool
out_of_range l settings pass =
    some_corner_outside l.corners l.shades
    || (settings_outside settings
    || (pass_outside pass
    || box_differs l.around l.sheet))

-- ---- 5, stranger: "label's corner not given"

-- a corner number from n on
unfoldable pub unknown : ℕ → Option ℕ → Bool
unknown n None = false
unknown n (Some k) = leb n k

-- the place p holds one
unfoldable pub unknown_at : ℕ → List ℕ → ℕ → Bool
unknown_at n sheet p = unknown n (label_of (get_or sheet p 0))

-- some place of the sheet holds one
unfoldable pub unknown_corner : ℕ → List ℕ → Bool
unknown_corner n sheet = any_below place_count (unknown_at n sheet)

-- ---- 6, doubled: "cell or corner labelled twice"; a place holds one corner at most, so a cell never is

-- both labels name a corner, and the same one
unfoldable pub same_corner : Option ℕ → Option ℕ → Bool
same_corner None other = false
same_corner (Some k) other = names k other

-- some place before q holds the corner that q holds
unfoldable pub doubled_at : List ℕ → ℕ → Bool
doubled_at sheet q = any_below q (λ p. same_corner (label_of (get_or sheet q 0)) (label_of (get_or sheet p 0)))

-- some corner stands on two places of the sheet
unfoldable pub doubled_corner : List ℕ → Bool
doubled_corner sheet = any_below place_count (doubled_at sheet)

-- ---- "The library tries 7, 2, 3, 5, 6"

-- what the check of a call's arguments finds: nothing, or why the call is refused
abbrev pub Checked : Type 0
Checked = Result (Unit {0}) Refusal

abbrev pub refused_if : Bool → Refusal → Checked → Checked
refused_if true refusal rest = Err refusal
refused_if false refusal rest = rest

unfoldable pub checked : Lent → Settings → Pass → Checked
checked l settings pass =
    refused_if (too_short l pass) Refusal.BufferTooShort
    (refused_if (over_limit l) Refusal.OverLimit
    (refused_if (out_of_range l settings pass) Refusal.OutOfRange
    (refused_if (unknown_corner (corner_count l) l.sheet) Refusal.UnknownCorner
    (refused_if (doubled_corner l.sheet) Refusal.Duplicate (Ok tt)))))
