-- A frame read from a text (document 01, "Frame and result"): "Byte length is tried first, as line 0; then lines from the top, each in order
-- 1 to 6. A missing line counts as the one after the last." Document 02, 3/14: the labels of two patches are joined "after all lines are read"; and
-- 6/14: an as line says who runs the passes behind it. Any bytes give one accepted frame or one refusal. Definitions only.
use Rattle.std.specs.Prelude.{Bool, true, false, ◌||◌, cond, List, [], ◌∷◌, ◌++◌, map, ℕ, suc, ◌+◌, ltb, nat_abs, length, Ok, Err}
use Rattle.sizes.specs.Sizes.{byte_limit}
use Rattle.refusal.specs.declared.Refusal.{Refusal}
use Rattle.roles.specs.declared.Role.{Role}
use Rattle.sheet.specs.Cells.{eq_z}
use Rattle.join.specs.Rule.{Placed}
use Rattle.join.specs.Join.{same_cell, Joined, apart, clash, off, union_of, joined}
use Rattle.line_form.specs.Forms.{Number}
use Rattle.line_form.specs.Lines.{lines_of}
use Rattle.frame_line.specs.Table.{turn_at, may_end}
use Rattle.frame_line.specs.Lines.{Line, kind_of, bits_at, Axes, axes_line_of, CornerLine, corner_line_of, LabelLine, label_line_of, ShadeLine, shade_line_of, PassLine, pass_line_of, LineRead, ill_formed, line, read_line}
use Rattle.frame_line.specs.Checks.{outside_line}
use Rattle.frame_line.specs.declared.Kind.{Kind}
use Rattle.frame_line.specs.declared.OpeningKind.{OpeningKind}
use Rattle.std.specs.Prelude.{Option, None, Some}
use Rattle.frame_check.specs.Checks.{checks_in_order, over_limit, twice_of, forbidden}
use Rattle.arguments.specs.Arguments.{Checked}

-- a frame is its lines, in order
abbrev pub Frame : Type 0
Frame = List Line

-- ---- what a frame says, in parts

-- "cell, axes (of i, then of j), band"; floats as their bits
pub record Opening : Type 0 where
  pub cell : ℕ
  pub axes : Axes
  pub band : ℕ

-- a pass line, bare or full, with the role that runs it
pub record RoledPass : Type 0 where
  pub role : Role
  pub pass : PassLine

-- corners, labels, shades and passes in the order of their lines; whether the patch line stands, and the labels of the second set, which it opens;
-- and the role that holds
pub record Parts : Type 0 where
  pub opening : Opening
  pub corners : List CornerLine
  pub labels : List LabelLine
  pub patched : Bool
  pub second : List LabelLine
  pub shades : List ShadeLine
  pub role : Role
  pub passes : List RoledPass

unfoldable pub opened : OpeningKind → List Number → Opening → Opening
opened OpeningKind.Frame ns o = o
opened OpeningKind.CellSize ns o = record { cell = bits_at 0 ns; axes = o.axes; band = o.band }
opened OpeningKind.Axes ns o = record { cell = o.cell; axes = axes_line_of ns; band = o.band }
opened OpeningKind.Band ns o = record { cell = o.cell; axes = o.axes; band = bits_at 0 ns }

-- one part is changed, and the others are as they were
abbrev pub with_opening : Opening → Parts → Parts
with_opening o p =
    record {
      opening = o;
      corners = p.corners;
      labels = p.labels;
      patched = p.patched;
      second = p.second;
      shades = p.shades;
      role = p.role;
      passes = p.passes;
    }

abbrev pub with_corner : CornerLine → Parts → Parts
with_corner c p =
    record {
      opening = p.opening;
      corners = p.corners ++ (c ∷ []);
      labels = p.labels;
      patched = p.patched;
      second = p.second;
      shades = p.shades;
      role = p.role;
      passes = p.passes;
    }

-- a label is of the set that is open: of the second once the patch line stands
abbrev pub with_label : LabelLine → Parts → Parts
with_label l p =
    record {
      opening = p.opening;
      corners = p.corners;
      labels = cond p.patched p.labels (p.labels ++ (l ∷ []));
      patched = p.patched;
      second = cond p.patched (p.second ++ (l ∷ [])) p.second;
      shades = p.shades;
      role = p.role;
      passes = p.passes;
    }

abbrev pub with_patch : Parts → Parts
with_patch p =
    record {
      opening = p.opening;
      corners = p.corners;
      labels = p.labels;
      patched = true;
      second = p.second;
      shades = p.shades;
      role = p.role;
      passes = p.passes;
    }

abbrev pub with_shade : ShadeLine → Parts → Parts
with_shade s p =
    record {
      opening = p.opening;
      corners = p.corners;
      labels = p.labels;
      patched = p.patched;
      second = p.second;
      shades = p.shades ++ (s ∷ []);
      role = p.role;
      passes = p.passes;
    }

-- "holds until the next such line"
abbrev pub with_role : Role → Parts → Parts
with_role r p =
    record {
      opening = p.opening;
      corners = p.corners;
      labels = p.labels;
      patched = p.patched;
      second = p.second;
      shades = p.shades;
      role = r;
      passes = p.passes;
    }

-- a pass is run by the role that holds
abbrev pub with_pass : PassLine → Parts → Parts
with_pass q p =
    record {
      opening = p.opening;
      corners = p.corners;
      labels = p.labels;
      patched = p.patched;
      second = p.second;
      shades = p.shades;
      role = p.role;
      passes = p.passes ++ (record { role = p.role; pass = q } ∷ []);
    }

-- the part that a line of a kind changes: 0 the opening, 1 the corners, 2 the labels of the open set, 3 the shades, 4 the passes, 5 which set is open,
-- 6 the role that holds
abbrev pub part_of : Kind → ℕ
part_of (Kind.Opening o) = 0
part_of Kind.Corner = 1
part_of Kind.Label = 2
part_of Kind.Patch = 5
part_of Kind.Shade = 3
part_of (Kind.As r) = 6
part_of (Kind.Pass p) = 4

-- what a line of a kind adds: the one part that it changes
unfoldable pub adding : Kind → List Number → Parts → Parts
adding (Kind.Opening k) ns p = with_opening (opened k ns p.opening) p
adding Kind.Corner ns p = with_corner (corner_line_of ns) p
adding Kind.Label ns p = with_label (label_line_of ns) p
adding Kind.Patch ns p = with_patch p
adding Kind.Shade ns p = with_shade (shade_line_of ns) p
adding (Kind.As r) ns p = with_role r p
adding (Kind.Pass k) ns p = with_pass (pass_line_of k ns) p

abbrev pub added : Parts → Line → Parts
added p l = adding (kind_of l) l.numbers p

unfoldable pub parts_from : Parts → List Line → Parts
parts_from p [] = p
parts_from p (l ∷ ls) = parts_from (added p l) ls

-- before the first line; "without one it is plant"
abbrev pub no_parts : Parts
no_parts =
    record {
      opening = record { cell = 0; axes = record { ix = 0; iy = 0; jx = 0; jy = 0 }; band = 0 };
      corners = [];
      labels = [];
      patched = false;
      second = [];
      shades = [];
      role = Role.Plant;
      passes = [];
    }

unfoldable pub parts_of : Frame → Parts
parts_of f = parts_from no_parts f

-- ---- 6, doubled: "cell or corner labelled twice", and "a second shade 6"

abbrev pub collide : LabelLine → LabelLine → Bool
collide a b = same_cell a.cell b.cell || eq_z a.corner b.corner

-- some element of a list passes a test
unfoldable pub some_of : {A : Type 0} → (A → Bool) → List A → Bool
some_of f [] = false
some_of f (a ∷ rest) = f a || some_of f rest

-- some label of the list has the cell or the corner of this one
abbrev pub doubled : List LabelLine → LabelLine → Bool
doubled ls l = some_of (λ m. collide m l) ls

-- "5 and 6 are tried inside each set alone": the labels of the open set
abbrev pub open_labels : Parts → List LabelLine
open_labels p = cond p.patched p.second p.labels

-- some shade of the list has the corner of this one
abbrev pub shaded_before : List ShadeLine → ShadeLine → Bool
shaded_before ss s = some_of (λ t. eq_z t.corner s.corner) ss

-- ---- the checks of a line in its turn, with what the lines before it said

-- some number of it has the refusal r; a line of its kind is one too many; it is doubled; it is not for the role that holds
abbrev pub outside_in : Parts → Line → ℕ → Bool
outside_in p l r = outside_line r (length p.corners) l

abbrev pub over_in : Parts → Kind → Bool
over_in p kind = over_limit (length p.corners) (length p.passes) kind

abbrev pub twice_in : Parts → Kind → List Number → Bool
twice_in p kind ns = twice_of kind (doubled (open_labels p) (label_line_of ns)) (shaded_before p.shades (shade_line_of ns))

abbrev pub forbidden_in : Parts → Kind → Bool
forbidden_in p kind = forbidden p.role kind

unfoldable pub checked_line : Parts → Line → Checked
checked_line p l = checks_in_order (outside_in p l) (over_in p (kind_of l)) (twice_in p (kind_of l) l.numbers) (forbidden_in p (kind_of l))

-- ---- the join (document 02, 3/14)

-- a label line as the join has it
abbrev pub placed : LabelLine → Placed
placed l = record { corner = nat_abs l.corner; cell = l.cell }

abbrev pub first_set : Parts → List Placed
first_set p = map placed p.labels

abbrev pub second_set : Parts → List Placed
second_set p = map placed p.second

-- "The join shifts the second set"; without a patch line the first set is all that there is
abbrev pub join_if : Bool → List Placed → List Placed → Joined
join_if false first second = union_of first
join_if true first second = joined first second

unfoldable pub join_of : Parts → Joined
join_of p = join_if p.patched (first_set p) (second_set p)

-- "the union, which then is the given labels"
abbrev pub labels_in : Joined → List Placed
labels_in apart = []
labels_in clash = []
labels_in off = []
labels_in (union_of u) = u

unfoldable pub given_of : Parts → List Placed
given_of p = labels_in (join_of p)

-- the number of the patch line, which stands behind the first four lines, the corners and the labels of the first set; crate frame_laws shows that it
-- is the line of the text that reads `(patch)`
abbrev pub patch_line : Parts → ℕ
patch_line p = 5 + length p.corners + length p.labels

-- ---- a whole frame

-- an accepted frame, or one refusal with its line
pub data FrameRead : Type 0 where
  refused_at : Refusal → ℕ → FrameRead
  accepted : Frame → FrameRead

-- what a line leads to: a refusal, or the stage and the frame after it
pub data Step : Type 0 where
  stopped : Refusal → Step
  onward : ℕ → Frame → Step

-- 1, bent: "line missing, out of order or ill-formed"; then the other checks
abbrev pub step_by : Option ℕ → Checked → Frame → Step
step_by None checked f = stopped Refusal.Malformed
step_by (Some stage) (Ok tt) f = onward stage f
step_by (Some stage) (Err r) f = stopped r

abbrev pub step_with : ℕ → Frame → LineRead → Step
step_with stage f ill_formed = stopped Refusal.Malformed
step_with stage f (line l) = step_by (turn_at stage l.row) (checked_line (parts_of f) l) (f ++ (l ∷ []))

-- one line of text
unfoldable pub step_line : ℕ → Frame → List ℕ → Step
step_line stage f text = step_with stage f (read_line text)

-- "Checks, after all lines are read, reported at the patch line: 8 if no corner is in both sets, 9 if no shift gives every shared corner one cell and
-- every cell one corner, then 4 if that shift takes a label off the sheet"
abbrev pub finish_by : Joined → Frame → FrameRead
finish_by apart f = refused_at Refusal.NoSharedCorner (patch_line (parts_of f))
finish_by clash f = refused_at Refusal.PatchesClash (patch_line (parts_of f))
finish_by off f = refused_at Refusal.OffSheet (patch_line (parts_of f))
finish_by (union_of u) f = accepted f

-- what is done with a frame all of whose lines are read
unfoldable pub finish : Frame → FrameRead
finish f = finish_by (join_of (parts_of f)) f

-- after the last line: "The first four lines must stand", and behind an as line a pass; a missing one is number 1
unfoldable pub at_end : ℕ → ℕ → Frame → FrameRead
at_end n stage f = cond (may_end stage) (finish f) (refused_at Refusal.Malformed n)

abbrev pub going : ℕ → Step → (ℕ → Frame → FrameRead) → FrameRead
going n (stopped r) rest = refused_at r n
going n (onward stage f) rest = rest stage f

-- the lines from number n on
unfoldable pub read_lines : ℕ → ℕ → Frame → List (List ℕ) → FrameRead
read_lines n stage f [] = at_end n stage f
read_lines n stage f (text ∷ texts) = going n (step_line stage f text) (λ stage' f'. read_lines (suc n) stage' f' texts)

-- "At most 65,536 bytes": byte length first, as line 0
unfoldable pub read_frame : List ℕ → FrameRead
read_frame text = cond (ltb byte_limit (length text)) (refused_at Refusal.OverLimit 0) (read_lines 1 0 [] (lines_of text))
