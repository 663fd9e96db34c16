-- The checks of a line that is in its turn (document 01, the table of refusals): "each in order 1 to 6", and then document 02, 6/14: "10, not yours,
-- at the pass line, after number 3". Definitions only.
use Rattle.std.specs.Prelude.{◌≡◌, Bool, true, false, not, ◌||◌, List, ℕ, ◌<◌, leb, eqb, get_or, take, replicate, Ok}
use Rattle.std.specs.Float.{binary32}
use Rattle.std.specs.Float.Ieee.{of_bits}
use Rattle.std.specs.List.{list_any}
use Rattle.sizes.specs.Sizes.{corner_limit, pass_limit, place_count, all_pass_words}
use Rattle.refusal.specs.declared.Refusal.{Refusal}
use Rattle.roles.specs.declared.Role.{Role}
use Rattle.sheet.specs.Cells.{OnSheet, place_of}
use Rattle.join_sheet.specs.declared.SecondLabel.{SecondLabel}
use Rattle.arguments.specs.Arguments.{Checked, refused_if}
use Rattle.frame_line.specs.Table.{kind_at}
use Rattle.frame_line.specs.Held.{label_in, shade_in, outside_held}
use Rattle.frame_line.specs.declared.Kind.{Kind}
use Rattle.frame_line.specs.declared.PassKind.{PassKind}
use Rattle.frame_line.specs.declared.HeldLabel.{HeldLabel}
use Rattle.frame_line.specs.declared.HeldLine.{HeldLine}
use Rattle.frame_line.specs.declared.HeldShade.{HeldShade}
use Rattle.frame_check.specs.declared.Held.{Held}

-- by what is said of a line: `outside r`, some number of it has the refusal r; `over`, a limit is passed; `twice`, it is doubled;
-- `forbidden`, its role may not run it
unfoldable pub checks_in_order : (ℕ → Bool) → Bool → Bool → Bool → Checked
checks_in_order outside over twice forbidden =
    refused_if (outside 1) Refusal.Malformed
    (refused_if over Refusal.OverLimit
    (refused_if (outside 3) Refusal.OutOfRange
    (refused_if (outside 4) Refusal.OffSheet
    (refused_if (outside 5) Refusal.UnknownCorner
    (refused_if twice Refusal.Duplicate
    (refused_if forbidden Refusal.NotPermitted (Ok tt)))))))

-- 2, overfull ("At most .. 1,024 corners, 16 passes"), n corners and m passes standing already
unfoldable pub over_limit : ℕ → ℕ → Kind → Bool
over_limit n m (Kind.Opening o) = false
over_limit n m Kind.Corner = leb corner_limit n
over_limit n m Kind.Label = false
over_limit n m Kind.Patch = false
over_limit n m Kind.Shade = false
over_limit n m (Kind.As r) = false
over_limit n m (Kind.Pass p) = leb pass_limit m

-- 6, doubled, by the kind of the line: a label asks whether it is doubled, "cell or corner labelled twice", and a shade whether it is, "a second
-- shade 6"
unfoldable pub twice_of : Kind → Bool → Bool → Bool
twice_of (Kind.Opening o) label shade = false
twice_of Kind.Corner label shade = false
twice_of Kind.Label label shade = label
twice_of Kind.Patch label shade = false
twice_of Kind.Shade label shade = shade
twice_of (Kind.As r) label shade = false
twice_of (Kind.Pass p) label shade = false

-- ---- 10, not yours

-- a grow, a fill, and the bare one of either
abbrev pub is_grow : PassKind → Bool
is_grow PassKind.BareGrow = true
is_grow PassKind.Grow = true
is_grow PassKind.BareFill = false
is_grow PassKind.Fill = false
is_grow PassKind.Local = false

abbrev pub is_fill : PassKind → Bool
is_fill PassKind.BareGrow = false
is_fill PassKind.Grow = false
is_fill PassKind.BareFill = true
is_fill PassKind.Fill = true
is_fill PassKind.Local = false

abbrev pub is_bare : PassKind → Bool
is_bare PassKind.BareGrow = true
is_bare PassKind.Grow = false
is_bare PassKind.BareFill = true
is_bare PassKind.Fill = false
is_bare PassKind.Local = false

-- "A dealer may run bare grow and bare fill; a depot any grow and fill; the plant all." Bare is the line `(grow)` or `(fill)`, and no full one with
-- its numbers
unfoldable pub may_run : Role → PassKind → Bool
may_run Role.Plant p = true
may_run Role.Depot p = is_grow p || is_fill p
may_run Role.Dealer p = is_bare p

-- "10, not yours, at the pass line": of the lines a pass alone asks who runs it, with the role that holds
unfoldable pub forbidden : Role → Kind → Bool
forbidden r (Kind.Opening o) = false
forbidden r Kind.Corner = false
forbidden r Kind.Label = false
forbidden r Kind.Patch = false
forbidden r Kind.Shade = false
forbidden r (Kind.As s) = false
forbidden r (Kind.Pass p) = not (may_run r p)

-- ---- before the first line

abbrev pub nothing_held : Held
nothing_held =
    record {
      xs = replicate corner_limit (of_bits binary32 0);
      ys = replicate corner_limit (of_bits binary32 0);
      pitches = replicate corner_limit (of_bits binary32 0);
      shades = replicate corner_limit 0;
      sheet = replicate place_count 0;
      used = replicate corner_limit false;
      second_used = replicate corner_limit false;
      second = replicate corner_limit (record { corner = 0; place = 0 });
      passes = replicate all_pass_words 0;
    }

-- ---- as the code makes them, with n corners, m passes, the role that holds, whether the patch line stands, and the arrays that hold the lines so
-- far; each is what Frame (crate frame) says of the line, as `frame/proofs` shows

-- an entry that is not 0
abbrev pub is_set : List ℕ → ℕ → Bool
is_set entries k = not (eqb (get_or entries k 0) 0)

-- a corner that a set uses
abbrev pub is_used : List Bool → ℕ → Bool
is_used used k = get_or used k false

abbrev pub first_twice : List ℕ → List Bool → HeldLabel → Bool
first_twice sheet used l = is_set sheet (place_of l.cell) || is_used used l.corner

-- a label of the second set has the place
abbrev pub has_place : ℕ → SecondLabel → Bool
has_place place l = eqb l.place place

-- the labels of the second set stand at the front of an array, n of them
abbrev pub second_twice : List Bool → List SecondLabel → ℕ → HeldLabel → Bool
second_twice used second n l = list_any (has_place (place_of l.cell)) (take n second) || is_used used l.corner

-- "6 [is] tried inside each set alone": in the second once the patch line stands
abbrev pub label_twice : Bool → Held → ℕ → HeldLabel → Bool
label_twice true h n l = second_twice h.second_used h.second n l
label_twice false h n l = first_twice h.sheet h.used l

abbrev pub shade_twice : List ℕ → HeldShade → Bool
shade_twice shades s = is_set shades s.corner

abbrev pub twice_as : Bool → Held → ℕ → HeldLine → Kind → Bool
twice_as patched h labels line kind = twice_of kind (label_twice patched h labels (label_in line.values)) (shade_twice h.shades (shade_in line.values))

abbrev pub twice_held : Bool → Held → ℕ → HeldLine → Bool
twice_held patched h labels line = twice_as patched h labels line (kind_at line.row)

unfoldable pub checked_held : ℕ → ℕ → Role → Bool → Held → ℕ → HeldLine → Checked
checked_held n m role patched h labels line =
    checks_in_order (λ r. outside_held r n line) (over_limit n m (kind_at line.row)) (twice_held patched h labels line)
    (forbidden role (kind_at line.row))

-- ---- what the functions ask for

pub record LabelFits (l : HeldLabel) : Type 0 where
  pub on : OnSheet l.cell
  pub entry : l.corner < corner_limit

-- n corners
pub record NumbersFine (n : ℕ) (line : HeldLine) : Type 0 where
  pub on : outside_held 4 n line ≡ false
  pub known : outside_held 5 n line ≡ false
